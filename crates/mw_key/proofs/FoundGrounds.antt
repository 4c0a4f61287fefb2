-- What is found for a ground type or a kernel type: just the type whose words stand there.
use Rattle.std.proofs.Common.{◌≡◌, ℕ, zero, suc, ◌+◌, ◌-◌, ◌≤◌, List, ◌∷◌, ◌++◌, refl, sym, ◌∙◌, ap, subst, arith, Some}
use Rattle.std.proofs.Common.{None}
use Rattle.std.proofs.lemmas.List.{append_assoc}
use Rattle.mw_term.specs.Terms.{GroundType, KernelType, base, product, of_ground, to}
use Rattle.mw_term.specs.Limits.{ground_nodes, kernel_nodes}
use Rattle.mw_key.specs.declared.form.TypeForm.{TypeForm}
use Rattle.mw_key.specs.declared.form.TypeForm.TheVariants.{Base, Pair as PairType, To}
use Rattle.mw_key.specs.Forms.{type_form_of}
use Rattle.mw_key.specs.Reading.{Finding, then_find, make, find_type_form, ground_parts, find_ground, kernel_parts}
use Rattle.mw_key.specs.Reading.{find_kernel_type}
use Rattle.mw_key.proofs.NodeWords.{after_found, made_found, then_at, make_at, node_spelled, node_from}
use Rattle.mw_key.proofs.FormWords.{type_form_word, type_form_found, type_form_from}
use Rattle.mw_key.proofs.WordLists.{ground_list, kernel_list}
use Rattle.mw_key.proofs.Steps.{ground_step}

-- what is found is a thing of these words and nodes, with what stands after it
pub record IsBefore {A : Type 0} (list : A → List (List ℕ)) (count : A → ℕ) (ws : List (List ℕ)) (n : ℕ) (a : A)
    (rest : List (List ℕ)) (m : ℕ) : Type 0 where
  pub words : ws ≡ list a ++ rest
  pub nodes : n ≡ count a + m

abbrev pub Stands : {A : Type 0} → (A → List (List ℕ)) → (A → ℕ) → List (List ℕ) → ℕ → Finding A → Type 0
Stands list count ws n None = Unit {0}
Stands list count ws n (Some found) = IsBefore list count ws n found.0 found.1 found.2

pub stands_at : {A : Type 0} (list : A → List (List ℕ)) (count : A → ℕ) (ws : List (List ℕ)) (n : ℕ) (x : Finding A)
    (a : A) (rest : List (List ℕ)) (m : ℕ) → Stands list count ws n x → x ≡ Some (a, rest, m)
    → IsBefore list count ws n a rest m
stands_at list count ws n x a rest m s e = subst (Stands list count ws n) e s

two_stand : {A B C : Type 0} (list : A → List (List ℕ)) (more : B → List (List ℕ)) (whole : C → List (List ℕ))
    (count : A → ℕ) (further : B → ℕ) (all : C → ℕ)
    (w : List ℕ) (ws vs us rest : List (List ℕ)) (n l m k : ℕ) (a : A) (b : B) (c : C)
    → whole c ≡ w ∷ (list a ++ more b) → all c ≡ suc (count a + further b)
    → ws ≡ w ∷ vs → n ≡ suc l → IsBefore list count vs l a us m → IsBefore more further us m b rest k
    → IsBefore whole all ws n c rest k
two_stand list more whole count further all w ws vs us rest n l m k a b c whole_is all_is e f first second =
    let p = first.nodes in
    let q = second.nodes in
    record {
      words = e ∙ ap (λ x. w ∷ x) (first.words ∙ ap (λ x. list a ++ x) second.words
          ∙ sym (append_assoc (list a) (more b) rest)) ∙ ap (λ x. x ++ rest) (sym whole_is);
      nodes = omega arith;
    }

-- a ground type after its first word
parts_stand : (part : List (List ℕ) → ℕ → Finding GroundType)
    → ((ws : List (List ℕ)) (n : ℕ) → Stands ground_list ground_nodes ws n (part ws n))
    → (f : TypeForm) (ws vs : List (List ℕ)) (n l : ℕ) → ws ≡ type_form_word f ∷ vs → n ≡ suc l
    → Stands ground_list ground_nodes ws n (ground_parts part f vs l)
parts_stand part holds (Base b) ws vs n l e f = record { words = e; nodes = omega arith }
parts_stand part holds To ws vs n l e f = tt
parts_stand part holds PairType ws vs n l e f =
    let P : Finding GroundType → Type 0 = λ x. Stands ground_list ground_nodes ws n x in
    after_found P (part vs l) _ tt λ s us m d. made_found P (product s) (part us m) tt λ t rest k g.
    two_stand ground_list ground_list ground_list ground_nodes ground_nodes ground_nodes (type_form_word PairType) ws vs
    us rest n l m k s t (product s t) refl refl e f
    (stands_at ground_list ground_nodes vs l (part vs l) s us m (holds vs l) d)
    (stands_at ground_list ground_nodes us m (part us m) t rest k (holds us m) g)

pub ground_stands : (depth : ℕ) (ws : List (List ℕ)) (n : ℕ) → Stands ground_list ground_nodes ws n
    (find_ground depth ws n)
unfolding find_ground
ground_stands zero ws n = tt
ground_stands (suc depth) ws n =
    let P : Finding GroundType → Type 0 = λ x. Stands ground_list ground_nodes ws n x in
    after_found P (find_type_form ws n) _ tt λ f vs l d.
    let first = node_spelled type_form_of ws n f vs l d in
    parts_stand (find_ground depth) (λ vs l. ground_stands depth vs l) f ws vs n l
    (first.0.words ∙ ap (λ w. w ∷ vs) (type_form_found first.0.word f first.0.spells)) first.1

-- a kernel type after its first word
kernel_parts_stand : (part : List (List ℕ) → ℕ → Finding GroundType)
    → ((ws : List (List ℕ)) (n : ℕ) → Stands ground_list ground_nodes ws n (part ws n))
    → (f : TypeForm) (ws vs : List (List ℕ)) (n l : ℕ) → ws ≡ type_form_word f ∷ vs → n ≡ suc l
    → Stands kernel_list kernel_nodes ws n (kernel_parts part f vs l)
kernel_parts_stand part holds To ws vs n l e f =
    let P : Finding KernelType → Type 0 = λ x. Stands kernel_list kernel_nodes ws n x in
    after_found P (part vs l) _ tt λ s us m d. made_found P (to s) (part us m) tt λ t rest k g.
    two_stand ground_list ground_list kernel_list ground_nodes ground_nodes kernel_nodes (type_form_word To) ws vs us
    rest n l m k s t (to s t) refl refl e f
    (stands_at ground_list ground_nodes vs l (part vs l) s us m (holds vs l) d)
    (stands_at ground_list ground_nodes us m (part us m) t rest k (holds us m) g)
kernel_parts_stand part holds form ws vs n l e f =
    let P : Finding KernelType → Type 0 = λ x. Stands kernel_list kernel_nodes ws n x in
    made_found P of_ground (ground_parts part form vs l) tt λ t rest k g.
    let ground = stands_at ground_list ground_nodes ws n (ground_parts part form vs l) t rest k
    (parts_stand part holds form ws vs n l e f) g in
    record { words = ground.words; nodes = ground.nodes }

pub kernel_stands : (depth : ℕ) (ws : List (List ℕ)) (n : ℕ) → Stands kernel_list kernel_nodes ws n
    (find_kernel_type depth ws n)
kernel_stands depth ws n =
    let P : Finding KernelType → Type 0 = λ x. Stands kernel_list kernel_nodes ws n x in
    after_found P (find_type_form ws n) _ tt λ f vs l d.
    let first = node_spelled type_form_of ws n f vs l d in
    kernel_parts_stand (find_ground depth) (ground_stands depth) f ws vs n l
    (first.0.words ∙ ap (λ w. w ∷ vs) (type_form_found first.0.word f first.0.spells)) first.1

-- the first word of a type, where it stands there
type_begins : {B : Type 0} (f : TypeForm) (ws vs : List (List ℕ)) (n l : ℕ)
    (next : TypeForm → List (List ℕ) → ℕ → Finding B) → ws ≡ type_form_word f ∷ vs → n ≡ suc l
    → then_find (find_type_form ws n) next ≡ next f vs l
type_begins f ws vs n l next e g = ap (λ x. then_find (find_type_form x n) next) e
    ∙ ap (λ x. then_find (find_type_form (type_form_word f ∷ vs) x) next) g
    ∙ then_at next (node_from type_form_of (type_form_word f) f vs l (type_form_from f))

-- the first word of two ground types, where they stand behind it
begins_two : {B : Type 0} (f : TypeForm) (s t : GroundType) (rest : List (List ℕ)) (m : ℕ)
    (next : TypeForm → List (List ℕ) → ℕ → Finding B)
    → then_find (find_type_form (type_form_word f ∷ ((ground_list s ++ ground_list t) ++ rest))
    (suc (ground_nodes s + ground_nodes t) + m)) next
    ≡ next f (ground_list s ++ (ground_list t ++ rest)) (ground_nodes s + (ground_nodes t + m))
begins_two f s t rest m next = type_begins f _ (ground_list s ++ (ground_list t ++ rest)) _
    (ground_nodes s + (ground_nodes t + m)) next
    (ap (λ x. type_form_word f ∷ x) (append_assoc (ground_list s) (ground_list t) rest)) (omega arith)

-- a ground type whose words stand there is found
pub ground_from : (t : GroundType) (depth : ℕ) (rest : List (List ℕ)) (m : ℕ) → ground_nodes t ≤ depth
    → find_ground depth (ground_list t ++ rest) (ground_nodes t + m) ≡ Some (t, rest, m)
ground_from (base b) depth rest m p =
    ground_step depth (1 + m) (ground_list (base b) ++ rest) (omega arith)
    ∙ type_begins (Base b) (ground_list (base b) ++ rest) rest (1 + m) m
    (λ form ws n. ground_parts (find_ground (depth - 1)) form ws n) refl (omega arith)
ground_from (product s t) depth rest m p =
    let first = ground_from s (depth - 1) (ground_list t ++ rest) (ground_nodes t + m) (omega arith) in
    ground_step depth (ground_nodes (product s t) + m) (ground_list (product s t) ++ rest) (omega arith)
    ∙ begins_two PairType s t rest m (λ form ws n. ground_parts (find_ground (depth - 1)) form ws n)
    ∙ then_at (λ s ws n. make (product s) (find_ground (depth - 1) ws n)) first
    ∙ make_at (product s) (ground_from t (depth - 1) rest m (omega arith))

-- two ground types whose words stand there are found
both_from : {B : Type 0} (join : GroundType → GroundType → B) (s t : GroundType) (depth : ℕ) (rest : List (List ℕ))
    (m : ℕ) → ground_nodes s ≤ depth → ground_nodes t ≤ depth
    → then_find (find_ground depth (ground_list s ++ (ground_list t ++ rest)) (ground_nodes s + (ground_nodes t + m)))
    (λ s ws n. make (join s) (find_ground depth ws n)) ≡ Some (join s t, rest, m)
both_from join s t depth rest m p q =
    then_at (λ s ws n. make (join s) (find_ground depth ws n))
    (ground_from s depth (ground_list t ++ rest) (ground_nodes t + m) p)
    ∙ make_at (join s) (ground_from t depth rest m q)

-- a kernel type whose words stand there is found
pub kernel_from : (k : KernelType) (depth : ℕ) (rest : List (List ℕ)) (m : ℕ) → kernel_nodes k ≤ depth
    → find_kernel_type depth (kernel_list k ++ rest) (kernel_nodes k + m) ≡ Some (k, rest, m)
kernel_from (to s t) depth rest m p =
    begins_two To s t rest m (λ form ws n. kernel_parts (find_ground depth) form ws n)
    ∙ both_from to s t depth rest m (omega arith) (omega arith)
kernel_from (of_ground (base b)) depth rest m p =
    type_begins (Base b) (ground_list (base b) ++ rest) rest (1 + m) m
    (λ form ws n. kernel_parts (find_ground depth) form ws n) refl (omega arith)
kernel_from (of_ground (product s t)) depth rest m p =
    begins_two PairType s t rest m (λ form ws n. kernel_parts (find_ground depth) form ws n)
    ∙ make_at of_ground (both_from product s t depth rest m (omega arith) (omega arith))
