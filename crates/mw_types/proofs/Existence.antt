-- Equations have a most general solution or none: by elimination of one unknown after another.
use Rattle.std.proofs.Common.{◌≡◌, ◌≢◌, ◌⊎◌, inl, inr, ℕ, suc, ◌+◌, ◌≤◌, ◌<◌, List, [], ◌∷◌, length, refl, ap, sym, ◌∙◌}
use Rattle.std.proofs.Common.{arith}
use Rattle.mw_types.specs.Types.{TypeExpression, int_ty, bool_ty, unknown, pair_ty, function_ty, code_ty, closed_ty}
use Rattle.mw_types.specs.Types.{apply}
use Rattle.mw_types.specs.Types.{Assignment, value, nodes, size, Substitution, after}
use Rattle.mw_types.specs.Equations.{TypeEquation, Solves, Solvable}
use Rattle.mw_types.specs.Walks.{In}
use Rattle.mw_types.proofs.Lists.{Is, same, other, is}

-- two assignments that are one everywhere
pub record Same (a b : Assignment) : Type 0 where
  pub types : (u : ℕ) → a.ty u ≡ b.ty u
  pub classifiers : (c : ℕ) → a.classifier c ≡ b.classifier c

pub value_same : {a b : Assignment} → Same a b → (t : TypeExpression) → value a t ≡ value b t
value_same k (unknown u) = k.types u
value_same k (pair_ty s t) = rw (value_same k s, value_same k t) refl
value_same k (function_ty s t) = rw (value_same k s, value_same k t) refl
value_same k (code_ty c t) = rw (k.classifiers c, value_same k t) refl
value_same k (closed_ty t) = rw (value_same k t) refl
value_same k t = refl

pub solves_same : {a b : Assignment} → Same a b → (es : List TypeEquation) → Solves a es → Solves b es
solves_same k [] h = tt
solves_same k (e ∷ es) h = (sym (value_same k e.left) ∙ h.0 ∙ value_same k e.right, solves_same k es h.1)

-- a substitution in equations
pub apply_all : Substitution → List TypeEquation → List TypeEquation
apply_all s [] = []
apply_all s (e ∷ es) = record { left = apply s e.left; right = apply s e.right } ∷ apply_all s es

pub value_apply : (b : Assignment) (s : Substitution) (t : TypeExpression) → value b (apply s t) ≡ value (after b s) t
value_apply b s (pair_ty l r) = rw (value_apply b s l, value_apply b s r) refl
value_apply b s (function_ty l r) = rw (value_apply b s l, value_apply b s r) refl
value_apply b s (code_ty c t) = rw (value_apply b s t) refl
value_apply b s (closed_ty t) = rw (value_apply b s t) refl
value_apply b s t = refl

pub from_applied : (b : Assignment) (s : Substitution) (es : List TypeEquation) → Solves b (apply_all s es)
    → Solves (after b s) es
unfolding apply_all
from_applied b s [] h = tt
from_applied b s (e ∷ es) h = (sym (value_apply b s e.left) ∙ h.0 ∙ value_apply b s e.right, from_applied b s es h.1)

pub to_applied : (b : Assignment) (s : Substitution) (es : List TypeEquation) → Solves (after b s) es
    → Solves b (apply_all s es)
unfolding apply_all
to_applied b s [] h = tt
to_applied b s (e ∷ es) h = (value_apply b s e.left ∙ h.0 ∙ sym (value_apply b s e.right), to_applied b s es h.1)

-- a substitution that solves, and changes no solution
pub record General (es : List TypeEquation) (s : Substitution) : Type 0 where
  pub sound : (b : Assignment) → Solves (after b s) es
  pub keeps : (a : Assignment) → Solves a es → Same a (after a s)

abbrev pub HasGeneral : List TypeEquation → Type 0
HasGeneral es = (s : Substitution) × General es s

-- equations have a most general solution, or none
abbrev pub Decided : List TypeEquation → Type 0
Decided es = HasGeneral es ⊎ (Solvable es → ⊥)

-- the same solutions
pub turn : (es fs : List TypeEquation) → ((a : Assignment) → Solves a es → Solves a fs)
    → ((a : Assignment) → Solves a fs → Solves a es) → Decided es → Decided fs
turn es fs to from (inl f) =
    inl (f.0, record { sound = λ b. to (after b f.0) (f.1.sound b); keeps = λ a h. f.1.keeps a (from a h) })
turn es fs to from (inr n) = inr (λ h. n (h.0, from h.0 h.1))

abbrev pub then : Substitution → Substitution → Substitution
then s k = record { ty = λ u. apply s (k.ty u); classifier = λ c. s.classifier (k.classifier c) }

-- first a substitution that changes no solution, then a most general solution of what is left
pub compose : (es fs : List TypeEquation) (k : Substitution) → ((a : Assignment) → Solves a fs → Same a (after a k))
    → ((a : Assignment) → Solves a fs → Solves a es)
    → ((b : Assignment) → Solves b (apply_all k es) → Solves (after b k) fs) → Decided (apply_all k es) → Decided fs
compose es fs k keeps some enough (inl f) = inl (
  then f.0 k,
  record {
    sound = λ b. solves_same (record { types = λ u. sym (value_apply b f.0 (k.ty u)); classifiers = λ c. refl }) fs
        (enough (after b f.0) (f.1.sound b));
    keeps = λ a h.
        let p = keeps a h in
        let q = f.1.keeps a (to_applied a k es (solves_same p es (some a h))) in
        record {
          types = λ u. p.types u ∙ value_same q (k.ty u) ∙ sym (value_apply a f.0 (k.ty u));
          classifiers = λ c. p.classifiers c ∙ q.classifiers (k.classifier c);
        };
  },
)
compose es fs k keeps some enough (inr n) =
    inr (λ h. n (h.0, to_applied h.0 k es (solves_same (keeps h.0 h.1) es (some h.0 h.1))))

-- the unknowns of a type are in a list
abbrev pub Over : List ℕ → TypeExpression → Type 0
Over us int_ty = Unit {0}
Over us bool_ty = Unit {0}
Over us (unknown u) = In u us
Over us (pair_ty s t) = Over us s × Over us t
Over us (function_ty s t) = Over us s × Over us t
Over us (code_ty c t) = Over us t
Over us (closed_ty t) = Over us t

abbrev pub AllOver : List ℕ → List TypeEquation → Type 0
AllOver us [] = Unit {0}
AllOver us (e ∷ es) = (Over us e.left × Over us e.right) × AllOver us es

abbrev pub IsAbsent : ℕ → TypeExpression → Type 0
IsAbsent u int_ty = Unit {0}
IsAbsent u bool_ty = Unit {0}
IsAbsent u (unknown v) = v ≢ u
IsAbsent u (pair_ty s t) = IsAbsent u s × IsAbsent u t
IsAbsent u (function_ty s t) = IsAbsent u s × IsAbsent u t
IsAbsent u (code_ty c t) = IsAbsent u t
IsAbsent u (closed_ty t) = IsAbsent u t

-- an unknown is in no type that it is equal to, since finite types have no part of their own size
pub data Occurs (u : ℕ) (t : TypeExpression) : Type 0 where
  absent : IsAbsent u t → Occurs u t
  itself : t ≡ unknown u → Occurs u t
  within : ((a : Assignment) → size (a.ty u) < size (value a t)) → Occurs u t

no_larger : {u : ℕ} {t : TypeExpression} → Occurs u t → IsAbsent u t
    ⊎ ((a : Assignment) → size (a.ty u) ≤ size (value a t))
no_larger (absent n) = inl n
no_larger (itself e) = inr (λ a. rw e (omega arith))
no_larger (within lt) = inr (λ a. let p = lt a in omega arith)

occurs_two : {u : ℕ} {s t : TypeExpression} → Occurs u s → Occurs u t → (IsAbsent u s × IsAbsent u t)
    ⊎ ((a : Assignment) → size (a.ty u) < size (value a s) + size (value a t) + 1)
occurs_two p q = elim (no_larger p) [
  | inl n ↦ elim (no_larger q) [
    | inl m ↦ inl (n, m)
    | inr le ↦ inr (λ a. let k = le a in omega arith)
  ]
  | inr le ↦ inr (λ a. let k = le a in omega arith)
]

pub occurs : (u : ℕ) (t : TypeExpression) → Occurs u t
occurs u (unknown v) = elim (is v u) [ same e ↦ itself (ap unknown e) | other n ↦ absent n ]
occurs u (pair_ty s t) = elim (occurs_two (occurs u s) (occurs u t)) [ inl n ↦ absent n | inr lt ↦ within lt ]
occurs u (function_ty s t) = elim (occurs_two (occurs u s) (occurs u t)) [ inl n ↦ absent n | inr lt ↦ within lt ]
occurs u (code_ty c t) =
    elim (no_larger (occurs u t)) [ inl n ↦ absent n | inr le ↦ within (λ a. let k = le a in omega arith) ]
occurs u (closed_ty t) =
    elim (no_larger (occurs u t)) [ inl n ↦ absent n | inr le ↦ within (λ a. let k = le a in omega arith) ]
occurs u t = absent tt

-- a list without a number
kept_in : {x u : ℕ} → Is x u → ℕ → List ℕ → List ℕ
kept_in (same e) y ys = ys
kept_in (other n) y ys = y ∷ ys

pub without : ℕ → List ℕ → List ℕ
without u [] = []
without u (x ∷ xs) = kept_in (is x u) x (without u xs)

kept_le : {x u : ℕ} (d : Is x u) (y : ℕ) (xs ys : List ℕ) → length ys ≤ length xs → length (kept_in d y ys)
    ≤ suc (length xs)
unfolding kept_in
kept_le (same e) y xs ys le = omega arith
kept_le (other n) y xs ys le = omega arith

without_le : (u : ℕ) (xs : List ℕ) → length (without u xs) ≤ length xs
unfolding without
without_le u [] = omega arith
without_le u (x ∷ xs) = kept_le (is x u) x xs (without u xs) (without_le u xs)

kept_lt : {x u : ℕ} (d : Is x u) (xs ys : List ℕ) → (u ≡ x) ⊎ In u xs → length ys ≤ length xs
    → (In u xs → length ys < length xs) → length (kept_in d x ys) < suc (length xs)
unfolding kept_in
kept_lt (same e) xs ys k le lt = omega arith
kept_lt (other n) xs ys (inl e) le lt = absurd (n (sym e))
kept_lt (other n) xs ys (inr k) le lt = let p = lt k in omega arith

pub without_lt : (u : ℕ) (xs : List ℕ) → In u xs → length (without u xs) < length xs
unfolding without
without_lt u [] h = absurd h
without_lt u (x ∷ xs) h = kept_lt (is x u) xs (without u xs) h (without_le u xs) (without_lt u xs)

kept_has : {x u : ℕ} (v : ℕ) (d : Is x u) (xs ys : List ℕ) → v ≢ u → (v ≡ x) ⊎ In v xs → (In v xs → In v ys)
    → In v (kept_in d x ys)
unfolding kept_in
kept_has v (same e) xs ys n (inl q) f = absurd (n (q ∙ e))
kept_has v (same e) xs ys n (inr k) f = f k
kept_has v (other m) xs ys n (inl q) f = inl q
kept_has v (other m) xs ys n (inr k) f = inr (f k)

in_without : (u v : ℕ) (xs : List ℕ) → v ≢ u → In v xs → In v (without u xs)
unfolding without
in_without u v [] n h = absurd h
in_without u v (x ∷ xs) n h = kept_has v (is x u) xs (without u xs) n h (in_without u v xs n)

over_without : (u : ℕ) (us : List ℕ) (t : TypeExpression) → IsAbsent u t → Over us t → Over (without u us) t
over_without u us (unknown v) n o = in_without u v us n o
over_without u us (pair_ty s t) n o = (over_without u us s n.0 o.0, over_without u us t n.1 o.1)
over_without u us (function_ty s t) n o = (over_without u us s n.0 o.0, over_without u us t n.1 o.1)
over_without u us (code_ty c t) n o = over_without u us t n o
over_without u us (closed_ty t) n o = over_without u us t n o
over_without u us t n o = tt

-- a type for one unknown
chosen : {v u : ℕ} → Is v u → TypeExpression → TypeExpression
chosen (same e) t = t
chosen {v = v} (other n) t = unknown v

pub put : ℕ → TypeExpression → Substitution
put u t = record { ty = λ v. chosen (is v u) t; classifier = λ c. c }

over_put : (u : ℕ) (t : TypeExpression) (us : List ℕ) → IsAbsent u t → Over us t → (r : TypeExpression) → Over us r
    → Over (without u us) (apply (put u t) r)
unfolding put chosen
over_put u t us n k (unknown v) o = step (is v u)
  where
    step : (d : Is v u) → Over (without u us) (chosen d t)
    step (same e) = over_without u us t n k
    step (other m) = in_without u v us m o
over_put u t us n k (pair_ty l r) o = (over_put u t us n k l o.0, over_put u t us n k r o.1)
over_put u t us n k (function_ty l r) o = (over_put u t us n k l o.0, over_put u t us n k r o.1)
over_put u t us n k (code_ty c r) o = over_put u t us n k r o
over_put u t us n k (closed_ty r) o = over_put u t us n k r o
over_put u t us n k r o = tt

pub all_over_put : (u : ℕ) (t : TypeExpression) (us : List ℕ) → IsAbsent u t → Over us t → (es : List TypeEquation)
    → AllOver us es → AllOver (without u us) (apply_all (put u t) es)
unfolding apply_all
all_over_put u t us n k [] o = tt
all_over_put u t us n k (e ∷ es) o =
    ((over_put u t us n k e.left o.0.0, over_put u t us n k e.right o.0.1), all_over_put u t us n k es o.1)

pub put_keeps : (u : ℕ) (t : TypeExpression) (a : Assignment) → a.ty u ≡ value a t → Same a (after a (put u t))
unfolding put chosen
put_keeps u t a e = record { types = λ v. step v (is v u); classifiers = λ c. refl }
  where
    step : (v : ℕ) (d : Is v u) → a.ty v ≡ value a (chosen d t)
    step v (same q) = ap a.ty q ∙ e
    step v (other n) = refl

-- where the unknown is absent, its type is not changed
pub put_absent : (u : ℕ) (t : TypeExpression) (b : Assignment) (r : TypeExpression) → IsAbsent u r
    → value (after b (put u t)) r ≡ value b r
unfolding put chosen
put_absent u t b (unknown v) n = step (is v u)
  where
    step : (d : Is v u) → value b (chosen d t) ≡ b.ty v
    step (same e) = absurd (n e)
    step (other k) = refl
put_absent u t b (pair_ty l r) n = rw (put_absent u t b l n.0, put_absent u t b r n.1) refl
put_absent u t b (function_ty l r) n = rw (put_absent u t b l n.0, put_absent u t b r n.1) refl
put_absent u t b (code_ty c r) n = rw (put_absent u t b r n) refl
put_absent u t b (closed_ty r) n = rw (put_absent u t b r n) refl
put_absent u t b r n = refl

pub put_here : (u : ℕ) (t : TypeExpression) (b : Assignment) → (after b (put u t)).ty u ≡ value b t
unfolding put chosen
put_here u t b = step (is u u)
  where
    step : (d : Is u u) → value b (chosen d t) ≡ value b t
    step (same e) = refl
    step (other n) = absurd (n refl)

-- one classifier unknown for another
named : {v c : ℕ} → Is v c → ℕ → ℕ
named (same e) d = d
named {v = v} (other n) d = v

pub rename : ℕ → ℕ → Substitution
rename c d = record { ty = λ u. unknown u; classifier = λ v. named (is v c) d }

pub rename_keeps : (c d : ℕ) (a : Assignment) → a.classifier c ≡ a.classifier d → Same a (after a (rename c d))
unfolding rename named
rename_keeps c d a e = record { types = λ u. refl; classifiers = λ v. step v (is v c) }
  where
    step : (v : ℕ) (k : Is v c) → a.classifier v ≡ a.classifier (named k d)
    step v (same q) = ap a.classifier q ∙ e
    step v (other n) = refl

pub renamed : (c d : ℕ) (b : Assignment) → (after b (rename c d)).classifier c ≡ (after b (rename c d)).classifier d
unfolding rename named
renamed c d b = ap b.classifier (step (is c c) (is d c))
  where
    step : (k : Is c c) (l : Is d c) → named k d ≡ named l d
    step (same e) (same q) = refl
    step (same e) (other n) = refl
    step (other n) l = absurd (n refl)

rename_nodes : (c d : ℕ) (t : TypeExpression) → nodes (apply (rename c d) t) ≡ nodes t
unfolding rename
rename_nodes c d (pair_ty s t) = rw (rename_nodes c d s, rename_nodes c d t) refl
rename_nodes c d (function_ty s t) = rw (rename_nodes c d s, rename_nodes c d t) refl
rename_nodes c d (code_ty e t) = rw (rename_nodes c d t) refl
rename_nodes c d (closed_ty t) = rw (rename_nodes c d t) refl
rename_nodes c d t = refl

rename_over : (c d : ℕ) (us : List ℕ) (t : TypeExpression) → Over us t → Over us (apply (rename c d) t)
unfolding rename
rename_over c d us (unknown u) o = o
rename_over c d us (pair_ty s t) o = (rename_over c d us s o.0, rename_over c d us t o.1)
rename_over c d us (function_ty s t) o = (rename_over c d us s o.0, rename_over c d us t o.1)
rename_over c d us (code_ty e t) o = rename_over c d us t o
rename_over c d us (closed_ty t) o = rename_over c d us t o
rename_over c d us t o = tt

abbrev pub weight : List TypeEquation → ℕ
weight [] = 0
weight (e ∷ es) = nodes e.left + nodes e.right + weight es

pub rename_weight : (c d : ℕ) (es : List TypeEquation) → weight (apply_all (rename c d) es) ≡ weight es
unfolding apply_all
rename_weight c d [] = refl
rename_weight c d (e ∷ es) = rw (rename_nodes c d e.left, rename_nodes c d e.right, rename_weight c d es) refl

pub rename_all_over : (c d : ℕ) (us : List ℕ) (es : List TypeEquation) → AllOver us es
    → AllOver us (apply_all (rename c d) es)
unfolding apply_all
rename_all_over c d us [] o = tt
rename_all_over c d us (e ∷ es) o =
    ((rename_over c d us e.left o.0.0, rename_over c d us e.right o.0.1), rename_all_over c d us es o.1)
