-- From what nodes stand for to the answer.
use Rattle.std.proofs.Common.{length-append, ◌≡◌, inl, inr, ℕ, zero, suc, ◌+◌, ◌-◌, ◌≤◌, ◌<◌, map, List, [], ◌∷◌, ◌++◌}
use Rattle.std.proofs.Common.{length, refl, ap, sym, subst, ◌∙◌, arith}
use Rattle.std.proofs.lemmas.List.{get_or_default}
use Rattle.std.specs.Prelude.{slice_index_or, slice_get, Some, All}
use Rattle.mw_types.specs.Types.{TypeExpression}
use Rattle.mw_types.specs.Types.{type_of, Assignment, value, nodes, Substitution, after, Within}
use Rattle.mw_types.specs.Equations.{TypeEquation, AllWithin, Solves, Agree, MostGeneral, IsSmall, StaysWithin, Fine}
use Rattle.mw_types.specs.Equations.{IsPrincipalType}
use Rattle.mw_types.specs.Forest.{Low, Leads, here, up}
use Rattle.mw_types.specs.Satisfying.{IsShaped, Means, Sound, Inside}
use Rattle.mw_types.specs.Stands.{Stands, Names, s_up, s_free, s_int, s_bool, s_pair, s_arrow, s_code, s_closed}
use Rattle.mw_types.specs.Solutions.{Solution}
use Rattle.mw_types.specs.Walks.{AllSized}
use Rattle.mw_types.specs.Answering.{Ready, name_in, NamedTo, IsName, StandsFor, StandsForOne, HasRoom, TreesTo, RootAt}
use Rattle.mw_types.specs.Answering.{Answers}
use Rattle.mw_types.specs.declared.state.Shape.{Shape}
use Rattle.mw_types.specs.declared.state.Shape.TheVariants.{Pair, Arrow, Code, Closed}
use Rattle.mw_types.specs.declared.state.State.{State}
use Rattle.mw_types.specs.declared.types.Ty.{Ty}
use Rattle.mw_types.specs.declared.types.Ty.TheVariants.{Int as int_tree}
use Rattle.mw_types.proofs.Lists.{same, other, is, lt_or_le}
use Rattle.mw_types.proofs.Growing.{get_left, get_last, each_more, agree_less, agree_then}
use Rattle.mw_types.proofs.Elimination.{nodes_some}
use Rattle.std.proofs.lemmas.List.{length-map}
use Rattle.mw_types.proofs.Walking.{leads_stands}
use Rattle.mw_types.proofs.General.{Inv, root_inv, up_inv, unique}
use Rattle.mw_types.proofs.Verdicts.{value_agree}
use Rattle.mw_types.proofs.Reps.{answer, answer_sound, answer_general, answer_classifier, answer_stands}

-- what a node stands for, its representative stands for
stands_root : {ps : List ℕ} {hs : List Shape} {k : ℕ → ℕ} {i r : ℕ} {t : TypeExpression} → Leads ps i r
    → Stands ps hs k i t → Stands ps hs k r t
stands_root here h = h
stands_root {ps = ps} {hs = hs} {k = k} {t = t} (up {p = p} {r = r} l lt e) h = elim (is r p) [
  | same q ↦ subst (λ x. Stands ps hs k x t) (sym q) (stands_root l h)
  | other n ↦ up_inv r e n (stands_root l h)
]

pub at_shape : {s : State} {i r : ℕ} {h k : Shape} → h ≡ k → RootAt s i r h → RootAt s i r k
at_shape e a = record { leads = a.leads; root = a.root; shape = a.shape ∙ e }

-- each type has a node
pub has_node : (s : State) (names : List ℕ) (i room : ℕ) → HasRoom s names i room → 1 ≤ room
has_node s names i room h = omega (arith, nodes_some h.0, h.2)

-- a part of a node's shape: inside, with room for its type
abbrev Part : State → List ℕ → ℕ → ℕ → Type 0
Part s names i room = (i < length s.parent.items) × HasRoom s names i (room - 1)

shape_inside : (s : State) {i r : ℕ} {h : Shape} → Sound s → RootAt s i r h
    → Inside (length s.parent.items) (length s.classifier.items) h
shape_inside s {r = r} p a = subst (λ x. Inside (length s.parent.items) (length s.classifier.items) x) a.shape
    (p.inside r)

inv : (s : State) (names : List ℕ) {i r : ℕ} {h : Shape} {t : TypeExpression} → RootAt s i r h → StandsFor s names i t
    → Inv s.parent.items s.shape.items (name_in names) h r t
inv s names {r = r} {t = t} a k = subst (λ x. Inv s.parent.items s.shape.items (name_in names) x r t) a.shape
    (root_inv a.root (stands_root a.leads k))

-- what a shape's parts have
abbrev pub Parts : State → List ℕ → ℕ → Shape → Type 0
Parts s names room (Pair l m) = Part s names l room × Part s names m room
Parts s names room (Arrow l m) = Part s names l room × Part s names m room
Parts s names room (Code c m) = (c < length s.classifier.items) × Part s names m room
Parts s names room (Closed m) = Part s names m room
Parts s names room h = Unit {0}

pub parts : (s : State) (names : List ℕ) {i r : ℕ} (room : ℕ) (h : Shape) → Sound s → RootAt s i r h
    → HasRoom s names i room → (1 ≤ room) × Parts s names room h
parts s names room (Pair l m) p a h =
    let z = shape_inside s p a in
    let v = inv s names a h.1 in
    let n : nodes h.0 ≡ nodes v.0 + nodes v.1 + 1 = ap nodes v.2 in
    (omega arith, ((z.0, (v.0, v.3, omega arith)), (z.1, (v.1, v.4, omega arith))))
parts s names room (Arrow l m) p a h =
    let z = shape_inside s p a in
    let v = inv s names a h.1 in
    let n : nodes h.0 ≡ nodes v.0 + nodes v.1 + 1 = ap nodes v.2 in
    (omega arith, ((z.0, (v.0, v.3, omega arith)), (z.1, (v.1, v.4, omega arith))))
parts s names room (Code c m) p a h =
    let z = shape_inside s p a in
    let v = inv s names a h.1 in
    let n : nodes h.0 ≡ nodes v.0 + 1 = ap nodes v.1 in
    (omega arith, (z.0, (z.1, (v.0, v.2, omega arith))))
parts s names room (Closed m) p a h =
    let v = inv s names a h.1 in
    let n : nodes h.0 ≡ nodes v.0 + 1 = ap nodes v.1 in
    (omega arith, (shape_inside s p a, (v.0, v.2, omega arith)))
parts s names {i = i} room f p a h = (has_node s names i room h, tt)

-- one more representative
pub name_more : (cs names : List ℕ) (c r : ℕ) → Low cs → c < length cs → NamedTo cs names c → IsName cs names c r
    → NamedTo cs (names ++ r ∷ []) (c + 1)
name_more cs names c r low lt h k = record {
  long = omega (arith, length-append names (r ∷ []), h.long);
  low = each_more (λ d x. x ≤ d) names r 0 c h.long h.low (elim k [
    | inl x ↦ omega (arith, x.1)
    | inr x ↦ let z = h.low (slice_index_or cs c 0) x.0 in omega (arith, x.0, x.1)
  ]);
  one = λ d dl. elim (is d c) [
    | same q ↦ elim k [
      | inl x ↦ ap (name_in (names ++ r ∷ [])) (q ∙ sym x.0 ∙ ap (λ y. slice_index_or cs y 0) (sym q))
      | inr x ↦ get_last names r 0 d (q ∙ sym h.long) ∙ x.1 ∙ sym (left (slice_index_or cs c 0) x.0)
          ∙ ap (λ y. name_in (names ++ r ∷ []) (slice_index_or cs y 0)) (sym q)
    ]
    | other n ↦ let p = low d (omega arith) in left d (omega arith) ∙ h.one d (omega arith)
        ∙ sym (left (slice_index_or cs d 0) (omega arith))
  ];
  own = λ a s. each_more (λ d x. a x ≡ a d) names r 0 c h.long (h.own a s) (elim k [
    | inl x ↦ ap a x.1
    | inr x ↦ ap a x.1 ∙ h.own a s (slice_index_or cs c 0) x.0 ∙ sym (s c lt)
  ]);
}
  where
    left : (d : ℕ) → d < c → name_in (names ++ r ∷ []) d ≡ name_in names d
    left d dl = get_left names r 0 d (omega (arith, h.long))

pub no_names : (cs : List ℕ) → NamedTo cs [] 0
no_names cs = record {
  long = refl;
  low = λ c lt. absurd (omega arith);
  one = λ c lt. absurd (omega arith);
  own = λ a s c lt. absurd (omega arith);
}

-- one more unknown
pub tree_more : (s : State) (names roots : List ℕ) (trees : List Ty) (u r : ℕ) (t : Ty) → TreesTo s names roots trees u
    → r ≤ u → Leads s.parent.items u r → slice_index_or s.parent.items r 0 ≡ r
    → (slice_index_or s.parent.items u 0 ≡ u → StandsFor s names u (type_of t)) → TreesTo s names (roots ++ r ∷ [])
    (trees ++ t ∷ []) (u + 1)
tree_more s names roots trees u r t h le l e k = record {
  root_count = omega (arith, length-append roots (r ∷ []), h.root_count);
  tree_count = omega (arith, length-append trees (t ∷ []), h.tree_count);
  below = each_more (λ i x. x ≤ i) roots r 0 u h.root_count h.below le;
  leads = each_more (λ i x. Leads s.parent.items i x) roots r 0 u h.root_count h.leads l;
  rooted = each_more (λ i x. slice_index_or s.parent.items x 0 ≡ x) roots r 0 u h.root_count h.rooted e;
  own = each_more (λ i x. slice_index_or s.parent.items i 0 ≡ i → StandsFor s names i (type_of x)) trees t int_tree u
      h.tree_count h.own k;
}

pub no_trees : (s : State) (names : List ℕ) → TreesTo s names [] [] 0
no_trees s names = record {
  root_count = refl;
  tree_count = refl;
  below = λ i lt. absurd (omega arith);
  leads = λ i lt. absurd (omega arith);
  rooted = λ i lt. absurd (omega arith);
  own = λ i lt. absurd (omega arith);
}

map_at : {A B : Type 0} (f : A → B) (xs : List A) (i : ℕ) (d : A) (e : B) → i < length xs
    → slice_index_or (map f xs) i e ≡ f (slice_index_or xs i d)
map_at f [] i d e lt = absurd (omega arith)
map_at f (x ∷ xs) zero d e lt = refl
map_at f (x ∷ xs) (suc i) d e lt = map_at f xs i d e (omega arith)

-- an unknown's type, as it is read
pub read_type : (roots : List ℕ) (trees : List Ty) (u r : ℕ) (t : Ty) → u < length roots → r ≡ slice_index_or roots u r
    → r < length trees → t ≡ slice_index_or trees r t → slice_get (map (λ k. slice_index_or trees k int_tree) roots) u
    ≡ Some t
read_type [] trees u r t lt e ll f = absurd (omega arith)
read_type (x ∷ roots) trees zero r t lt e ll f =
    ap Some (ap (λ k. slice_index_or trees k int_tree) (sym e) ∙ sym (get_or_default trees r t int_tree ll) ∙ sym f)
read_type (x ∷ roots) trees (suc u) r t lt e ll f = read_type roots trees u r t (omega arith) e ll f

pub roots_inside : {s : State} {names roots : List ℕ} {trees : List Ty} {n : ℕ} → TreesTo s names roots trees n
    → All (λ r. r < length trees) roots
roots_inside {roots = roots} h = λ i d lt. let p = h.below i (omega (arith, h.root_count)) in let q =
    get_or_default roots i d 0 lt in omega (arith, h.root_count, h.tree_count)

pub answers : (s : State) (names roots : List ℕ) (trees : List Ty) (n : ℕ) → n ≤ length s.parent.items
    → NamedTo s.classifier.items names (length s.classifier.items) → TreesTo s names roots trees n
    → Answers n s
    (record { types = map (λ r. slice_index_or trees r int_tree) roots; classifiers = names; roots = roots })
answers s names roots trees n le d h = record {
  named = d;
  long = length-map roots (λ r. slice_index_or trees r int_tree) ∙ h.root_count;
  each = λ u lt. let p = h.below u lt in
      rw (map_at (λ r. slice_index_or trees r int_tree) roots u 0 int_tree (omega (arith, h.root_count)))
      (leads_stands (h.leads u lt) (h.own (slice_index_or roots u 0) (omega arith) (h.rooted u lt)));
}

pub ready_at : {n k m l : ℕ} {es fs : List TypeEquation} {s : State} → n ≡ k → m ≡ l → es ≡ fs → Ready n m es s
    → Ready k l fs s
ready_at e f g h = rw (← e, ← f, ← g) h

-- each small unknown has room
pub room : (s : State) (sizes : List ℕ) (n : ℕ) → n ≤ length s.parent.items → AllSized s sizes
    → ((u : ℕ) → u < n → slice_index_or sizes u 0 ≤ 10000) → (names : List ℕ) (u : ℕ) → u < n → HasRoom s names u 10000
room s sizes n le all small names u lt =
    let z = all.each u (omega arith) in
    let k = name_in names in
    (z.type k, z.stands k, (let c = z.count k in let p = small u lt in omega arith))

pub solves_agree : {n m : ℕ} {a b : Assignment} → Agree n m a b → (es : List TypeEquation) → AllWithin n m es
    → Solves a es → Solves b es
solves_agree k [] w h = tt
solves_agree k (e ∷ es) w h =
    (sym (value_agree k e.left w.0.0) ∙ h.0 ∙ value_agree k e.right w.0.1, solves_agree k es w.1 h.1)

-- a node's type names unknowns and representatives of classifier unknowns alone
stands_within : (s : State) (names : List ℕ) (n m : ℕ) → Sound s → IsShaped n s.parent.items s.shape.items
    → ((c : ℕ) → c < length s.classifier.items → name_in names c < m) → {i : ℕ} {t : TypeExpression}
    → i < length s.parent.items → StandsFor s names i t → Within n m t
stands_within s names n m p f k lt (s_up {i = i} {p = r} il e o h) =
    stands_within s names n m p f k (let z = p.low i il in omega arith) h
stands_within s names n m p f k lt (s_free {i = i} r e) =
    elim (lt_or_le i n) [ inl il ↦ il | inr le ↦ absurd (f i le lt r e) ]
stands_within s names n m p f k lt (s_int r e) = tt
stands_within s names n m p f k lt (s_bool r e) = tt
stands_within s names n m p f k lt (s_pair {i = i} r e h l) = let z = rw e at (p.inside i) in
    (stands_within s names n m p f k z.0 h, stands_within s names n m p f k z.1 l)
stands_within s names n m p f k lt (s_arrow {i = i} r e h l) = let z = rw e at (p.inside i) in
    (stands_within s names n m p f k z.0 h, stands_within s names n m p f k z.1 l)
stands_within s names n m p f k lt (s_code {i = i} {c = c} r e d h) = let z = rw e at (p.inside i) in
    (let y = k c z.0 in omega (arith, d), stands_within s names n m p f k z.1 h)
stands_within s names n m p f k lt (s_closed {i = i} r e h) = let z = rw e at (p.inside i) in
    stands_within s names n m p f k z h

-- types that the unknowns stand for, with representatives of the classifier unknowns, are a most general solution
module _ (n m : ℕ) (es : List TypeEquation) (s : State) (within : AllWithin n m es) (ready : Ready n m es s)
    (names : List ℕ) (named : NamedTo s.classifier.items names (length s.classifier.items))
    (types : ℕ → TypeExpression) (each : (u : ℕ) → u < n → StandsFor s names u (types u)) where
  stood : Substitution
  stood = record { ty = types; classifier = name_in names }

  are_names : Names s.classifier.items (name_in names)
  are_names = record { one = λ c lt. named.one c lt; own = λ a h c lt. named.own a h c lt }

  σ : Substitution
  σ = answer s ready.sizes ready.stated.sound ready.empty ready.all (name_in names) are_names

  same_types : (u : ℕ) → u < n → σ.ty u ≡ types u
  unfolding σ
  same_types u lt =
      unique (answer_stands s ready.sizes ready.stated.sound ready.empty ready.all (name_in names) are_names u
      (let p = ready.stated.long in omega arith)) (each u lt)

  after_agree : (b : Assignment) → Agree n m (after b σ) (after b stood)
  unfolding σ stood
  after_agree b =
      record {
        types = λ u lt. ap (value b) (same_types u lt);
        classifiers = λ c lt.
            ap b.classifier (answer_classifier s ready.sizes ready.stated.sound ready.empty ready.all (name_in names)
            are_names c);
      }

  stands_sound : (b : Assignment) → Means s (after b σ)
  unfolding σ
  stands_sound = answer_sound s ready.sizes ready.stated.sound ready.empty ready.all (name_in names) are_names

  stands_general : (a : Assignment) → Means s a → Agree (length s.parent.items) (length s.classifier.items) a
      (after a σ)
  unfolding σ
  stands_general = answer_general s ready.sizes ready.stated.sound ready.empty ready.all (name_in names) are_names

  pub most_general : MostGeneral n m es (record { ty = types; classifier = name_in names })
  unfolding stood
  most_general = record {
    sound = λ b. solves_agree (after_agree b) es within (ready.stated.out (after b σ) (stands_sound b));
    general = λ a h. let x = ready.stated.more a h in (
      x.0,
      agree_then x.1 (agree_then (agree_less ready.stated.long (omega (arith, ready.stated.classifier_count))
          (stands_general x.0 x.2)) (after_agree x.0)),
    );
  }

  pub is_small : IsSmall n (record { ty = types; classifier = name_in names })
  is_small u lt =
      let h = room s ready.sizes n ready.stated.long ready.all ready.small names u lt in
      rw (unique (each u lt) h.1) h.2

  named_within : (c : ℕ) → c < length s.classifier.items → name_in names c < m
  named_within c lt = let z = named.low c lt in let e = ready.stated.classifier_count in omega arith

  pub stays_within : StaysWithin n m (record { ty = types; classifier = name_in names })
  stays_within = record {
    types = λ u lt. stands_within s names n m ready.stated.sound ready.stated.shaped named_within
        (let e = ready.stated.long in omega arith) (each u lt);
    classifiers = λ c lt. named_within c (let e = ready.stated.classifier_count in omega arith);
  }

pub answer_fine : {n m : ℕ} {es : List TypeEquation} {s : State} {x : Solution} → AllWithin n m es → Ready n m es s
    → Answers n s x → Fine n m es
answer_fine {n = n} {m = m} {es = es} {s = s} {x = x} w r a =
    let types = λ (u : ℕ). type_of (slice_index_or x.types u int_tree) in (
      record { ty = types; classifier = name_in x.classifiers },
      most_general n m es s w r x.classifiers a.named types a.each,
      is_small n m es s w r x.classifiers a.named types a.each,
    )

-- the type that one unknown stands for is its principal type
pub principal_of : (n m : ℕ) (es : List TypeEquation) (s : State) (u : ℕ) (t : TypeExpression) → AllWithin n m es
    → Ready n m es s → u < n → StandsForOne s u t → IsPrincipalType n m es u t
principal_of n m es s u t w r lt h =
    let named : Names s.classifier.items (name_in h.names) =
    record { one = λ c cl. h.named.one c cl; own = λ a k c cl. h.named.own a k c cl } in
    let σ = answer s r.sizes r.stated.sound r.empty r.all (name_in h.names) named in
    let stands : (v : ℕ) → v < length s.parent.items → StandsFor s h.names v (σ.ty v) =
    answer_stands s r.sizes r.stated.sound r.empty r.all (name_in h.names) named in
    let each : (v : ℕ) → v < n → StandsFor s h.names v (σ.ty v) =
    λ v vl. stands v (let p = r.stated.long in omega arith) in
    record {
      solution = record { ty = σ.ty; classifier = name_in h.names };
      general = most_general n m es s w r h.names h.named σ.ty each;
      small = is_small n m es s w r h.names h.named σ.ty each;
      within = stays_within n m es s w r h.names h.named σ.ty each;
      type = unique h.stands (each u lt);
    }
