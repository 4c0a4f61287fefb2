-- Steps of the walk over classes.
use Rattle.std.proofs.Common.{length-append, ◌≡◌, ◌≢◌, ◌⊎◌, inl, inr, ℕ, zero, suc, ◌+◌, ◌*◌, ◌≤◌, ◌<◌, List, []}
use Rattle.std.proofs.Common.{◌∷◌, ◌++◌, length, refl, ap, sym, subst, ◌∙◌, arith}
use Rattle.std.proofs.lemmas.List.{get_or_default}
use Rattle.std.specs.Prelude.{slice_index_or, slice_set}
use Rattle.mw_term.specs.Types.{TermType}
use Rattle.mw_types.specs.Types.{TypeExpression, int_ty, bool_ty, unknown, pair_ty, function_ty, code_ty, closed_ty}
use Rattle.mw_types.specs.Types.{Assignment, nodes, size}
use Rattle.mw_types.specs.Forest.{Leads, here, up}
use Rattle.mw_types.specs.Satisfying.{Meets, Sound, Never}
use Rattle.mw_types.specs.Stands.{Stands, s_up, s_free, s_int, s_bool, s_pair, s_arrow, s_code, s_closed}
use Rattle.mw_types.specs.Walks.{Sized, Marked, Above, RootOf, Lower, AllAbove, AllBelow, Falls, In, Walk, fresh}
use Rattle.mw_types.specs.Walks.{OverOne, OverTwo, Looks}
use Rattle.mw_types.specs.declared.state.Shape.{Shape}
use Rattle.mw_types.specs.declared.state.Shape.TheVariants.{Free, Int, Bool, Pair, Arrow, Code, Closed}
use Rattle.mw_types.specs.declared.state.State.{State}
use Rattle.mw_types.specs.declared.walk.Mark.{Mark}
use Rattle.mw_types.specs.declared.walk.Mark.TheVariants.{New, Open, Done}
use Rattle.mw_types.specs.declared.walk.Look.{Look}
use Rattle.mw_types.specs.declared.walk.Look.TheVariants.{Ready, Down}
use Rattle.mw_types.proofs.Lists.{same, other, is, get_here, set_length, written, kept, read_set}
use Rattle.mw_types.proofs.Link.{leads_same}

-- what a representative stands for, its nodes stand for
pub leads_stands : {ps : List ℕ} {hs : List Shape} {classifier : ℕ → ℕ} {i r : ℕ} {t : TypeExpression} → Leads ps i r
    → Stands ps hs classifier r t → Stands ps hs classifier i t
leads_stands here h = h
leads_stands {ps = ps} {hs = hs} {classifier = classifier} {t = t} (up {p = p} {r = r} l lt e) h = elim (is r p) [
  | same q ↦ leads_stands l (subst (λ x. Stands ps hs classifier x t) q h)
  | other n ↦ leads_stands l (s_up lt e n h)
]

pub found_size : (s : State) (marks : List Mark) (x r n : ℕ) (d : Mark) → Marked s marks → Leads s.parent.items x r
    → r < length s.parent.items → slice_index_or marks r d ≡ Done n → Sized s x n
found_size s marks x r n d m l lt e =
    let z = m.done r n (get_or_default marks r New d (let q = m.count in omega arith) ∙ e) in
    record { type = z.type; stands = λ k. leads_stands l (z.stands k); count = z.count }

pub sized_up : (s : State) (x p n : ℕ) → x < length s.parent.items → p ≡ slice_index_or s.parent.items x 0 → p ≢ x
    → Sized s p n → Sized s x n
sized_up s x p n lt e o z =
    record { type = z.type; stands = λ k. s_up lt e o (z.stands k); count = z.count }

pub found_root : (s : State) (marks : List Mark) (x r : ℕ) (d : Mark) → Marked s marks → Leads s.parent.items x r
    → r < length s.parent.items → slice_index_or s.parent.items r 0 ≡ r → ((n : ℕ) → slice_index_or marks r d ≢ Done n)
    → RootOf s marks x r
found_root s marks x r d m l lt e n = record {
  inside = lt;
  root = e;
  undone = λ k q. n k (get_or_default marks r d New (let z = m.count in omega arith) ∙ q);
  same = λ a h. leads_same a.ty h.types l;
}

pub new_undone : {x : Mark} → x ≡ New → (n : ℕ) → x ≢ Done n
new_undone e n f = absurd (cc)

pub open_undone : {x : Mark} → x ≡ Open → (n : ℕ) → x ≢ Done n
open_undone e n f = absurd (cc)

-- a class is above each class below it
lower : (s : State) (marks : List Mark) (x l y : ℕ) → Above s x l → RootOf s marks l y → Lower s marks x y
lower s marks x l y f r =
    record { inside = r.inside; root = r.root; undone = r.undone; above = λ a h. rw (← r.same a h) (f a h) }

-- a class over two nodes is as large as both and one, and above each
over_two : (s : State) (marks : List Mark) (x l r : ℕ) (k : Look) (h : Shape)
    (make : TypeExpression → TypeExpression → TypeExpression) → slice_index_or s.shape.items x Free ≡ h
    → ((S T : TypeExpression) → nodes (make S T) ≡ nodes S + nodes T + 1)
    → ((a : Assignment) (g : TermType) → Meets h g a → size g ≡ size (a.ty l) + size (a.ty r) + 1)
    → ((c : ℕ → ℕ) (S T : TypeExpression) → Stands s.parent.items s.shape.items c l S
    → Stands s.parent.items s.shape.items c r T → Stands s.parent.items s.shape.items c x (make S T))
    → OverTwo s marks l r k → Looks s marks x k
over_two s marks x l r (Ready n) h make e count larger stands p = record {
  type = λ c. make (p.2.type c) (p.3.type c);
  stands = λ c. stands c _ _ (p.2.stands c) (p.3.stands c);
  count = λ c. omega (arith, p.4, p.2.count c, p.3.count c, count (p.2.type c) (p.3.type c));
}
over_two s marks x l r (Down y) h make e count larger stands (inl p) =
    lower s marks x l y (λ a m. omega (arith, larger a (a.ty x) (rw e at (m.shapes x)))) p
over_two s marks x l r (Down y) h make e count larger stands (inr p) =
    lower s marks x r y (λ a m. omega (arith, larger a (a.ty x) (rw e at (m.shapes x)))) p

-- and over one
over_one : (s : State) (marks : List Mark) (x r : ℕ) (k : Look) (h : Shape)
    (make : (ℕ → ℕ) → TypeExpression → TypeExpression) → slice_index_or s.shape.items x Free ≡ h
    → ((c : ℕ → ℕ) (T : TypeExpression) → nodes (make c T) ≡ nodes T + 1)
    → ((a : Assignment) (g : TermType) → Meets h g a → size g ≡ size (a.ty r) + 1)
    → ((c : ℕ → ℕ) (T : TypeExpression) → Stands s.parent.items s.shape.items c r T
    → Stands s.parent.items s.shape.items c x (make c T)) → OverOne s marks r k → Looks s marks x k
over_one s marks x r (Ready n) h make e count larger stands p = record {
  type = λ c. make c (p.1.type c);
  stands = λ c. stands c _ (p.1.stands c);
  count = λ c. omega (arith, p.2, p.1.count c, count c (p.1.type c));
}
over_one s marks x r (Down y) h make e count larger stands p =
    lower s marks x r y (λ a m. omega (arith, larger a (a.ty x) (rw e at (m.shapes x)))) p

-- what a class's shape says
module _ (s : State) (x : ℕ) (root : slice_index_or s.parent.items x 0 ≡ x) where
  pub sized_free : slice_index_or s.shape.items x Free ≡ Free → Sized s x 1
  sized_free e = record { type = λ k. unknown x; stands = λ k. s_free root e; count = λ k. refl }

  pub sized_int : slice_index_or s.shape.items x Free ≡ Int → Sized s x 1
  sized_int e = record { type = λ k. int_ty; stands = λ k. s_int root e; count = λ k. refl }

  pub sized_bool : slice_index_or s.shape.items x Free ≡ Bool → Sized s x 1
  sized_bool e = record { type = λ k. bool_ty; stands = λ k. s_bool root e; count = λ k. refl }

  pub pair_looks : (marks : List Mark) (l r : ℕ) (k : Look) → slice_index_or s.shape.items x Free ≡ Pair l r
      → OverTwo s marks l r k → Looks s marks x k
  pair_looks marks l r k e =
      over_two s marks x l r k _ pair_ty e (λ S T. refl) (λ a g m. ap size m) (λ c S T. s_pair root e)

  pub arrow_looks : (marks : List Mark) (l r : ℕ) (k : Look) → slice_index_or s.shape.items x Free ≡ Arrow l r
      → OverTwo s marks l r k → Looks s marks x k
  arrow_looks marks l r k e =
      over_two s marks x l r k _ function_ty e (λ S T. refl) (λ a g m. ap size m) (λ c S T. s_arrow root e)

  pub code_looks : (marks : List Mark) (d r : ℕ) (k : Look) → slice_index_or s.shape.items x Free ≡ Code d r
      → OverOne s marks r k → Looks s marks x k
  code_looks marks d r k e =
      over_one s marks x r k _ (λ c. code_ty (c d)) e (λ c T. refl) (λ a g m. ap size m) (λ c T. s_code root e refl)

  pub closed_looks : (marks : List Mark) (r : ℕ) (k : Look) → slice_index_or s.shape.items x Free ≡ Closed r
      → OverOne s marks r k → Looks s marks x k
  closed_looks marks r k e =
      over_one s marks x r k _ (λ c. closed_ty) e (λ c T. refl) (λ a g m. ap size m) (λ c T. s_closed root e)

pub ruleset looks = (sized_free, sized_int, sized_bool, pair_looks, arrow_looks, code_looks, closed_looks)

-- the path
in_append : (x y : ℕ) (xs : List ℕ) → In x (xs ++ y ∷ []) → In x xs ⊎ (x ≡ y)
in_append x y [] (inl e) = inr e
in_append x y [] (inr h) = absurd h
in_append x y (z ∷ xs) (inl e) = inl (inl e)
in_append x y (z ∷ xs) (inr h) = elim (in_append x y xs h) [ inl p ↦ inl (inr p) | inr e ↦ inr e ]

in_left : (x y : ℕ) (xs : List ℕ) → In x xs → In x (xs ++ y ∷ [])
in_left x y [] h = absurd h
in_left x y (z ∷ xs) (inl e) = inl e
in_left x y (z ∷ xs) (inr h) = inr (in_left x y xs h)

in_last : (x y : ℕ) (xs : List ℕ) → x ≡ y → In x (xs ++ y ∷ [])
in_last x y [] e = inl e
in_last x y (z ∷ xs) e = inr (in_last x y xs e)

below_append : (s : State) (x y : ℕ) (ys : List ℕ) → AllBelow s x (ys ++ y ∷ []) → AllBelow s x ys × Above s x y
below_append s x y [] h = (tt, h.0)
below_append s x y (z ∷ ys) h = let r = below_append s x y ys h.1 in ((h.0, r.0), r.1)

append_below : (s : State) (x y : ℕ) (ys : List ℕ) → AllBelow s x ys → Above s x y → AllBelow s x (ys ++ y ∷ [])
append_below s x y [] h e = (e, tt)
append_below s x y (z ∷ ys) h e = (h.0, append_below s x y ys h.1 e)

falls_append : (s : State) (xs : List ℕ) (y : ℕ) → Falls s (xs ++ y ∷ []) → Falls s xs × AllAbove s xs y
falls_append s [] y h = (tt, tt)
falls_append s (x ∷ xs) y h = let r = falls_append s xs y h.1 in let q = below_append s x y xs h.0 in
    ((q.0, r.0), (q.1, r.1))

append_falls : (s : State) (xs : List ℕ) (y : ℕ) → Falls s xs → AllAbove s xs y → Falls s (xs ++ y ∷ [])
append_falls s [] y h e = (tt, tt)
append_falls s (x ∷ xs) y h e = (append_below s x y xs h.0 e.0, append_falls s xs y h.1 e.1)

above_more : (s : State) (xs : List ℕ) (x y : ℕ) → AllAbove s xs x → Above s x y → AllAbove s (xs ++ x ∷ []) y
above_more s [] x y h e = (e, tt)
above_more s (z ∷ xs) x y h e = ((λ a k. let p = h.0 a k in let q = e a k in omega arith), above_more s xs x y h.1 e)

above_in : (s : State) (xs : List ℕ) (y x : ℕ) → AllAbove s xs y → In x xs → Above s x y
above_in s [] y x h i = absurd i
above_in s (z ∷ xs) y x h (inl e) = λ a k. rw e (h.0 a k)
above_in s (z ∷ xs) y x h (inr i) = above_in s xs y x h.1 i

-- an open class below the path's end: no solution
pub cycle : (s : State) (marks : List Mark) (path : List ℕ) (x y : ℕ) → Walk s marks (path ++ x ∷ [])
    → Lower s marks x y → slice_index_or marks y New ≡ Open → Never s (λ a. Unit {0})
cycle s marks path x y w l e a h u =
    let f = (falls_append s path x w.falls).1 in
    let p = l.above a h in
    elim (in_append y x path (w.opens y e)) [
      | inl i ↦ let q = above_in s path x y f i a h in absurd (omega arith)
      | inr e ↦ absurd (let q : size (a.ty x) < size (a.ty x) = rw e at p in omega arith)
    ]

-- the end of the path is done
pub finish_top : (s : State) (marks : List Mark) (path : List ℕ) (x n : ℕ) → Walk s marks (path ++ x ∷ []) → Sized s x n
    → x < length s.parent.items → Walk s (slice_set marks x (Done n)) path
finish_top s marks path x n w z lt = record {
  marked = record {
    count = set_length marks x (Done n) ∙ w.marked.count;
    done = λ y m e. elim (read_set marks x y (Done n) New (omega (arith, w.marked.count))) [
      | written q f ↦ let p : m ≡ n = cc in rw (← q, p) z
      | kept o f ↦ w.marked.done y m (sym f ∙ e)
    ];
  };
  roots = λ y i. w.roots y (in_left y x path i);
  falls = (falls_append s path x w.falls).0;
  opens = λ y e. elim (read_set marks x y (Done n) New (omega (arith, w.marked.count))) [
    | written q f ↦ absurd (cc)
    | kept o f ↦ elim (in_append y x path (w.opens y (sym f ∙ e))) [ inl i ↦ i | inr g ↦ absurd (o (sym g)) ]
  ];
}

-- the path goes down
go_down : (s : State) (marks : List Mark) (path : List ℕ) (y : ℕ) → Walk s marks path → y < length s.parent.items
    → slice_index_or s.parent.items y 0 ≡ y → AllAbove s path y → Walk s (slice_set marks y Open) (path ++ y ∷ [])
go_down s marks path y w lt r above = record {
  marked = record {
    count = set_length marks y Open ∙ w.marked.count;
    done = λ z m e. elim (read_set marks y z Open New (omega (arith, w.marked.count))) [
      | written q f ↦ absurd (cc)
      | kept o f ↦ w.marked.done z m (sym f ∙ e)
    ];
  };
  roots = λ z i. elim (in_append z y path i) [ inl p ↦ w.roots z p | inr e ↦ rw e (lt, r) ];
  falls = append_falls s path y w.falls above;
  opens = λ z e. elim (read_set marks y z Open New (omega (arith, w.marked.count))) [
    | written q f ↦ in_last z y path (sym q)
    | kept o f ↦ in_left z y path (w.opens z (sym f ∙ e))
  ];
}

-- a class that was met isn't new
pub is_met : (marks : List Mark) (x : ℕ) (d : Mark) {m : Mark} → m ≢ New → x < length marks
    → d ≡ slice_index_or marks x d
    → d ≡ m → slice_index_or marks x New ≢ New
is_met marks x d n lt e f g = n (sym f ∙ e ∙ get_or_default marks x d New lt ∙ g)

-- nothing is open where the path is done
pub all_shut : (s : State) (marks : List Mark) (path : List ℕ) → Walk s marks path → length path ≡ 0 → (x : ℕ)
    → slice_index_or marks x New ≢ Open
all_shut s marks [] w e x f = w.opens x f
all_shut s marks (y ∷ path) w e x f = absurd (omega arith)

-- the walk starts at a class that isn't met
pub start_walk : (s : State) (marks : List Mark) (none path : List ℕ) (x : ℕ) → Marked s marks
    → ((y : ℕ) → slice_index_or marks y New ≢ Open) → x < length s.parent.items → slice_index_or s.parent.items x 0 ≡ x
    → none ≡ [] → path ≡ none ++ x ∷ []
    → Walk s (slice_set marks x Open) path × (slice_index_or (slice_set marks x Open) x New ≢ New)
start_walk s marks none path x m h lt e n p = (
  rw (p, n) (go_down s marks [] x (record { marked = m; roots = λ z i. absurd i; falls = tt; opens = h }) lt e tt),
  λ f. let g = get_here marks x Open New (omega (arith, m.count)) in absurd (cc),
)

pub shape_read : (s : State) (i : ℕ) (h x : Shape) → Sound s → i < length s.parent.items
    → h ≡ slice_index_or s.shape.items i h → h ≡ x → slice_index_or s.shape.items i Free ≡ x
shape_read s i h x p lt e f = sym (get_or_default s.shape.items i h Free (omega (arith, p.lengths))) ∙ sym e ∙ f

pub must_be_new : (x : Mark) → ((n : ℕ) → x ≢ Done n) → x ≢ Open → x ≡ New
must_be_new New p q = refl
must_be_new Open p q = absurd (q refl)
must_be_new (Done n) p q = absurd (p n refl)

pub fresh_done : (marks : List Mark) (x n : ℕ) → fresh (slice_set marks x (Done n)) ≤ fresh marks
fresh_done [] x n = omega arith
fresh_done (New ∷ ms) zero n = omega arith
fresh_done (Open ∷ ms) zero n = omega arith
fresh_done (Done k ∷ ms) zero n = omega arith
fresh_done (New ∷ ms) (suc x) n = omega (arith, fresh_done ms x n)
fresh_done (Open ∷ ms) (suc x) n = fresh_done ms x n
fresh_done (Done k ∷ ms) (suc x) n = fresh_done ms x n

pub fresh_open : (marks : List Mark) (x : ℕ) → x < length marks → slice_index_or marks x New ≡ New
    → fresh (slice_set marks x Open) + 1 ≡ fresh marks
fresh_open [] x lt e = absurd (omega arith)
fresh_open (New ∷ ms) zero lt e = omega arith
fresh_open (Open ∷ ms) zero lt e = absurd (cc)
fresh_open (Done k ∷ ms) zero lt e = absurd (cc)
fresh_open (New ∷ ms) (suc x) lt e = omega (arith, fresh_open ms x (omega arith) e)
fresh_open (Open ∷ ms) (suc x) lt e = fresh_open ms x (omega arith) e
fresh_open (Done k ∷ ms) (suc x) lt e = fresh_open ms x (omega arith) e

pub top_in : (s : State) (marks : List Mark) (all path : List ℕ) (x : ℕ) → Walk s marks all → all ≡ path ++ x ∷ []
    → (x < length s.parent.items) × (slice_index_or s.parent.items x 0 ≡ x)
top_in s marks all path x w e = w.roots x (rw e (in_last x x path refl))

pub walk_at : (s : State) (marks : List Mark) (all path : List ℕ) → all ≡ path → Walk s marks all → Walk s marks path
walk_at s marks all path e w = subst (λ p. Walk s marks p) e w

pub ready_smaller : (marks : List Mark) (all rest : List ℕ) (x n : ℕ) → all ≡ rest ++ x ∷ []
    → 2 * fresh (slice_set marks x (Done n)) + length rest < 2 * fresh marks + length all
ready_smaller marks all rest x n e = rw e (omega (arith, fresh_done marks x n, length-append rest (x ∷ [])))

pub down_smaller : (marks : List Mark) (all rest one two : List ℕ) (x y : ℕ) → all ≡ rest ++ x ∷ [] → one ≡ rest ++ x
    ∷ [] → two ≡ one ++ y ∷ [] → y < length marks → slice_index_or marks y New ≡ New
    → 2 * fresh (slice_set marks y Open) + length two < 2 * fresh marks + length all
down_smaller marks all rest one two x y e f g lt n =
    rw (g, f, e)
    (omega (arith, fresh_open marks y lt n, length-append rest (x ∷ []), length-append (rest ++ x ∷ []) (y ∷ [])))

-- a class below is not open, so it is new
pub now_new : (s : State) (marks : List Mark) (x y : ℕ) (m : Mark) → Marked s marks → Lower s marks x y
    → m ≡ slice_index_or marks y m → m ≢ Open → slice_index_or marks y New ≡ New
now_new s marks x y m k l e n =
    must_be_new _ l.undone
    (λ f. n (e ∙ get_or_default marks y m New (let p = k.count in let q = l.inside in omega arith) ∙ f))

pub now_open : (s : State) (marks : List Mark) (x y : ℕ) (m : Mark) → Marked s marks → Lower s marks x y
    → m ≡ slice_index_or marks y m → m ≡ Open → slice_index_or marks y New ≡ Open
now_open s marks x y m k l e f = sym (get_or_default marks y m New (let p = k.count in let q = l.inside in omega arith))
    ∙ sym e ∙ f

pub went_down : (s : State) (marks : List Mark) (all rest one two : List ℕ) (x y : ℕ) → all ≡ rest ++ x ∷ []
    → one ≡ rest ++ x ∷ [] → two ≡ one ++ y ∷ [] → Walk s marks all → Lower s marks x y
    → Walk s (slice_set marks y Open) two
went_down s marks all rest one two x y e f g w l = let k = walk_at s marks all _ e w in
    rw (g, f) (go_down s marks _ y k l.inside l.root (above_more s rest x y (falls_append s rest x k.falls).1 l.above))

pub set_not_new : (marks : List Mark) (x y : ℕ) {m : Mark} → m ≢ New → slice_index_or marks y New ≢ New
    → slice_index_or (slice_set marks x m) y New ≢ New
set_not_new [] x y n h = h
set_not_new (z ∷ ms) zero zero n h = n
set_not_new (z ∷ ms) zero (suc y) n h = h
set_not_new (z ∷ ms) (suc x) zero n h = h
set_not_new (z ∷ ms) (suc x) (suc y) n h = set_not_new ms x y n h
