-- One class in place of two, as equations on assignments.
use Rattle.std.proofs.Common.{◌≡◌, ◌≢◌, ℕ, ◌≤◌, ◌<◌, List, length, refl, ap, sym, ◌∙◌, arith}
use Rattle.std.specs.Prelude.{slice_index_or, slice_set}
use Rattle.mw_term.specs.Types.{TermType}
use Rattle.mw_types.specs.Types.{Assignment}
use Rattle.mw_types.specs.Forest.{Low, Same, Leads, here, up}
use Rattle.mw_types.specs.Satisfying.{Meets, Satisfies, joined}
use Rattle.mw_types.specs.declared.state.Shape.{Shape}
use Rattle.mw_types.specs.declared.state.Shape.TheVariants.{Free}
use Rattle.mw_types.specs.declared.state.Pending.{Pending}
use Rattle.mw_types.proofs.Lists.{same, other, is, get_other, get_here, set_length}

-- along the parents the value stays
pub leads_same : {A : Type 0} {ps : List ℕ} {i r : ℕ} (v : ℕ → A) → Same ps v → Leads ps i r → v i ≡ v r
leads_same v s here = refl
leads_same v s (up {p = p} h lt e) = leads_same v s h ∙ s p lt ∙ ap v (sym e)

-- a root put under another node
pub same_set : {A : Type 0} (ps : List ℕ) (v : ℕ → A) (high low : ℕ) → high < length ps → Same ps v → v high ≡ v low
    → Same (slice_set ps high low) v
same_set ps v high low lt s e i l = elim (is high i) [
  | same q ↦ rw (← q, get_here ps high low 0 lt) e
  | other n ↦ rw (get_other ps high i low 0 n) (s i (let p = set_length ps high low in omega arith))
]

pub same_unset : {A : Type 0} (ps : List ℕ) (v : ℕ → A) (high low : ℕ) → high < length ps → slice_index_or ps high 0
    ≡ high → Same (slice_set ps high low) v → Same ps v
same_unset ps v high low lt r s i l = elim (is high i) [
  | same q ↦ rw (← q, r) refl
  | other n ↦ rw (← get_other ps high i low 0 n) (s i (let p = set_length ps high low in omega arith))
]

pub set_same : {A : Type 0} (ps : List ℕ) (v : ℕ → A) (high low : ℕ) → high < length ps → Same (slice_set ps high low) v
    → v high ≡ v low
set_same ps v high low lt s = let p = set_length ps high low in s high (omega arith) ∙ ap v (get_here ps high low 0 lt)

pub low_set : (ps : List ℕ) (high low : ℕ) → low ≤ high → high < length ps → Low ps → Low (slice_set ps high low)
low_set ps high low le lt l i il = elim (is high i) [
  | same q ↦ rw (← q, get_here ps high low 0 lt) le
  | other n ↦ rw (get_other ps high i low 0 n) (l i (let p = set_length ps high low in omega arith))
]

pub record Both (x y h : Shape) (extra : Type 0) (a : Assignment) : Type 0 where
  pub to : (g : TermType) → Meets x g a → Meets y g a → Meets h g a × extra
  pub back : (g : TermType) → Meets h g a → extra → Meets x g a × Meets y g a

module _ (ps : List ℕ) (hs : List Shape) (cs : List ℕ) (ws : List Pending) (a : Assignment) (low high : ℕ)
    (apart : high ≢ low) (lt : high < length ps) (ll : low < length hs) (hl : high < length hs)
    (root : slice_index_or ps high 0 ≡ high) (h : Shape) (extra : Type 0)
    (both : Both (slice_index_or hs low Free) (slice_index_or hs high Free) h extra a) where
  low_shape : slice_index_or (joined hs high low h) low Free ≡ h
  low_shape = get_here (slice_set hs high Free) low h Free (let p = set_length hs high Free in omega arith)

  high_shape : slice_index_or (joined hs high low h) high Free ≡ Free
  high_shape = get_other (slice_set hs high Free) low high h Free (λ e. apart (sym e)) ∙ get_here hs high Free Free hl

  rest_shape : (i : ℕ) → low ≢ i → high ≢ i → slice_index_or (joined hs high low h) i Free ≡ slice_index_or hs i Free
  rest_shape i n m = get_other (slice_set hs high Free) low i h Free n ∙ get_other hs high i Free Free m

  pub link : Satisfies ps hs cs ws a → a.ty low ≡ a.ty high → Satisfies (slice_set ps high low) (joined hs high low h)
      cs ws a
      × extra
  link s e =
      let two = both.to (a.ty low) (s.shapes low) (rw e (s.shapes high)) in (
        record {
          types = same_set ps a.ty high low lt s.types (sym e);
          classifiers = s.classifiers;
          shapes = λ i. elim (is low i) [
            | same q ↦ rw (← q, low_shape) two.0
            | other n ↦ elim (is high i) [
              | same q ↦ rw (← q, high_shape) tt
              | other m ↦ rw (rest_shape i n m) (s.shapes i)
            ]
          ];
          waits = s.waits;
        },
        two.1,
      )

  pub unlink : Satisfies (slice_set ps high low) (joined hs high low h) cs ws a → extra → Satisfies ps hs cs ws a
      × (a.ty low ≡ a.ty high)
  unlink s x =
      let e = sym (set_same ps a.ty high low lt s.types) in
      let two = both.back (a.ty low) (rw low_shape at (s.shapes low)) x in (
        record {
          types = same_unset ps a.ty high low lt root s.types;
          classifiers = s.classifiers;
          shapes = λ i. elim (is low i) [
            | same q ↦ rw (← q) two.0
            | other n ↦ elim (is high i) [
              | same q ↦ rw (← q, ← e) two.1
              | other m ↦ rw (← rest_shape i n m) (s.shapes i)
            ]
          ];
          waits = s.waits;
        },
        e,
      )

-- path halving: a node's parent becomes its parent's parent, and the list says the same
pub halve_to : {A : Type 0} (ps : List ℕ) (v : ℕ → A) (i : ℕ) → Low ps → i < length ps → Same ps v
    → Same (slice_set ps i (slice_index_or ps (slice_index_or ps i 0) 0)) v
halve_to ps v i low lt s = same_set ps v i (slice_index_or ps (slice_index_or ps i 0) 0) lt s
    (s i lt ∙ s (slice_index_or ps i 0) (let p = low i lt in omega arith))

pub halve_from : {A : Type 0} (ps : List ℕ) (v : ℕ → A) (i : ℕ) → Low ps → i < length ps → i ≢ slice_index_or ps i 0
    → Same (slice_set ps i (slice_index_or ps (slice_index_or ps i 0) 0)) v → Same ps v
halve_from ps v i low lt n s j jl = elim (is i j) [
  | same q ↦ rw (← q) one
  | other o ↦ rw (← get_other ps i j (slice_index_or ps (slice_index_or ps i 0) 0) 0 o)
      (s j (let p = set_length ps i (slice_index_or ps (slice_index_or ps i 0) 0) in omega arith))
]
  where
    up : ℕ
    up = slice_index_or ps i 0

    one : v i ≡ v (slice_index_or ps i 0)
    one = set_same ps v i (slice_index_or ps (slice_index_or ps i 0) 0) lt s
        ∙ sym (s (slice_index_or ps i 0)
        (let p = low i lt in let l = set_length ps i (slice_index_or ps (slice_index_or ps i 0) 0) in omega arith)
        ∙ ap v (get_other ps i (slice_index_or ps i 0) (slice_index_or ps (slice_index_or ps i 0) 0) 0 n))
