-- The fault that a walk keeps is the first, and there is one first.
use Rattle.std.proofs.Common.{◌≡◌, ℕ, suc, ◌<◌, ◌≤◌, ◌⊎◌, Bool, true, false, cond, List, [], ◌∷◌, ◌++◌, Option, Some}
use Rattle.std.proofs.Common.{None, refl, ap, sym, ◌∙◌, subst, inl, inr, arith}
use Rattle.std.specs.Prelude.{All, Contains, nat_lt, nat_eq, ◌&&◌, ◌||◌}
use Rattle.std.specs.List.{AllByRecursion}
use Rattle.std.proofs.lemmas.List.Elements.{All-from_recursion}
use Rattle.std.proofs.lemmas.Option.{same_Some, none-some}
use Rattle.mw_scope.specs.declared.fault.Fault.{Fault}
use Rattle.mw_scope.specs.declared.fault.Fault.TheVariants.{Unbound, Twice, NotValue, WrongLevel}
use Rattle.mw_scope.specs.Faults.{place_of, number_of, IsNoLater, IsFirst}
use Rattle.mw_scope.specs.Keeping.{is_before, kept_of, kept}

pub kept_append : (o : Option Fault) (fs gs : List Fault) → kept o (fs ++ gs) ≡ kept (kept o fs) gs
kept_append o [] gs = refl
kept_append o (f ∷ fs) gs = kept_append (Some (kept_of o f)) fs gs

-- what is kept of two parts in turn, and of three
pub kept_two : (o p q : Option Fault) (fs gs : List Fault) → p ≡ kept o fs → q ≡ kept p gs → q ≡ kept o (fs ++ gs)
kept_two o p q fs gs e h = h ∙ ap (λ x. kept x gs) e ∙ sym (kept_append o fs gs)

pub kept_three : (o p q r : Option Fault) (fs gs hs : List Fault) → p ≡ kept o fs → q ≡ kept p gs → r ≡ kept q hs
    → r ≡ kept o (fs ++ (gs ++ hs))
kept_three o p q r fs gs hs e h i = kept_two o p r fs (gs ++ hs) e (kept_two p q r gs hs h i)

-- the order of two faults by their places and numbers
before_is : (p q m n : ℕ) → (nat_lt p q || (nat_eq p q && nat_lt m n)) ≡ true → (p < q) ⊎ ((p ≡ q) × (m ≤ n))
before_is p q m n h = grind (arith, h)

not_before_is : (p q m n : ℕ) → (nat_lt p q || (nat_eq p q && nat_lt m n)) ≡ false → (q < p) ⊎ ((q ≡ p) × (n ≤ m))
not_before_is p q m n h = grind (arith, h)

after_both : (p q r l m n : ℕ) → (p < q) ⊎ ((p ≡ q) × (l ≤ m)) → (q < r) ⊎ ((q ≡ r) × (m ≤ n)) → (p < r)
    ⊎ ((p ≡ r) × (l ≤ n))
after_both p q r l m n a b = grind (arith, a, b)

no_later_self : (f : Fault) → IsNoLater f f
no_later_self f = inr (refl, omega arith)

no_later_both : (f g h : Fault) → IsNoLater f g → IsNoLater g h → IsNoLater f h
no_later_both f g h a b = after_both (place_of f) (place_of g) (place_of h) (number_of f) (number_of g) (number_of h) a
    b

kept_is_no_later : (g f : Fault) → IsNoLater (kept_of (Some g) f) g × IsNoLater (kept_of (Some g) f) f
kept_is_no_later g f =
    let P : Bool → Type 0 = λ b. is_before f g ≡ b → IsNoLater (cond b f g) g × IsNoLater (cond b f g) f in
    let by : (b : Bool) → P b = λ b. elim b as P [
      | true ↦ λ e. (before_is (place_of f) (place_of g) (number_of f) (number_of g) e, no_later_self f)
      | false ↦ λ e. (no_later_self g, not_before_is (place_of f) (place_of g) (number_of f) (number_of g) e)
    ] in by (is_before f g) refl

kept_is_one : (g f : Fault) → (kept_of (Some g) f ≡ f) ⊎ (kept_of (Some g) f ≡ g)
kept_is_one g f = elim (is_before f g) as (λ b. (cond b f g ≡ f) ⊎ (cond b f g ≡ g))
    [ true ↦ inl refl | false ↦ inr refl ]

contains_head : (f : Fault) (fs : List Fault) → Contains (f ∷ fs) f
contains_head f fs = (0, omega arith, refl)

contains_tail : (f g : Fault) (fs : List Fault) → Contains fs f → Contains (g ∷ fs) f
contains_tail f g fs h = (suc h.0, omega (arith, h.1), h.2)

-- of one fault and more, what is kept stands at none's later place, and is one of them
record IsKept (g : Fault) (fs : List Fault) (f : Fault) : Type 0 where
  is : kept (Some g) fs ≡ Some f
  before_kept : IsNoLater f g
  before_met : AllByRecursion (IsNoLater f) fs
  found : (f ≡ g) ⊎ Contains fs f

is_kept : (g : Fault) (fs : List Fault) → (f : Fault) × IsKept g fs f
is_kept g [] = (g, record { is = refl; before_kept = no_later_self g; before_met = tt; found = inl refl })
is_kept g (h ∷ fs) =
    let next : Fault = kept_of (Some g) h in
    let rest : (f : Fault) × IsKept next fs f = is_kept next fs in
    let f : Fault = rest.0 in
    let less = kept_is_no_later g h in
    let where_next : f ≡ next → (f ≡ g) ⊎ Contains (h ∷ fs) f = λ e. elim (kept_is_one g h) [
      | inl is_met ↦ inr (let P : Fault → Type 0 = λ x. Contains (h ∷ fs) x in
          subst P (sym (e ∙ is_met)) (contains_head h fs))
      | inr stays ↦ inl (e ∙ stays)
    ] in (
      f,
      record {
        is = rest.1.is;
        before_kept = no_later_both f next g rest.1.before_kept less.0;
        before_met = (no_later_both f next h rest.1.before_kept less.1, rest.1.before_met);
        found = elim rest.1.found [ inl e ↦ where_next e | inr i ↦ inr (contains_tail f h fs i) ];
      },
    )

-- what is kept of all faults is the first
pub kept_is_first : (fs : List Fault) (f : Fault) → kept None fs ≡ Some f → IsFirst fs f
kept_is_first [] f e = absurd (none-some f e)
kept_is_first (g ∷ fs) f e =
    let k : (f : Fault) × IsKept g fs f = is_kept g fs in
    let same : k.0 ≡ f = same_Some _ _ (sym k.1.is ∙ e) in
    let first : IsFirst (g ∷ fs) k.0 = record {
      stands = elim k.1.found [
        | inl e ↦ (let P : Fault → Type 0 = λ x. Contains (g ∷ fs) x in subst P (sym e) (contains_head g fs))
        | inr i
            ↦ contains_tail k.0 g fs i
      ];
      first = All-from_recursion (IsNoLater k.0) (g ∷ fs) (k.1.before_kept, k.1.before_met);
    } in
    let P : Fault → Type 0 = λ x. IsFirst (g ∷ fs) x in subst P same first

pub none_kept : (fs : List Fault) → kept None fs ≡ None → fs ≡ []
none_kept [] e = refl
none_kept (g ∷ fs) e = absurd (none-some _ (sym e ∙ (is_kept g fs).1.is))

-- there is one first fault
no_later_twice : (f g : Fault) → IsNoLater f g → IsNoLater g f → (place_of f ≡ place_of g) × (number_of f ≡ number_of g)
no_later_twice f g a b = (omega (arith, a, b), omega (arith, a, b))

same_fault : (f g : Fault) → place_of f ≡ place_of g → number_of f ≡ number_of g → f ≡ g
same_fault (Unbound at) (Unbound to) p n = ap Unbound p
same_fault (Twice at) (Twice to) p n = ap Twice p
same_fault (NotValue at) (NotValue to) p n = ap NotValue p
same_fault (WrongLevel at) (WrongLevel to) p n = ap WrongLevel p
same_fault _ _ p n = absurd (omega (arith, n))

is_before_stander : (fs : List Fault) (f g : Fault) → All (IsNoLater f) fs → Contains fs g → IsNoLater f g
is_before_stander fs f g all i = let P : Fault → Type 0 = IsNoLater f in subst P i.2 (all i.0 g i.1)

pub one_first : (fs : List Fault) (f g : Fault) → IsFirst fs f → IsFirst fs g → f ≡ g
one_first fs f g a b =
    let both = no_later_twice f g (is_before_stander fs f g a.first b.stands)
    (is_before_stander fs g f b.first a.stands) in
    same_fault f g both.0 both.1
