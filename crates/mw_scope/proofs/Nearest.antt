-- What a name stands for: the nearest binder of the name, or the first item of it.
use Rattle.std.proofs.Common.{◌≡◌, ℕ, zero, suc, ◌<◌, Bool, true, false, cond, List, [], ◌∷◌, Option, Some, None, refl}
use Rattle.std.proofs.Common.{ap, sym, ◌∙◌, subst, arith}
use Rattle.std.specs.Prelude.{slice_get, ◌≢◌}
use Rattle.std.specs.Option.{option_map}
use Rattle.std.specs.Str.{bytes_eq}
use Rattle.std.proofs.lemmas.Slice.Eq.{bytes_eq-Decides}
use Rattle.std.proofs.lemmas.Option.{same_Some, none-some}
use Rattle.mw_scope.specs.declared.level.Level.{Level}
use Rattle.mw_grammar.specs.SurfaceTrees.{SurfaceTree, PureItem, let_item, kernel_item}
use Rattle.mw_scope.specs.Scopes.{Binder, nearest, name_of, lets_of, items_of}
use Rattle.mw_scope.specs.Resolving.{NearestIsNearest, TopNamesAreItems}

abbrev IsAt : List Binder → List ℕ → Option (ℕ × Level) → Type 0
IsAt g x o = (i : ℕ) (m : Level) → o ≡ Some (i, m) → (slice_get g i ≡ Some (record { name = x; level = m }))
    × ((j : ℕ) (b : Binder) → j < i → slice_get g j ≡ Some b → b.name ≢ x)

-- the first binder has the name
at_first : (b : Binder) (g : List Binder) (x : List ℕ) → b.name ≡ x → IsAt (b ∷ g) x (Some (0, b.level))
at_first b g x h i m e =
    let same : let at : ℕ × Level = (0, b.level) in at ≡ (i, m) = same_Some _ _ e in
    let first : i ≡ 0 = sym (ap (λ p. p.0) same) in
    (rw (first, sym (ap (λ p. p.1) same), sym h) refl, λ j c less. absurd (omega (arith, less, first)))

-- the first binder has another name
behind_first : (b : Binder) (g : List Binder) (x : List ℕ) (o : Option (ℕ × Level)) → b.name ≢ x → IsAt g x o
    → IsAt (b ∷ g) x (option_map (λ p. (suc p.0, p.1)) o)
behind_first b g x None h found i m e = absurd (none-some _ e)
behind_first b g x (Some p) h found i m e =
    let same : let at : ℕ × Level = (suc p.0, p.1) in at ≡ (i, m) = same_Some _ _ e in
    let more = found p.0 p.1 refl in
    let others : (j : ℕ) (c : Binder) → j < suc p.0 → slice_get (b ∷ g) j ≡ Some c → c.name ≢ x = λ j.
    elim j as (λ j. (c : Binder) → j < suc p.0 → slice_get (b ∷ g) j ≡ Some c → c.name ≢ x) [
      | zero ↦ λ c less is e. h (ap (λ d. d.name) (same_Some _ _ is) ∙ e)
      | suc j ↦ λ c less is. more.1 j c (omega (arith, less)) is
    ] in
    rw (sym (ap (λ q. q.0) same), sym (ap (λ q. q.1) same)) (more.0, others)

is_nearest : (g : List Binder) (x : List ℕ) → IsAt g x (nearest g x)
is_nearest [] x = λ i m e. absurd (none-some _ e)
is_nearest (b ∷ g) x =
    let P : Bool → Type 0 = λ t. bytes_eq x b.name ≡ t
    → IsAt (b ∷ g) x (cond t (Some (0, b.level)) (option_map (λ p. (suc p.0, p.1)) (nearest g x))) in
    let decides = bytes_eq-Decides x b.name in
    let by : (t : Bool) → P t = λ t. elim t as P [
      | true ↦ λ e. at_first b g x (sym (decides.0 e))
      | false ↦ λ e. behind_first b g x (nearest g x) (λ h. absurd (cc (sym (decides.1 (sym h)) ∙ e))) (is_nearest g x)
    ] in by (bytes_eq x b.name) refl

none_behind : {A B : Type 0} (f : A → B) (o : Option A) → option_map f o ≡ None → o ≡ None
none_behind f None e = refl
none_behind f (Some a) e = absurd (none-some _ (sym e))

names_differ : (x y : List ℕ) → bytes_eq x y ≡ false → y ≢ x
names_differ x y h = λ e. absurd (cc (sym ((bytes_eq-Decides x y).1 (sym e)) ∙ h))

names_agree : (x y : List ℕ) → bytes_eq x y ≡ true → y ≡ x
names_agree x y h = sym ((bytes_eq-Decides x y).0 h)

-- what is found of none is none's, first and after
first_none : {A B : Type 0} (f : A → B) (b : B) (t : Bool) (o : Option A) → cond t (Some b) (option_map f o) ≡ None
    → (t ≡ false) × (o ≡ None)
first_none f b true o e = absurd (none-some _ (sym e))
first_none f b false o e = (refl, none_behind f o e)

is_none : (g : List Binder) (x : List ℕ) → nearest g x ≡ None → (j : ℕ) (b : Binder) → slice_get g j ≡ Some b
    → b.name ≢ x
is_none [] x e j b at = absurd (none-some b at)
is_none (c ∷ g) x e zero b at = let both = first_none (λ p. (suc p.0, p.1)) (0, c.level) (bytes_eq x c.name)
    (nearest g x) e in let P : Binder → Type 0 = λ d. d.name ≢ x in
    subst P (same_Some _ _ at) (names_differ x c.name both.0)
is_none (c ∷ g) x e (suc j) b at = let both = first_none (λ p. (suc p.0, p.1)) (0, c.level) (bytes_eq x c.name)
    (nearest g x) e in is_none g x both.1 j b at

pub nearest_is_nearest : NearestIsNearest
nearest_is_nearest = record { found = is_nearest; none = is_none }

-- an item of the name, first or after
abbrev IsItemOf : List PureItem → List ℕ → ℕ → Type 0
IsItemOf items x i = (item : PureItem) × (slice_get items i ≡ Some item) × (name_of item ≡ x)

item_found : (first : PureItem) (items : List PureItem) (x : List ℕ) (t : Bool) (o : Option ℕ) (i : ℕ)
    → bytes_eq x (name_of first) ≡ t → ((j : ℕ) → o ≡ Some j → IsItemOf items x j) → cond t (Some 0) (option_map suc o)
    ≡ Some i → IsItemOf (first ∷ items) x i
item_found first items x true o i h more e = let P : ℕ → Type 0 = λ k. IsItemOf (first ∷ items) x k in
    subst P (same_Some _ _ e) (first, refl, names_agree x (name_of first) h)
item_found first items x false None i h more e = absurd (none-some _ e)
item_found first items x false (Some j) i h more e = let P : ℕ → Type 0 = λ k. IsItemOf (first ∷ items) x k in
    subst P (same_Some _ _ e) (more j refl)

is_item : (items : List PureItem) (x : List ℕ) (i : ℕ) → items_of items x ≡ Some i → IsItemOf items x i
is_item [] x i e = absurd (none-some _ e)
is_item (first ∷ items) x i e = item_found first items x (bytes_eq x (name_of first)) (items_of items x) i refl
    (is_item items x) e

is_no_item : (items : List PureItem) (x : List ℕ) → items_of items x ≡ None → (j : ℕ) (item : PureItem)
    → slice_get items j ≡ Some item → name_of item ≢ x
is_no_item [] x e j item at = absurd (none-some item at)
is_no_item (first ∷ items) x e zero item at = let both = first_none suc 0 (bytes_eq x (name_of first))
    (items_of items x) e in let P : PureItem → Type 0 = λ d. name_of d ≢ x in
    subst P (same_Some _ _ at) (names_differ x (name_of first) both.0)
is_no_item (first ∷ items) x e (suc j) item at = let both = first_none suc 0 (bytes_eq x (name_of first))
    (items_of items x) e in is_no_item items x both.1 j item at

-- a let of the name
abbrev IsLetOf : List PureItem → List ℕ → ℕ → Type 0
IsLetOf items x i = (at : ℕ) × (from : ℕ) × (e : SurfaceTree) × (slice_get items i ≡ Some (let_item x at from e))

let_behind : (first : PureItem) (items : List PureItem) (x : List ℕ) (o : Option ℕ) (i : ℕ)
    → ((j : ℕ) → o ≡ Some j → IsLetOf items x j) → option_map suc o ≡ Some i → IsLetOf (first ∷ items) x i
let_behind first items x None i more e = absurd (none-some _ e)
let_behind first items x (Some j) i more e = let P : ℕ → Type 0 = λ k. IsLetOf (first ∷ items) x k in
    subst P (same_Some _ _ e) (more j refl)

let_found : (y : List ℕ) (at from : ℕ) (d : SurfaceTree) (items : List PureItem) (x : List ℕ) (t : Bool) (o : Option ℕ)
    (i : ℕ) → bytes_eq x y ≡ t → ((j : ℕ) → o ≡ Some j → IsLetOf items x j) → cond t (Some 0) (option_map suc o)
    ≡ Some i → IsLetOf (let_item y at from d ∷ items) x i
let_found y at from d items x true o i h more e =
    let first : IsLetOf (let_item y at from d ∷ items) x 0 =
    (at, from, d, ap (λ n. Some (let_item n at from d)) (names_agree x y h)) in
    let P : ℕ → Type 0 = λ k. IsLetOf (let_item y at from d ∷ items) x k in subst P (same_Some _ _ e) first
let_found y at from d items x false o i h more e = let_behind (let_item y at from d) items x o i more e

is_let : (items : List PureItem) (x : List ℕ) (i : ℕ) → lets_of items x ≡ Some i → IsLetOf items x i
is_let [] x i e = absurd (none-some _ e)
is_let (let_item y at from d ∷ items) x i e = let_found y at from d items x (bytes_eq x y) (lets_of items x) i refl
    (is_let items x) e
is_let (kernel_item y at k d ∷ items) x i e = let_behind (kernel_item y at k d) items x (lets_of items x) i
    (is_let items x) e

is_no_let : (items : List PureItem) (x : List ℕ) → lets_of items x ≡ None
    → (j at from : ℕ) (y : List ℕ) (e : SurfaceTree) → slice_get items j ≡ Some (let_item y at from e) → y ≢ x
is_no_let [] x h j at from y e is = absurd (none-some _ is)
is_no_let (let_item z a f d ∷ items) x h zero at from y e is =
    let both = first_none suc 0 (bytes_eq x z) (lets_of items x) h in
    let same : z ≡ y = cc (same_Some _ _ is) in let P : List ℕ → Type 0 = λ n. n ≢ x in
    subst P same (names_differ x z both.0)
is_no_let (let_item z a f d ∷ items) x h (suc j) at from y e is = let both =
    first_none suc 0 (bytes_eq x z) (lets_of items x) h in is_no_let items x both.1 j at from y e is
is_no_let (kernel_item z a k d ∷ items) x h zero at from y e is = absurd (cc (same_Some _ _ is))
is_no_let (kernel_item z a k d ∷ items) x h (suc j) at from y e is =
    is_no_let items x (none_behind suc (lets_of items x) h) j at from y e is

pub top_names_are_items : TopNamesAreItems
top_names_are_items = record { item = is_item; no_item = is_no_item; a_let = is_let; no_let = is_no_let }
