-- Places of top-level names.
use Rattle.std.proofs.Common.{◌≡◌, ℕ, suc, Bool, true, false, cond, List, [], ◌∷◌, ◌++◌, length, Option, Some, None}
use Rattle.std.proofs.Common.{refl, ap, sym, ◌∙◌}
use Rattle.std.specs.Option.{option_or, option_map, IsSome}
use Rattle.std.specs.Str.{bytes_eq}
use Rattle.std.specs.Map.{lookup, set_value}
use Rattle.std.proofs.lemmas.Slice.Eq.{bytes_eq-Decides}
use Rattle.std.proofs.lemmas.Option.{none-some}
use Rattle.indexmap.specs.IndexMap.{insert_entry}
use Rattle.mw_term.specs.Terms.{KernelType}
use Rattle.mw_grammar.specs.SurfaceTrees.{SurfaceTree, PureItem, let_item, kernel_item}
use Rattle.mw_scope.specs.declared.names.Names.{Names}
use Rattle.mw_scope.specs.Scopes.{name_of, lets_of, items_of}
use Rattle.mw_scope.specs.Views.{place_at, Knows}

-- an entry with the key's bytes takes the value
same_entry : {V : Type 0} (b : Bool) (v w : V) (o : Option V) → cond b (Some v) o ≡ cond b (Some v) (cond b (Some w) o)
same_entry true v w o = refl
same_entry false v w o = refl

-- another entry stays before the key's
other_entry : {V : Type 0} (here there : Bool) (v w : V) (o p : Option V) → (here ≡ true → there ≡ true → ⊥)
    → p ≡ cond there (Some v) o → cond here (Some w) p ≡ cond there (Some v) (cond here (Some w) o)
other_entry true true v w o p apart e = absurd (apart refl refl)
other_entry true false v w o p apart e = refl
other_entry false there v w o p apart e = e

-- a name is not two
no_both : (name own x : List ℕ) → bytes_eq name own ≡ false → bytes_eq x own ≡ true → bytes_eq x name ≡ true → ⊥
no_both name own x h there this =
    let same : name ≡ own = sym ((bytes_eq-Decides x name).0 this) ∙ (bytes_eq-Decides x own).0 there in
    absurd (cc (sym ((bytes_eq-Decides name own).1 same) ∙ h))

-- what is looked up after an insertion
pub lookup-insert : {K V : Type 0} (eq : K → K → Bool) (bytes : K → List ℕ)
    → ((a b : K) → eq a b ≡ bytes_eq (bytes a) (bytes b)) → (es : List (K × V)) (key : K) (v : V)
    → (x : List ℕ) → lookup (λ k. bytes_eq x (bytes k)) (insert_entry eq es key v) ≡ cond (bytes_eq x (bytes key))
    (Some v) (lookup (λ k. bytes_eq x (bytes k)) es)
lookup-insert eq bytes is [] key v x = refl
lookup-insert {K} {V} eq bytes is (e ∷ es) key v x =
    let look : List (K × V) → Option V = λ l. lookup (λ k. bytes_eq x (bytes k)) l in
    let rest = lookup-insert eq bytes is es key v x in
    let decides = bytes_eq-Decides (bytes key) (bytes e.0) in
    let P : Bool → Type 0 = λ t. bytes_eq (bytes key) (bytes e.0) ≡ t
    → look (cond t ((e.0, v) ∷ es) (e ∷ insert_entry eq es key v)) ≡ cond (bytes_eq x (bytes key)) (Some v)
    (look (e ∷ es)) in
    let by : (t : Bool) → P t = λ t. elim t as P [
      | true ↦ λ h. rw (decides.0 h) (same_entry (bytes_eq x (bytes e.0)) v e.1 (look es))
      | false ↦ λ h. other_entry (bytes_eq x (bytes e.0)) (bytes_eq x (bytes key)) v e.1 (look es) _
          (no_both (bytes key) (bytes e.0) x h) rest
    ] in
    rw (is key e.0) (by (bytes_eq (bytes key) (bytes e.0)) refl)

-- what is looked up after a write to the entry of a name
pub lookup-write : {K V : Type 0} (bytes : K → List ℕ) (es : List (K × V)) (name : List ℕ) (v : V) (x : List ℕ)
    → IsSome (lookup (λ k. bytes_eq name (bytes k)) es)
    → lookup (λ k. bytes_eq x (bytes k)) (set_value (λ k. bytes_eq name (bytes k)) es v) ≡ cond (bytes_eq x name)
    (Some v) (lookup (λ k. bytes_eq x (bytes k)) es)
lookup-write bytes [] name v x here = absurd (cc here)
lookup-write {K} {V} bytes (e ∷ es) name v x here =
    let look : (List ℕ) → List (K × V) → Option V = λ y l. lookup (λ k. bytes_eq y (bytes k)) l in
    let rest = lookup-write bytes es name v x in
    let decides = bytes_eq-Decides name (bytes e.0) in
    let P : Bool → Type 0 = λ t. bytes_eq name (bytes e.0) ≡ t → IsSome (cond t (Some e.1) (look name es))
    → look x (cond t ((e.0, v) ∷ es) (e ∷ set_value (λ k. bytes_eq name (bytes k)) es v)) ≡ cond (bytes_eq x name)
    (Some v) (look x (e ∷ es)) in
    let by : (t : Bool) → P t = λ t. elim t as P [
      | true ↦ λ h there. rw (decides.0 h) (same_entry (bytes_eq x (bytes e.0)) v e.1 (look x es))
      | false ↦ λ h there. other_entry (bytes_eq x (bytes e.0)) (bytes_eq x name) v e.1 (look x es) _
          (no_both name (bytes e.0) x h) (rest there)
    ] in
    by (bytes_eq name (bytes e.0)) refl here

-- the place of a name that had no entry
pub place_added : (was now : Option ℕ) (b : Bool) (at : ℕ) → (b ≡ true → was ≡ None) → now ≡ cond b (Some at) was
    → now ≡ option_or was (cond b (Some at) None)
place_added None now b at h e = e
place_added (Some i) now true at h e = absurd (none-some i (sym (h refl)))
place_added (Some i) now false at h e = e

-- a place among items, and one after another item
behind : (o : Option ℕ) (b : Bool) (n : ℕ) → option_map suc (option_or o (cond b (Some n) None))
    ≡ option_or (option_map suc o) (cond b (Some (suc n)) None)
behind (Some i) b n = refl
behind None true n = refl
behind None false n = refl

not_first : (t b : Bool) (o p : Option ℕ) (n : ℕ) → p ≡ option_or o (cond b (Some n) None)
    → cond t (Some 0) (option_map suc p) ≡ option_or (cond t (Some 0) (option_map suc o)) (cond b (Some (suc n)) None)
not_first true b o p n e = refl
not_first false b o p n e = ap (λ q. option_map suc q) e ∙ behind o b n

-- the names after one item more
pub items_of-append : (before : List PureItem) (item : PureItem) (x : List ℕ) → items_of (before ++ item ∷ []) x
    ≡ option_or (items_of before x) (cond (bytes_eq x (name_of item)) (Some (length before)) None)
items_of-append [] item x = refl
items_of-append (first ∷ before) item x = not_first (bytes_eq x (name_of first)) (bytes_eq x (name_of item))
    (items_of before x) _ (length before) (items_of-append before item x)

pub lets_of-append_let : (before : List PureItem) (y : List ℕ) (at from : ℕ) (e : SurfaceTree) (x : List ℕ)
    → lets_of (before ++ let_item y at from e ∷ []) x ≡ option_or (lets_of before x)
    (cond (bytes_eq x y) (Some (length before)) None)
lets_of-append_let [] y at from e x = refl
lets_of-append_let (let_item z _ _ _ ∷ before) y at from e x = not_first (bytes_eq x z) (bytes_eq x y)
    (lets_of before x) _ (length before) (lets_of-append_let before y at from e x)
lets_of-append_let (kernel_item z _ _ _ ∷ before) y at from e x = not_first false (bytes_eq x y) (lets_of before x) _
    (length before) (lets_of-append_let before y at from e x)

pub lets_of-append_kernel : (before : List PureItem) (y : List ℕ) (at : ℕ) (k : KernelType) (e : SurfaceTree)
    (x : List ℕ) → lets_of (before ++ kernel_item y at k e ∷ []) x ≡ lets_of before x
lets_of-append_kernel [] y at k e x = refl
lets_of-append_kernel (let_item z _ _ _ ∷ before) y at k e x = ap (λ p. cond (bytes_eq x z) (Some 0) (option_map suc p))
    (lets_of-append_kernel before y at k e x)
lets_of-append_kernel (kernel_item z _ _ _ ∷ before) y at k e x =
    ap (λ p. option_map suc p) (lets_of-append_kernel before y at k e x)

-- names with an item's place added
pub with_place : (new old known all : Option ℕ) (b : Bool) (index n : ℕ) → n ≡ index
    → new ≡ option_or old (cond b (Some index) None) → old ≡ known → all ≡ option_or known (cond b (Some n) None)
    → new ≡ all
with_place new old known all b index n same added knew more = added ∙ rw (knew, sym same) (sym more)

pub knows_let : (old new : Names) (before : List PureItem) (y : List ℕ) (at from : ℕ) (e : SurfaceTree) (index : ℕ)
    → Knows old before → length before ≡ index
    → ((x : List ℕ) → place_at new.lets x ≡ option_or (place_at old.lets x) (cond (bytes_eq x y) (Some index) None))
    → ((x : List ℕ) → place_at new.all x ≡ option_or (place_at old.all x) (cond (bytes_eq x y) (Some index) None))
    → Knows new (before ++ let_item y at from e ∷ [])
knows_let old new before y at from e index knows n lets all = record {
  lets = λ x. with_place (place_at new.lets x) (place_at old.lets x) (lets_of before x) _ (bytes_eq x y) index
      (length before) n (lets x) (knows.lets x) (lets_of-append_let before y at from e x);
  all = λ x. with_place (place_at new.all x) (place_at old.all x) (items_of before x) _ (bytes_eq x y) index
      (length before) n (all x) (knows.all x) (items_of-append before (let_item y at from e) x);
}

pub knows_kernel : (old new : Names) (before : List PureItem) (y : List ℕ) (at : ℕ) (k : KernelType) (e : SurfaceTree)
    (index : ℕ) → Knows old before → length before ≡ index
    → ((x : List ℕ) → place_at new.lets x ≡ place_at old.lets x)
    → ((x : List ℕ) → place_at new.all x ≡ option_or (place_at old.all x) (cond (bytes_eq x y) (Some index) None))
    → Knows new (before ++ kernel_item y at k e ∷ [])
knows_kernel old new before y at k e index knows n lets all = record {
  lets = λ x. lets x ∙ knows.lets x ∙ sym (lets_of-append_kernel before y at k e x);
  all = λ x. with_place (place_at new.all x) (place_at old.all x) (items_of before x) _ (bytes_eq x y) index
      (length before) n (all x) (knows.all x) (items_of-append before (kernel_item y at k e) x);
}
