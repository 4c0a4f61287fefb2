-- A surface program is a program exactly where it has no fault, and then it is the one that the walk builds.
use Rattle.std.proofs.Common.{◌≡◌, ℕ, Bool, true, false, List, [], ◌∷◌, ◌++◌, Option, Some, None, refl, ap, sym, ◌∙◌}
use Rattle.std.specs.Prelude.{IsTrue}
use Rattle.mw_term.specs.Programs.{Definition, value, kernel, PureProgram}
use Rattle.mw_grammar.specs.SurfaceTrees.{PureItem, let_item, kernel_item, PureSurface}
use Rattle.mw_scope.specs.declared.level.Level.TheVariants.{Live}
use Rattle.mw_scope.specs.Scopes.{name_of, lets_of, items_of}
use Rattle.mw_scope.specs.Nameless.{is_value, NamelessItem, a_let, a_kernel, NamelessItems, no_item, an_item}
use Rattle.mw_scope.specs.Nameless.{IsNameless}
use Rattle.mw_scope.specs.Faults.{faults_in, faults_of_name, faults_of_value, faults_of_item, faults_of_items}
use Rattle.mw_scope.specs.Faults.{faults_of}
use Rattle.mw_scope.specs.Named.{named_item, named_items, named_program}
use Rattle.mw_scope.specs.Resolving.{NamelessWhereFaultless, OneNameless}
use Rattle.mw_scope.proofs.Faultless.{no_cons, empty_left, empty_right, empty_both, faultless, has_no_fault, is_named}

name_is_new : (place : Option ℕ) (at : ℕ) → faults_of_name place at ≡ [] → place ≡ None
name_is_new (Some i) at e = no_cons _ _ e
name_is_new None at e = refl

new_name : (place : Option ℕ) (at : ℕ) → place ≡ None → faults_of_name place at ≡ []
new_name place at e = ap (λ p. faults_of_name p at) e

is_a_value : (b : Bool) (from : ℕ) → faults_of_value b from ≡ [] → IsTrue b
is_a_value true from e = refl
is_a_value false from e = no_cons _ _ e

a_value : (b : Bool) (from : ℕ) → IsTrue b → faults_of_value b from ≡ []
a_value b from e = ap (λ t. faults_of_value t from) e

faultless_name : (before : List PureItem) (item : PureItem) → faults_of_item (lets_of before) (items_of before) item
    ≡ [] → items_of before (name_of item) ≡ None
faultless_name before (let_item x at from t) e = name_is_new _ at (empty_left _ _ e)
faultless_name before (kernel_item x at k t) e = name_is_new _ at (empty_left _ _ e)

faultless_item : (before : List PureItem) (item : PureItem) → faults_of_item (lets_of before) (items_of before) item
    ≡ [] → NamelessItem before item (named_item (lets_of before) item)
faultless_item before (let_item x at from t) e =
    let more : faults_of_value (is_value t) from ++ faults_in (lets_of before) [] Live t ≡ [] =
    empty_right (faults_of_name (items_of before x) at) _ e in
    a_let (is_a_value (is_value t) from (empty_left _ _ more))
    (faultless (lets_of before) [] Live t (empty_right (faults_of_value (is_value t) from) _ more))
faultless_item before (kernel_item x at k t) e =
    a_kernel (faultless (lets_of before) [] Live t (empty_right (faults_of_name (items_of before x) at) _ e))

faultless_items : (before items : List PureItem) → faults_of_items before items ≡ []
    → NamelessItems before items (named_items before items)
faultless_items before [] e = no_item
faultless_items before (item ∷ items) e =
    let own : faults_of_item (lets_of before) (items_of before) item ≡ [] = empty_left _ _ e in
    an_item (faultless_name before item own) (faultless_item before item own)
    (faultless_items (before ++ item ∷ []) items
    (empty_right (faults_of_item (lets_of before) (items_of before) item) _ e))

pub faultless_program : (s : PureSurface) → faults_of s ≡ [] → IsNameless s (named_program s)
faultless_program s e = record {
  items = faultless_items [] s.items (empty_left _ _ e);
  result = refl;
  body = faultless (items_of s.items) [] Live s.body (empty_right (faults_of_items [] s.items) _ e);
}

item_has_no_fault : {before : List PureItem} {item : PureItem} {d : Definition} → items_of before (name_of item) ≡ None
    → NamelessItem before item d → faults_of_item (lets_of before) (items_of before) item ≡ []
item_has_no_fault new (a_let {at = at} {from = from} {t = t} v d) =
    empty_both (new_name _ at new) (empty_both (a_value (is_value t) from v) (has_no_fault d))
item_has_no_fault new (a_kernel {at = at} d) = empty_both (new_name _ at new) (has_no_fault d)

items_have_no_fault : {before items : List PureItem} {ds : List Definition} → NamelessItems before items ds
    → faults_of_items before items ≡ []
items_have_no_fault no_item = refl
items_have_no_fault (an_item new d ds) = empty_both (item_has_no_fault new d) (items_have_no_fault ds)

pub program_has_no_fault : {s : PureSurface} {p : PureProgram} → IsNameless s p → faults_of s ≡ []
program_has_no_fault h = empty_both (items_have_no_fault h.items) (has_no_fault h.body)

item_is_named : {before : List PureItem} {item : PureItem} {d : Definition} → NamelessItem before item d
    → d ≡ named_item (lets_of before) item
item_is_named (a_let v d) = ap value (is_named d)
item_is_named (a_kernel {k = k} d) = ap (λ e. kernel k e) (is_named d)

items_are_named : {before items : List PureItem} {ds : List Definition} → NamelessItems before items ds
    → ds ≡ named_items before items
items_are_named no_item = refl
items_are_named (an_item new d ds) = rw (item_is_named d, items_are_named ds) refl

pub program_is_named : (s : PureSurface) (p : PureProgram) → IsNameless s p → p ≡ named_program s
program_is_named s p h = let e : p.items ≡ named_items [] s.items = items_are_named h.items in let r : p.result
    ≡ s.result = h.result in let b = is_named h.body in rw (e, r, b) refl

pub nameless_where_faultless : NamelessWhereFaultless
nameless_where_faultless s = (λ h. program_has_no_fault h.1, λ e. (named_program s, faultless_program s e))

pub one_nameless : OneNameless
one_nameless s p q h k = program_is_named s p h ∙ sym (program_is_named s q k)
