-- The walk of items, between two of them.
use Rattle.std.proofs.Common.{◌≡◌, ℕ, suc, ◌+◌, List, [], ◌∷◌, ◌++◌, length, Option, refl, ap, sym, ◌∙◌, subst}
use Rattle.std.proofs.Common.{append_assoc, length-append, ◌<◌, take, drop, get_or, add-one}
use Rattle.std.specs.Prelude.{map}
use mathlib.Core.Path.{fun_ext}
use Rattle.std.proofs.lemmas.List.{map-append}
use Rattle.std.proofs.Math.Seq.{drop-cons, take-suc}
use Rattle.mw_term.specs.declared.program.Item.{Item}
use Rattle.mw_term.specs.Programs.{Definition, definition_of}
use Rattle.mw_grammar.specs.SurfaceTrees.{PureItem, item_of}
use Rattle.mw_grammar.specs.declared.tree.SurfaceItem.{SurfaceItem}
use Rattle.mw_grammar.specs.SurfaceDepth.{AreShallow}
use Rattle.mw_scope.specs.declared.fault.Fault.{Fault}
use Rattle.mw_scope.specs.declared.names.Names.{Names}
use Rattle.mw_scope.specs.Scopes.{name_of, lets_of, items_of}
use Rattle.mw_scope.specs.Faults.{faults_of_item, faults_of_items}
use Rattle.mw_scope.specs.Named.{named_item, named_items}
use Rattle.mw_scope.specs.Keeping.{kept}
use Rattle.mw_scope.specs.Views.{place_at, Knows}
use Rattle.mw_scope.proofs.Firsts.{kept_append}

abbrev pub definitions_of : List Item → List Definition
definitions_of items = map (λ i. definition_of i.kind) items

abbrev pub names_of : List Item → List (List ℕ)
names_of items = map (λ i. i.name) items

-- between two items: those before, those that are left, and what was made of those before
pub record Progress (all before rest : List PureItem) (done : List Item) (names : Names) (start first : Option Fault) :
    Type 0 where
  pub knows : Knows names before
  pub shallow : AreShallow rest
  pub count : length done ≡ length before
  pub names_so_far : names_of done ++ map name_of rest ≡ map name_of all
  pub definitions_so_far : definitions_of done ++ named_items before rest ≡ named_items [] all
  pub faults_so_far : kept first (faults_of_items before rest) ≡ kept start (faults_of_items [] all)

pub at_start : (all : List PureItem) (names : Names) (start : Option Fault) → Knows names [] → AreShallow all
    → Progress all [] all [] names start start
at_start all names start knows shallow = record {
  knows = knows;
  shallow = shallow;
  count = refl;
  names_so_far = refl;
  definitions_so_far = refl;
  faults_so_far = refl;
}

lets_known : {names : Names} {before : List PureItem} → Knows names before → place_at names.lets ≡ lets_of before
lets_known knows = fun_ext (λ x. knows.lets x)

all_known : {names : Names} {before : List PureItem} → Knows names before → place_at names.all ≡ items_of before
all_known knows = fun_ext (λ x. knows.all x)

pub one_more : (all before : List PureItem) (x : PureItem) (rest : List PureItem) (done : List Item) (made : Item)
    (names names' : Names) (start first first' : Option Fault)
    → Progress all before (x ∷ rest) done names start first
    → made.name ≡ name_of x
    → definition_of made.kind ≡ named_item (place_at names.lets) x
    → first' ≡ kept first (faults_of_item (place_at names.lets) (place_at names.all) x)
    → Knows names' (before ++ x ∷ [])
    → Progress all (before ++ x ∷ []) rest (done ++ made ∷ []) names' start first'
one_more all before x rest done made names names' start first first' p name definition faults knows =
    let lets : place_at names.lets ≡ lets_of before = lets_known p.knows in
    let every : place_at names.all ≡ items_of before = all_known p.knows in
    let made_of : definition_of made.kind ≡ named_item (lets_of before) x = definition
    ∙ ap (λ t. named_item t x) lets in
    let found : first' ≡ kept first (faults_of_item (lets_of before) (items_of before) x) = faults
    ∙ rw (lets, every) refl in
    record {
      knows = knows;
      shallow = p.shallow.1;
      count = rw (length-append done (made ∷ []), length-append before (x ∷ [])) (ap (λ n. n + 1) p.count);
      names_so_far =
          rw (
            map-append (λ (i : Item). i.name) done (made ∷ []),
            append_assoc (names_of done) (made.name ∷ [])
                (map name_of rest),
            name,
          ) p.names_so_far;
      definitions_so_far =
          rw (
            map-append (λ (i : Item). definition_of i.kind) done (made ∷ []),
            append_assoc (definitions_of done)
                (definition_of made.kind ∷ []) (named_items (before ++ x ∷ []) rest),
            made_of,
          ) p.definitions_so_far;
      faults_so_far =
          rw found (sym
          (kept_append first (faults_of_item (lets_of before) (items_of before) x)
          (faults_of_items (before ++ x ∷ []) rest)) ∙ p.faults_so_far);
    }

-- the item at a place of the list is walked
pub at_place : (list : List SurfaceItem) (i : ℕ) (x : SurfaceItem) → i < length list → x ≡ get_or list i x
    → (done : List Item) (made : Item) (names names' : Names) (start first first' : Option Fault) (index : ℕ)
    → Progress (map item_of list) (map item_of (take i list)) (map item_of (drop i list)) done names start first
    → index ≡ length done
    → made.name ≡ name_of (item_of x)
    → definition_of made.kind ≡ named_item (place_at names.lets) (item_of x)
    → first' ≡ kept first (faults_of_item (place_at names.lets) (place_at names.all) (item_of x))
    → ((before : List PureItem) → Knows names before → length before ≡ index → Knows names' (before ++ item_of x ∷ []))
    → Progress (map item_of list) (map item_of (take (i + 1) list)) (map item_of (drop (i + 1) list))
    (done ++ made ∷ []) names' start first'
at_place list i x less is done made names names' start first first' index p count name definition faults knows =
    let all : List PureItem = map item_of list in
    let before : List PureItem = map item_of (take i list) in
    let rest : List PureItem = map item_of (drop (suc i) list) in
    let left : map item_of (drop i list) ≡ item_of x ∷ rest = ap (λ l. map item_of l) (drop-cons list i x less)
    ∙ ap (λ y. item_of y ∷ rest) (sym is) in
    let walked : map item_of (take (suc i) list) ≡ before ++ item_of x ∷ [] =
    ap (λ l. map item_of l) (take-suc list i x less) ∙ map-append item_of (take i list) (get_or list i x ∷ [])
    ∙ ap (λ y. before ++ item_of y ∷ []) (sym is) in
    let P : List PureItem → Type 0 = λ r. Progress all before r done names start first in
    let here : Progress all before (item_of x ∷ rest) done names start first = subst P left p in
    rw (add-one i, walked) (one_more all before (item_of x) rest done made names names' start first first' here name
    definition faults (knows before here.knows (sym here.count ∙ sym count)))
