-- How far the check of a program has come.
use Rattle.std.specs.Prelude.{ℕ, zero, suc, ◌≡◌, ◌≤◌, ◌<◌, List, [], ◌∷◌, ◌++◌, length, Option, None, Some}
use Rattle.std.specs.Prelude.{slice_get}
use Rattle.mw_term.specs.Terms.{Expression, GroundType}
use Rattle.mw_term.specs.Programs.{Definition, value, kernel, PureProgram}
use Rattle.mw_term.specs.declared.refusal.Refusal.{Refusal}
use Rattle.mw_term.specs.Typable.{seen_by_item}
use Rattle.mw_infer.specs.Schemes.{TopScheme, let_scheme, kernel_scheme, scheme_out_of_scope}
use Rattle.mw_term.specs.Parts.{Place, let_place, kernel_place, main_place}
use Rattle.mw_term.specs.Parts.{Part, part_of_item, IsPart}
use Rattle.mw_infer.specs.Checking.{ArePrincipal, TypeFault, HasFault, IsFaultless, refusal_of}
use Rattle.mw_infer.specs.Judging.{Judges}
use Rattle.mw_infer.specs.Nodes.{NodeFacts, AreNodesOfPart}
use Rattle.mw_infer.specs.Typings.{PartTypes}
use Rattle.mw_infer.specs.Views.{scheme_of}
use Rattle.mw_infer.specs.declared.judge.Verdict.TheVariants.{Fine}
use Rattle.mw_infer.specs.declared.judge.Judged.{Judged}

-- each let's type has at most 10,000 unknowns and classifier unknowns
abbrev pub AreModest : List TopScheme → Type 0
AreModest [] = Unit {0}
AreModest (let_scheme s ∷ schemes) = ((s.unknowns ≤ 10000) × (s.classifiers ≤ 10000)) × AreModest schemes
AreModest (kernel_scheme k ∷ schemes) = AreModest schemes
AreModest (scheme_out_of_scope ∷ schemes) = AreModest schemes

-- the first i items are without fault, and these are the schemes that the next one sees
pub record Progress (p : PureProgram) (i : ℕ) (schemes : List TopScheme) : Type 0 where
  pub principal : ArePrincipal (seen_by_item p.items i) schemes
  pub modest : AreModest schemes
  pub earlier : (j : ℕ) (x : Part) → j < i → IsPart p j x → IsFaultless x

-- the refusal is that of a fault of the term at its place, where it is part i
abbrev pub IsFaultOf : List TopScheme → Place → Expression → ℕ → Refusal → Type 0
IsFaultOf schemes place e i r = (f : TypeFault) × HasFault schemes place e f × (r ≡ refusal_of i f)

-- the same of an item's definition
abbrev pub IsFaultOfItem : List TopScheme → Definition → ℕ → Refusal → Type 0
IsFaultOfItem schemes d i r = IsFaultOf schemes (part_of_item [] d).place (part_of_item [] d).term i r

-- after an item that is without fault there are these schemes, and this is known of its nodes
abbrev pub Steps : List TopScheme → Definition → List TopScheme → Option PartTypes → Type 0
Steps schemes (value e) new nodes = (j : Judged) × Judges schemes let_place e (Fine j)
    × (new ≡ schemes ++ (let_scheme (scheme_of j.known) ∷ [])) × (nodes ≡ j.nodes)
Steps schemes (kernel k e) new nodes = (j : Judged) × Judges schemes (kernel_place k) e (Fine j)
    × (new ≡ schemes ++ (scheme_out_of_scope ∷ [])) × (nodes ≡ j.nodes)

-- of main, after which nothing is left to do
abbrev pub Ends : List TopScheme → GroundType → Expression → Option PartTypes → Type 0
Ends schemes g e nodes = (j : Judged) × Judges schemes (main_place g) e (Fine j) × (nodes ≡ j.nodes)

-- what is known of a part, if it is, as a list
abbrev pub listed : Option PartTypes → List PartTypes
listed None = []
listed (Some nodes) = nodes ∷ []

-- these facts are of the nodes of the first i parts
pub record AreNodesBefore (p : PureProgram) (i : ℕ) (parts : List (List NodeFacts)) : Type 0 where
  pub count : length parts ≡ i
  pub each : (j : ℕ) (x : Part) (facts : List NodeFacts) → j < i → IsPart p j x → slice_get parts j ≡ Some facts
      → AreNodesOfPart x facts

-- the schemes with those of the kernel items among the first n
abbrev pub revealed_to : ℕ → List Definition → List TopScheme → List TopScheme
revealed_to zero items schemes = schemes
revealed_to (suc n) [] schemes = schemes
revealed_to (suc n) (d ∷ items) [] = []
revealed_to (suc n) (value e ∷ items) (s ∷ schemes) = s ∷ revealed_to n items schemes
revealed_to (suc n) (kernel k e ∷ items) (s ∷ schemes) = kernel_scheme k ∷ revealed_to n items schemes
