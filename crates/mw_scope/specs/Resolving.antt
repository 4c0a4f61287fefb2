-- What resolving a surface program answers, and the laws of its definitions.
use Rattle.std.specs.Prelude.{ℕ, ◌≡◌, ◌≢◌, ◌<◌, ◌↔◌, List, [], map, Result, Some, None, slice_get}
use Rattle.mw_term.specs.Programs.{PureProgram, program_of}
use Rattle.mw_term.specs.Stops.{AnswersOrMemory}
use Rattle.mw_term.specs.declared.program.Program.{Program}
use Rattle.mw_term.specs.declared.refusal.Refusal.{Refusal}
use Rattle.mw_term.specs.declared.refusal.Stop.{Stop}
use Rattle.mw_grammar.specs.SurfaceTrees.{SurfaceTree, PureItem, let_item, PureSurface}
use Rattle.mw_scope.specs.declared.level.Level.{Level}
use Rattle.mw_scope.specs.declared.fault.Fault.{Fault}
use Rattle.mw_scope.specs.Scopes.{Binder, nearest, name_of, lets_of, items_of}
use Rattle.mw_scope.specs.Nameless.{IsNameless}
use Rattle.mw_scope.specs.Faults.{faults_of, refusal_of, IsFirst}

-- the names of a program's items are those of the surface program's
abbrev pub KeepsNames : PureSurface → Program → Type 0
KeepsNames s p = map (λ i. i.name) p.items ≡ map name_of s.items

-- the answer is this program, unless memory ran out
abbrev pub IsProgramOrMemory : Result Program Stop → PureProgram → Type 0
IsProgramOrMemory result p = AnswersOrMemory (λ q. program_of q ≡ p) result

-- a refusal is that of the program's first fault
abbrev pub IsOfFirstFault : PureSurface → Refusal → Type 0
IsOfFirstFault s r = (f : Fault) × (r ≡ refusal_of f) × IsFirst (faults_of s) f

-- a surface program is some program exactly where it has no fault
abbrev pub NamelessWhereFaultless : Type 0
NamelessWhereFaultless = (s : PureSurface) → ((p : PureProgram) × IsNameless s p) ↔ (faults_of s ≡ [])

-- it is one program at most
abbrev pub OneNameless : Type 0
OneNameless = (s : PureSurface) (p q : PureProgram) → IsNameless s p → IsNameless s q → p ≡ q

-- the nearest binder of a name is of that name, at that level, and no binder before it has the name; where there is
-- none, no binder has it
pub record NearestIsNearest : Type 0 where
  pub found : (g : List Binder) (x : List ℕ) (i : ℕ) (m : Level) → nearest g x ≡ Some (i, m)
      → (slice_get g i ≡ Some (record { name = x; level = m }))
      × ((j : ℕ) (b : Binder) → j < i → slice_get g j ≡ Some b → b.name ≢ x)
  pub none : (g : List Binder) (x : List ℕ) → nearest g x ≡ None → (j : ℕ) (b : Binder) → slice_get g j ≡ Some b
      → b.name ≢ x

-- the item that a name stands for has the name, and is a let where items see it; a name that stands for none is the
-- name of none
pub record TopNamesAreItems : Type 0 where
  pub item : (items : List PureItem) (x : List ℕ) (i : ℕ) → items_of items x ≡ Some i → (item : PureItem)
      × (slice_get items i ≡ Some item) × (name_of item ≡ x)
  pub no_item : (items : List PureItem) (x : List ℕ) → items_of items x ≡ None → (j : ℕ) (item : PureItem)
      → slice_get items j ≡ Some item → name_of item ≢ x
  pub a_let : (items : List PureItem) (x : List ℕ) (i : ℕ) → lets_of items x ≡ Some i → (at : ℕ) × (from : ℕ)
      × (e : SurfaceTree) × (slice_get items i ≡ Some (let_item x at from e))
  pub no_let : (items : List PureItem) (x : List ℕ) → lets_of items x ≡ None
      → (j at from : ℕ) (y : List ℕ) (e : SurfaceTree) → slice_get items j ≡ Some (let_item y at from e) → y ≢ x
