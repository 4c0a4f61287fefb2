-- The terms of a program with the names that they see, and programs as resolving gives them.
use Rattle.std.specs.Prelude.{ℕ, ◌≡◌, ◌<◌, ◌^◌, false, List, [], map, length, Some, slice_get}
use Rattle.mw_term.specs.Terms.{Expression, GroundType, KernelType, size}
use Rattle.mw_term.specs.Programs.{Definition, value, kernel, PureProgram, IsSyntacticValue}
use Rattle.mw_term.specs.Typing.{TopLevel}
use Rattle.mw_term.specs.Typable.{seen_by_item, seen_by_main}
use Rattle.mw_term.specs.Scoped.{IsScoped, is_seen}

-- what the term of a place in a program is asked: a let's definition no type, a kernel item's closed code of its kernel
-- type, main's its ground type
pub data Place : Type 0 where
  let_place : Place
  kernel_place : (k : KernelType) → Place
  main_place : (g : GroundType) → Place

-- a term of a program, with the names that it sees and its place
pub record Part : Type 0 where
  pub names : List TopLevel
  pub place : Place
  pub term : Expression

abbrev pub part_of_item : List TopLevel → Definition → Part
part_of_item names (value e) = record { names = names; place = let_place; term = e }
part_of_item names (kernel k e) = record { names = names; place = kernel_place k; term = e }

abbrev pub part_of_main : PureProgram → Part
part_of_main p = record { names = seen_by_main p.items; place = main_place p.result; term = p.body }

-- the part at an index: an item's definition, and after the items main
pub data IsPart (p : PureProgram) : ℕ → Part → Type 0 where
  an_item : {i : ℕ} {d : Definition} → slice_get p.items i ≡ Some d
      → IsPart p i (part_of_item (seen_by_item p.items i) d)
  main : {i : ℕ} → i ≡ length p.items → IsPart p i (part_of_main p)

-- a program as resolving gives it: names are bound, levels are right, and numbers of nodes and items fit 32 bits
pub record IsResolved (p : PureProgram) : Type 0 where
  pub values : (i : ℕ) (e : Expression) → slice_get p.items i ≡ Some (value e) → IsSyntacticValue e
  pub scoped : (i : ℕ) (x : Part) → IsPart p i x → IsScoped (map is_seen x.names) [] false x.term
  pub small : (i : ℕ) (x : Part) → IsPart p i x → size x.term < 2 ^ 32
  pub count : length p.items < 2 ^ 32
