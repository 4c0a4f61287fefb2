-- What node lines name, in the order in which they are read.
use Rattle.std.specs.Prelude.{ℕ, zero, suc, List, [], ◌∷◌, ◌++◌, get_or}
use Rattle.mw_term.specs.Terms.{Expression, num, truth, var, glob, fun, fix, app, bind, cond, pair, fst, snd, prim}
use Rattle.mw_term.specs.Terms.{bracket, escape, run, close, opened, lift, lift_b, done}
use Rattle.mw_term.specs.Types.{TermType}
use Rattle.mw_types.specs.Types.{TypeExpression, int_ty, Assignment, value}
use Rattle.mw_lines.specs.Naming.{types_named}
use Rattle.mw_recheck.specs.Sections.{SectionLines}

-- How many types each node's line names, in pre-order. After them stands the classifier, where the line names one.
abbrev pub type_counts : Expression → List ℕ
type_counts (num z) = 1 ∷ []
type_counts (truth b) = 1 ∷ []
type_counts (var i) = 1 ∷ []
type_counts (glob i) = 1 ∷ []
type_counts (fun e) = 2 ∷ type_counts e
type_counts (fix e) = 3 ∷ type_counts e
type_counts (app f a) = 1 ∷ (type_counts f ++ type_counts a)
type_counts (bind d e) = 2 ∷ (type_counts d ++ type_counts e)
type_counts (cond c a b) = 1 ∷ (type_counts c ++ (type_counts a ++ type_counts b))
type_counts (pair a b) = 1 ∷ (type_counts a ++ type_counts b)
type_counts (fst e) = 2 ∷ type_counts e
type_counts (snd e) = 2 ∷ type_counts e
type_counts (prim o a b) = 1 ∷ (type_counts a ++ type_counts b)
type_counts (bracket e) = 1 ∷ type_counts e
type_counts (escape e) = 1 ∷ type_counts e
type_counts (run k e) = 1 ∷ type_counts e
type_counts (close at e) = 2 ∷ type_counts e
type_counts (opened e) = 2 ∷ type_counts e
type_counts (lift e) = 1 ∷ type_counts e
type_counts (lift_b e) = 1 ∷ type_counts e
type_counts (done v) = 1 ∷ []

-- a node line names a type or a classifier
pub data Reading : Type 0 where
  a_type : (t : TypeExpression) → Reading
  a_classifier : (c : ℕ) → Reading

-- what a line reads that names so many types by their places among these
abbrev pub line_readings : List TypeExpression → ℕ → List ℕ → List Reading
line_readings ts count [] = []
line_readings ts zero (c ∷ ns) = a_classifier c ∷ line_readings ts zero ns
line_readings ts (suc count) (i ∷ ns) = a_type (get_or ts i int_ty) ∷ line_readings ts count ns

-- the same of lines, one after the other
abbrev pub readings : List TypeExpression → List ℕ → List (List ℕ) → List Reading
readings ts [] nodes = []
readings ts (count ∷ counts) [] = []
readings ts (count ∷ counts) (l ∷ nodes) = line_readings ts count l ++ readings ts counts nodes

-- what the node lines of a term's section name
abbrev pub section_readings : Expression → SectionLines → List Reading
section_readings e x = readings (types_named x.types) (type_counts e) x.nodes

-- A reading under an assignment: a finite type, or a classifier.
pub data ReadingValue : Type 0 where
  type_value : (t : TermType) → ReadingValue
  classifier_value : (c : ℕ) → ReadingValue

-- what an assignment makes of a reading
abbrev pub reading_value : Assignment → Reading → ReadingValue
reading_value b (a_type t) = type_value (value b t)
reading_value b (a_classifier c) = classifier_value (b.classifier c)
