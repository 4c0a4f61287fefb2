-- What is proved of writing types as lines.
use Rattle.std.specs.Prelude.{ℕ, ◌≡◌, List, [], ◌∷◌, ◌++◌, Some, slice_get}
use Rattle.mw_types.specs.Types.{TypeExpression, int_ty, bool_ty, unknown, pair_ty, function_ty, code_ty, closed_ty}
use Rattle.mw_types.specs.Types.{Substitution, apply}
use Rattle.mw_lines.specs.TypeLines.{TypeLine, int_line, code_line, closed_line}
use Rattle.mw_lines.specs.TypeLines.{HoldsNoCode, AreTypeLines}
use Rattle.mw_lines.specs.Naming.{types_named}
use Rattle.mw_section.specs.Writing.{Writing, place_of, nothing_written, type_written, classifier_written}
use Rattle.mw_section.specs.Writers.{IsWritten}

-- the second is the first, and more behind it
pub record IsContinued (w v : Writing) : Type 0 where
  pub unknowns : (more : List ℕ) × (v.unknowns ≡ w.unknowns ++ more)
  pub classifiers : (more : List ℕ) × (v.classifiers ≡ w.classifiers ++ more)
  pub lines : (more : List TypeLine) × (v.lines ≡ w.lines ++ more)

-- what is written stays
pub record WritingOnlyAdds : Type 0 where
  pub same : (w : Writing) → IsContinued w w
  pub more : (w v x : Writing) → IsContinued w v → IsContinued v x → IsContinued w x
  pub type : (t : TypeExpression) (w : Writing) → IsContinued w (type_written t w).writing
  pub classifier : (c : ℕ) (w : Writing) → IsContinued w (classifier_written c w).writing

-- a type is written once: to write it again changes nothing, also after more was written
pub record WrittenOnce : Type 0 where
  pub here : (t : TypeExpression) (w : Writing) → IsWritten t (type_written t w).place (type_written t w).writing
  pub later : (t : TypeExpression) (p : ℕ) (w v : Writing) → IsWritten t p w → IsContinued w v → IsWritten t p v

-- no code type stands under a code type
abbrev pub IsFormed : TypeExpression → Type 0
IsFormed int_ty = Unit {0}
IsFormed bool_ty = Unit {0}
IsFormed (unknown u) = Unit {0}
IsFormed (pair_ty s t) = IsFormed s × IsFormed t
IsFormed (function_ty s t) = IsFormed s × IsFormed t
IsFormed (code_ty c t) = HoldsNoCode t
IsFormed (closed_ty t) = HoldsNoCode t

-- the lines that are written name types
abbrev pub AreTyped : Writing → Type 0
AreTyped w = AreTypeLines w.lines (types_named w.lines)

-- the lines of a writing that began with nothing name types
pub record LinesAreTypeLines : Type 0 where
  pub nothing : AreTyped nothing_written
  pub type : (t : TypeExpression) (w : Writing) → IsFormed t → AreTyped w → AreTyped (type_written t w).writing
  pub classifier : (c : ℕ) (w : Writing) → AreTyped w → AreTyped (classifier_written c w).writing

-- unknowns and classifiers become their numbers
abbrev pub numbering : Writing → Substitution
numbering w = record { ty = λ u. unknown (place_of u w.unknowns); classifier = λ c. place_of c w.classifiers }

-- the line at the place of a written type names that type, renumbered
abbrev pub LinesNameWritten : Type 0
LinesNameWritten = (t : TypeExpression) (p : ℕ) (w : Writing) → AreTyped w → IsWritten t p w
    → slice_get (types_named w.lines) p ≡ Some (apply (numbering w) t)

-- the types of a list, written one after the other: their places, and what is written then
pub record AllWritten : Type 0 where
  pub places : List ℕ
  pub writing : Writing

abbrev pub all_written : List TypeExpression → Writing → AllWritten
all_written [] w = record { places = []; writing = w }
all_written (t ∷ ts) w =
    let a = type_written t w in
    let b = all_written ts a.writing in
    record { places = a.place ∷ b.places; writing = b.writing }

-- the types of run[int] (close .<7>.) in reading order, where the code has classifier 5
abbrev pub ExampleIsWritten : Type 0
ExampleIsWritten = all_written (int_ty ∷ closed_ty int_ty ∷ code_ty 5 int_ty ∷ int_ty ∷ []) nothing_written
    ≡ record {
      places = 0 ∷ 1 ∷ 2 ∷ 0 ∷ [];
      writing = record {
        unknowns = [];
        classifiers = 5 ∷ [];
        lines = int_line ∷ closed_line 0 ∷ code_line 0 0 ∷ [];
      };
    }
