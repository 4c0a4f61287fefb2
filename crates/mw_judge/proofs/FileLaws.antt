-- Laws of files.
use Rattle.std.proofs.Common.{◌≡◌, ◌⊎◌, inl, inr, ℕ, zero, List, ◌∷◌, Result, Ok, Err, refl}
use Rattle.std.proofs.Common.{ap, arith}
use Rattle.mw_wasm.specs.Syntax.{PureModule}
use Rattle.mw_leb.specs.ReadingLaws.{AreBytes}
use Rattle.mw_decode.specs.declared.fault.BadModule.{BadModule}
use Rattle.mw_decode.specs.Sections.{module_read}
use Rattle.mw_decode.proofs.ModuleCompleteness.{spelled_file_is_read}
use Rattle.mw_decode.proofs.ModuleSoundness.{read_file_is_spelled}
use Rattle.mw_wat.proofs.OneModule.{one_module}
use Rattle.mw_wat.proofs.FirstBadPlaces.{never_both, one_of_both}
use Rattle.mw_judge.specs.declared.fault.BadFile.{BadFile}
use Rattle.mw_judge.specs.declared.fault.BadFile.TheVariants.{Module, Text}
use Rattle.mw_judge.specs.ModuleFiles.{IsBinary, IsText, IsFileOf, IsBadBinary, IsBadText, IsBadFile}

-- a binary module is read
pub binary_is_read : (bytes : List ℕ) (m : PureModule) → IsBinary bytes m → module_read bytes ≡ Ok m
binary_is_read bytes m h = spelled_file_is_read m bytes h.limit h.spelled h.profile

-- no bytes are two modules
pub one_binary_module : (bytes : List ℕ) (m n : PureModule) → IsBinary bytes m → IsBinary bytes n → m ≡ n
one_binary_module bytes m n a b = cc (binary_is_read bytes m a, binary_is_read bytes n b)

pub one_file_module : (bytes : List ℕ) (m n : PureModule) → IsFileOf bytes m → IsFileOf bytes n → m ≡ n
one_file_module (zero ∷ bytes) m n a b = one_binary_module (0 ∷ bytes) m n a b
one_file_module bytes m n a b = one_module bytes m n a.text b.text

-- none have a module and a fault
pub never_bad_and_binary : (bytes : List ℕ) (m : PureModule) (f : BadFile) → IsBinary bytes m → IsBadBinary bytes f → ⊥
never_bad_and_binary bytes m (Module f) h b = cc (binary_is_read bytes m h)
never_bad_and_binary bytes m (Text at) h b = b

never_bad_and_text : (bytes : List ℕ) (m : PureModule) (f : BadFile) → IsText bytes m → IsBadText bytes f → ⊥
never_bad_and_text bytes m (Module f) h b = b
never_bad_and_text bytes m (Text at) h b = never_both bytes m at h.text h.limit b.bad

pub never_bad_and_file : (bytes : List ℕ) (m : PureModule) (f : BadFile) → IsFileOf bytes m → IsBadFile bytes f → ⊥
never_bad_and_file (zero ∷ bytes) m f h b = never_bad_and_binary (0 ∷ bytes) m f h b
never_bad_and_file bytes m f h b = never_bad_and_text bytes m f h b

-- none have two faults
pub one_binary_fault : (bytes : List ℕ) (f g : BadFile) → IsBadBinary bytes f → IsBadBinary bytes g → f ≡ g
one_binary_fault bytes (Module f) (Module g) a b = cc
one_binary_fault bytes (Module f) (Text at) a b = absurd b
one_binary_fault bytes (Text at) g a b = absurd a

one_text_fault : (bytes : List ℕ) (f g : BadFile) → IsBadText bytes f → IsBadText bytes g → f ≡ g
one_text_fault bytes (Text x) (Text y) a b = ap Text (omega (arith, a.first y b.bad, b.first x a.bad))
one_text_fault bytes (Text x) (Module g) a b = absurd b
one_text_fault bytes (Module f) g a b = absurd a

pub one_file_fault : (bytes : List ℕ) (f g : BadFile) → IsBadFile bytes f → IsBadFile bytes g → f ≡ g
one_file_fault (zero ∷ bytes) f g a b = one_binary_fault (0 ∷ bytes) f g a b
one_file_fault bytes f g a b = one_text_fault bytes f g a b

-- all have one
pub binary_or_bad : (bytes : List ℕ) → AreBytes bytes
    → ((m : PureModule) × IsBinary bytes m) ⊎ ((f : BadFile) × IsBadBinary bytes f)
binary_or_bad bytes are = by_read (module_read bytes) refl
  where
    by_read : (r : Result PureModule BadModule) → module_read bytes ≡ r
        → ((m : PureModule) × IsBinary bytes m) ⊎ ((f : BadFile) × IsBadBinary bytes f)
    by_read (Ok m) e =
        let r = read_file_is_spelled m bytes are e in
        inl (m, record { limit = r.0; spelled = r.1; profile = r.2 })
    by_read (Err f) e = inr (Module f, e)

text_or_bad : (bytes : List ℕ) → ((m : PureModule) × IsText bytes m) ⊎ ((f : BadFile) × IsBadText bytes f)
text_or_bad bytes = elim (one_of_both bytes) [
  | inl h ↦ inl (h.0, record { limit = h.2; text = h.1 })
  | inr h ↦ inr (Text h.0, h.1)
]

pub file_or_bad : (bytes : List ℕ) → AreBytes bytes
    → ((m : PureModule) × IsFileOf bytes m) ⊎ ((f : BadFile) × IsBadFile bytes f)
file_or_bad (zero ∷ bytes) are = binary_or_bad (0 ∷ bytes) are
file_or_bad bytes are = text_or_bad bytes
