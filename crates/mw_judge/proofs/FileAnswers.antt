-- What the readers answer, as answers about a file.
use Rattle.std.proofs.Common.{◌≡◌, zero, ℕ, true, false, List, ◌∷◌, Result, Ok, Err, subst, sym}
use Rattle.std.specs.Prelude.{IsErrAnd}
use Rattle.mw_wasm.specs.Syntax.{PureModule}
use Rattle.mw_wasm.specs.declared.modules.Module.{Module}
use Rattle.mw_wasm.specs.Views.{module_of}
use Rattle.mw_decode.specs.Gives.{Decodes}
use Rattle.mw_wat.specs.declared.fault.WatFault.{WatFault}
use Rattle.mw_wat.specs.declared.fault.WatFault.TheVariants as reading
use Rattle.mw_wat.specs.Answers.{Answers}
use Rattle.mw_judge.specs.declared.fault.FileFault.{FileFault}
use Rattle.mw_judge.specs.FileAnswers.{UnlessMemory, of_reading}
use Rattle.mw_judge.specs.ModuleFiles.{begins_binary, IsBinary, IsText, IsFileOf}

-- by the first byte of a file
pub binary_of_file : (bytes : List ℕ) (m : PureModule) → begins_binary bytes ≡ true → IsFileOf bytes m
    → IsBinary bytes m
binary_of_file (zero ∷ bytes) m e h = h
binary_of_file bytes m e h = absurd (cc)

pub text_of_file : (bytes : List ℕ) (m : PureModule) → begins_binary bytes ≡ false → IsFileOf bytes m → IsText bytes m
text_of_file (zero ∷ bytes) m e h = absurd (cc)
text_of_file bytes m e h = h

-- a fault of the reader of texts, where the bytes are a text
only_memory : {A : Type 0} (P : A → Type 0) (m : PureModule) (e : WatFault) → Answers (Err e) (Ok m)
    → UnlessMemory P (Err (of_reading e))
only_memory P m (reading.Bad at) h = cc
only_memory P m (reading.Memory e) h = tt

pub reading_only_memory : {A : Type 0} (P : A → Type 0) (m : PureModule) (e : WatFault) (r : Result A FileFault)
    → IsErrAnd r (λ f. f ≡ of_reading e) → Answers (Err e) (Ok m) → UnlessMemory P r
reading_only_memory P m e (Ok x) f h = absurd f
reading_only_memory P m e (Err g) f h = subst (λ g. UnlessMemory P (Err g)) (sym f) (only_memory P m e h)

-- the module that was read
pub decoded_same : (m : PureModule) (x : Module) → Decodes (Ok x) (Ok m) → module_of x ≡ m
decoded_same m x h = cc

pub read_same : (m : PureModule) (x : Module) → Answers (Ok x) (Ok m) → module_of x ≡ m
read_same m x h = cc
