-- With which names the keeper of a cache file was started, from what was opened.
use Rattle.std.proofs.Common.{◌≡◌, ℕ, List, Option, Some, None, option_map, Bool, Result, IsErr}
use Rattle.std.proofs.Common.{IfOk, refl, arith}
use denote.Ref.{Bor}
use Rattle.mw_term.specs.declared.refusal.Refusal.{Refusal}
use Rattle.mw_words.specs.Words.{word_in}
use Rattle.mw_store.specs.Loads.{LoadState}
use Rattle.mw_keeping.specs.CacheFiles.{IsOpened, IsStartedAtMost, IsStartedFor, IsNoOtherStarted}
use Rattle.mw_keeping.specs.declared.opening.CacheFile.{CacheFile}
use Rattle.mw_console.specs.declared.status.Status.{Status}
use Rattle.mw_console.specs.declared.status.Status.TheVariants.{Refused}
use Rattle.mw_drive.specs.declared.fault.RunFault.{RunFault}
use Rattle.mw_drive.specs.HeldFiles.{IsStatusAfter}
use Rattle.mw_drive.specs.OpenedFiles.{IsOpenedWith, IsOpenedAfter}
use Rattle.mw_drive.specs.Running.{IsStatusOf}

module _ (name : List ℕ) (old new : List (List ℕ)) where
  -- a refusal
  pub opened_refused : (r : Result Status RunFault) (q : Refusal) → IfOk r (λ s. s ≡ Refused q)
      → IsStartedAtMost name old new → IsOpenedAfter r name old new
  opened_refused r q is h = grind arith

  -- the status of a run
  pub opened_status : (s : Status) (r : Result Status RunFault) → IsStatusOf r s → IsOpenedAfter r name old new
      → IsOpenedWith s name old new
  opened_status s r is h = grind arith

module _ (path : Bor (List ℕ)) (old new : List (List ℕ)) where
  -- a run that ends with a fault, whatever ended the opening of the file
  pub opened_failed : (named : Option (Bor (List ℕ))) (r : Result Status RunFault) → IsErr r → named ≡ Some path
      → IsNoOtherStarted named old new → IsOpenedAfter r path.now old new
  opened_failed named r failed is h = grind arith

  -- the status after the keeping, by what is known of the file
  pub opened_by_file : (tells : Bool) (held : List ℕ) (load : LoadState) (named : Option (Bor (List ℕ)))
      → named ≡ Some path → (file : CacheFile) (own s : Status) → IsOpened tells held named file load
      → IsStatusAfter file own s → IsStartedFor named file old new → IsOpenedWith s path.now old new
  opened_by_file tells held load named is file own s opened after h = grind arith

-- the word that names the file
pub named_path : (named : Option (Bor (List ℕ))) (path : List ℕ) → option_map word_in named ≡ Some path
    → (x : Bor (List ℕ)) × (named ≡ Some x) × (x.now ≡ path)
named_path None path is = absurd (cc)
named_path (Some x) path is =
    let same : x.now ≡ path = cc in (x, refl, same)
