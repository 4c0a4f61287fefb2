-- Kernels as they are printed, whatever their modules are.
use Rattle.std.specs.Prelude.{◌≡◌, ℕ, List, [], ◌++◌, map, get_or, Bool, IsTrue, IsSome, Result, IfOk}
use Rattle.std.specs.List.{flat_map}
use Rattle.std.specs.Arc.{arc_value}
use Rattle.sha2.specs.Sha256.{sha256}
use Rattle.mw_term.specs.Terms.{KernelType, kernel_type_of}
use Rattle.mw_cache.specs.Gots.{CacheState, text_in}
use Rattle.mw_cache.specs.declared.got.Got.{Got}
use Rattle.mw_cache.specs.declared.got.Got.TheVariants.{Loaded, Stored, Own}
use Rattle.mw_console.specs.Texts.{Ending, ending_line, ending_status, kernel_text}
use Rattle.mw_drive.specs.declared.items.Built.{Built}
use Rattle.mw_drive.specs.declared.ran.Ran.{Ran}
use Rattle.mw_drive.specs.declared.fault.RunFault.{RunFault}
use Rattle.mw_drive.specs.HeldFiles.{CoversAll}
use Rattle.mw_drive.specs.ProgramRuns.{HasEnding}
use Rattle.mw_console.specs.declared.status.Status.{Status}
use Rattle.mw_words.specs.Words.{PureCommand, run}

-- a kernel's name and type, the text whose digest is shown as its key, and the bytes of its module
pub record Printed : Type 0 where
  pub name : List ℕ
  pub kind : KernelType
  pub text : List ℕ
  pub bytes : List ℕ

-- its three lines
abbrev pub printed_lines : Printed → List ℕ
printed_lines p = kernel_text p.name p.kind (sha256 p.text) p.bytes

abbrev pub printed_text : List Printed → List ℕ
printed_text kernels = flat_map printed_lines kernels

-- the bytes of a module of a cache
abbrev pub bytes_in : CacheState → Got → List ℕ
bytes_in cache (Loaded at) = get_or (map (λ l. l.bytes) cache.load.records) at []
bytes_in cache (Stored r) = r.entry.bytes
bytes_in cache (Own n) = (arc_value n.own).bytes

-- a kernel that gave code, with its module of a cache
abbrev pub printed_of : CacheState → Built → Printed
printed_of cache b = record {
  name = b.name.now;
  kind = kernel_type_of b.kind.now;
  text = text_in cache b.got.now;
  bytes = bytes_in cache b.got.now;
}

abbrev pub printed_in : CacheState → List Built → List Printed
printed_in cache built = map (printed_of cache) built

-- the lines of its kernels and that of an ending were written, where the sink tells, and its status is the ending's
pub record IsPrintedRun (cache : CacheState) (ran : Ran) (tells : Bool) (before after : List ℕ) : Type 0 where
  pub ending : Ending
  pub is_status : ran.status ≡ ending_status ending
  pub is_written : IsTrue tells
      → after ≡ before ++ (printed_text (printed_in cache ran.built.items) ++ ending_line ending)

-- The lines of kernels and that of an ending were written, where the sink tells, and the status is the ending's. The
-- file is kept, and covers the texts of these kernels.
pub record KeepsPrinted (s : Status) (tells : Bool) (before after : List ℕ) (held kept : List ℕ) : Type 0 where
  pub printed : List Printed
  pub ending : Ending
  pub is_status : s ≡ ending_status ending
  pub is_written : IsTrue tells → after ≡ before ++ (printed_text printed ++ ending_line ending)
  pub covers : CoversAll (map (λ p. p.text) printed) held kept

-- that, of a run with this result, where its status is an ending's
abbrev pub KeepsPrintedAfter : Result Status RunFault → Bool → (before after : List ℕ) → (held kept : List ℕ) → Type 0
KeepsPrintedAfter result tells before after held kept =
    IfOk result (λ s. HasEnding s → KeepsPrinted s tells before after held kept)

-- a run with a cache file
abbrev pub RunsOverCache : PureCommand → Type 0
RunsOverCache (run workers fuel simplify cache file) = IsSome cache
RunsOverCache _ = ⊥
