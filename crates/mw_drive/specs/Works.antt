-- A command, with the bytes of the file that it reads, is a work. A work has meanings, and a meaning has a text and a
-- status.
use Rattle.std.specs.Prelude.{ℕ, ◌≡◌, ◌≤◌, ◌+◌, List, [], ◌∷◌, ◌++◌, length, Some, Bool, true, false, codes}
use Rattle.std.specs.List.{AllByRecursion, flat_map}
use Rattle.mw_term.specs.declared.refusal.Refusal.{Refusal}
use Rattle.sha2.specs.Sha256.{sha256}
use Rattle.mw_term.specs.Terms.{Expression, KernelType}
use Rattle.mw_term.specs.Programs.{PureProgram}
use Rattle.mw_term.specs.Typable.{Typable, HasKernelType}
use Rattle.mw_meaning.specs.declared.mode.Mode.{Mode}
use Rattle.mw_meaning.specs.declared.mode.Mode.TheVariants.{Plain}
use Rattle.mw_meaning.specs.Simplification.{in_mode}
use Rattle.mw_meaning.specs.StandingFor.{StandsFor}
use Rattle.mw_wasm.specs.Syntax.{PureModule}
use Rattle.mw_wasm.specs.BinaryModules.{Spells}
use Rattle.mw_wasm.specs.Validity.{IsValid}
use Rattle.mw_wasm.specs.Profile.{IsWithinProfile}
use Rattle.mw_infer.specs.Checking.{IsFirstRefusal, NoneTooBig}
use Rattle.mw_recheck.specs.Certificates.{Certifies}
use Rattle.mw_written.specs.Written.{IsCertificateOf}
use Rattle.mw_key.specs.declared.version.Version.TheVariants.{Two}
use Rattle.mw_key.specs.CanonicalText.{canonical_text}
use Rattle.mw_compile.specs.Emission.{emission}
use Rattle.mw_console.specs.declared.status.Status.{Status}
use Rattle.mw_console.specs.declared.status.Status.TheVariants.{Answer, Refused, BadModule, Invalid, NotTyped}
use Rattle.mw_console.specs.Texts.{Ending, kernel_text, digits_line, totals_text, migrated_text, refusal_line}
use Rattle.mw_console.specs.Texts.{ending_line, ending_status, typing_line}
use Rattle.mw_sample.specs.Sample.{sample_text}
use Rattle.mw_store.specs.Records.{Kept}
use Rattle.mw_keeping.specs.Migrations.{IsMigration}
use Rattle.mw_wat.specs.CanonicalTexts.{canonical_text as canonical_module}
use Rattle.mw_judge.specs.declared.fault.BadFile.{BadFile}
use Rattle.mw_judge.specs.ModuleFiles.{IsBinary, IsFileOf, IsBadBinary, IsBadFile, Judges}
use Rattle.mw_judge.specs.FileLines.{verdict_line, bad_file_line}
use Rattle.mw_reading.specs.NamedPrograms.{NamedProgram, unnamed, names_of}
use Rattle.mw_reading.specs.SourceReading.{IsRead, IsRefused}
use Rattle.mw_drive.specs.declared.shown.Shown.{Shown}
use Rattle.mw_drive.specs.declared.shown.Shown.TheVariants.{Lines, Totals}
use Rattle.mw_encode.specs.Encoding.{encoding}
use Rattle.mw_link.specs.Linked.{Kernel, linked}
use Rattle.mw_link.specs.LinkLaw.{MeansAll}
use Rattle.mw_drive.specs.ProgramMeaning.{items_run, ended, program_run, erased_ending}
use Rattle.mw_drive.specs.LinkedPrograms.{link_run, in_one, cut_short}

-- how code is run whose kernels are shown so: by their lines, of a mode, or by totals
abbrev pub mode_of : Shown → Mode
mode_of (Lines mode) = mode
mode_of Totals = Plain

-- the run of a source's bytes, with so many units of fuel for each evaluation, whose kernels are shown so; the
-- evaluation of its erased program's main; the linking of its kernels; the migration of a cache file that holds these
-- bytes; the text of the module that bytes spell; the verdict on the module that they spell, or are a text of; the
-- certificate of a source's typing; or whether a text certifies it
pub data Work : Type 0 where
  running : (bytes : List ℕ) (fuel : ℕ) (shown : Shown) → Work
  erasing : (bytes : List ℕ) (fuel : ℕ) → Work
  linking : (bytes : List ℕ) (fuel : ℕ) → Work
  migrating : (held : List ℕ) → Work
  writing : (bytes : List ℕ) → Work
  judging : (bytes : List ℕ) → Work
  certifying : (bytes : List ℕ) → Work
  rechecking : (text bytes : List ℕ) → Work

-- a sample is the run of the source that is made from a number, which shows totals
abbrev pub sampling : ℕ → Work
sampling number = running (sample_text number) 1000000 Totals

-- a refusal, with the names of the items where it speaks of one; the kernels that gave code, shown so, and an ending;
-- the ending of an erased program; kernels in one module, or the ending before that; how many texts of a cache file are
-- of the old version, and how many records are added for them; a module; whether a module is valid; why a file is no
-- module; a certificate; or whether a text is one
pub data Meaning : Type 0 where
  refused : (r : Refusal) (names : List (List ℕ)) → Meaning
  ran : (shown : Shown) (kernels : List Kernel) (e : Ending) → Meaning
  erased : (e : Ending) → Meaning
  joined : (kernels : List Kernel) → Meaning
  unjoined : (e : Ending) → Meaning
  migrated : (old added : ℕ) → Meaning
  written : (wasm : PureModule) → Meaning
  judged : (valid : Bool) → Meaning
  faulty : (fault : BadFile) → Meaning
  certified : (text : List ℕ) → Meaning
  rechecked : (typed : Bool) → Meaning

-- a program has types, and no front of an item's equations is too big
pub record IsAccepted (p : PureProgram) : Type 0 where
  pub typable : Typable p
  pub small : NoneTooBig p

-- a text certifies a program's typing, and isn't longer than a certificate may be
pub record CertifiesWithin (text : List ℕ) (p : PureProgram) : Type 0 where
  pub within : length text ≤ 67_108_864
  pub certifies : Certifies text p

-- whether it does
abbrev pub Rechecks : Bool → List ℕ → PureProgram → Type 0
Rechecks true text p = CertifiesWithin text p
Rechecks false text p = CertifiesWithin text p → ⊥

-- The run of a source means the first refusal of its reading; else the first refusal of its types; else the run of its
-- program. What is refused is refused with its erased program too, which else means how its main ends, and where its
-- kernels are to be linked, which else means them in one module, or the ending before that: main isn't evaluated. A
-- file that is no module means its first fault. The certificate of a source that isn't refused is the written one of
-- its program; whether a text is a certificate is asked of a source that is read, whether or not its types are refused.
pub data IsMeaning : Work → Meaning → Type 0 where
  of_refusal : {bytes : List ℕ} {fuel : ℕ} {shown : Shown} {r : Refusal} → IsRefused bytes r → IsMeaning
      (running bytes fuel shown) (refused r [])
  of_types : {bytes : List ℕ} {fuel : ℕ} {shown : Shown} {r : Refusal} (p : NamedProgram) → IsRead bytes p
      → IsFirstRefusal (unnamed p) r
      → IsMeaning (running bytes fuel shown) (refused r (names_of p))
  of_program : {bytes : List ℕ} {fuel : ℕ} {shown : Shown} {kernels : List Kernel} {e : Ending} (p : NamedProgram)
      → IsRead bytes p
      → IsAccepted (unnamed p) → program_run (mode_of shown) fuel p ≡ ended kernels e → IsMeaning
      (running bytes fuel shown) (ran shown kernels e)
  of_erased_refusal : {bytes : List ℕ} {fuel : ℕ} {r : Refusal} {names : List (List ℕ)} → IsMeaning
      (running bytes fuel (Lines Plain)) (refused r names)
      → IsMeaning (erasing bytes fuel) (refused r names)
  of_erased : {bytes : List ℕ} {fuel : ℕ} {e : Ending} (p : NamedProgram) → IsRead bytes p → IsAccepted (unnamed p)
      → erased_ending fuel (unnamed p) ≡ Some e → IsMeaning (erasing bytes fuel) (erased e)
  of_link_refusal : {bytes : List ℕ} {fuel : ℕ} {r : Refusal} {names : List (List ℕ)} → IsMeaning
      (running bytes fuel (Lines Plain)) (refused r names)
      → IsMeaning (linking bytes fuel) (refused r names)
  of_joined : {bytes : List ℕ} {fuel : ℕ} {kernels : List Kernel} (p : NamedProgram) → IsRead bytes p
      → IsAccepted (unnamed p) → link_run (items_run Plain fuel p) ≡ in_one kernels
      → IsMeaning (linking bytes fuel) (joined kernels)
  of_unjoined : {bytes : List ℕ} {fuel : ℕ} {e : Ending} (p : NamedProgram) → IsRead bytes p
      → IsAccepted (unnamed p) → link_run (items_run Plain fuel p) ≡ cut_short e
      → IsMeaning (linking bytes fuel) (unjoined e)
  of_migration : {held : List ℕ} {old : ℕ} {added : List Kept} → IsMigration held old added
      → IsMeaning (migrating held) (migrated old (length added))
  of_binary : {bytes : List ℕ} {wasm : PureModule} → IsBinary bytes wasm → IsMeaning (writing bytes) (written wasm)
  of_bad_binary : {bytes : List ℕ} {fault : BadFile} → IsBadBinary bytes fault
      → IsMeaning (writing bytes) (faulty fault)
  of_module : {bytes : List ℕ} {valid : Bool} (wasm : PureModule) → IsFileOf bytes wasm → Judges valid wasm
      → IsMeaning (judging bytes) (judged valid)
  of_bad_file : {bytes : List ℕ} {fault : BadFile} → IsBadFile bytes fault → IsMeaning (judging bytes) (faulty fault)
  of_untyped : {bytes : List ℕ} {fuel : ℕ} {r : Refusal} {names : List (List ℕ)} → IsMeaning
      (running bytes fuel (Lines Plain)) (refused r names)
      → IsMeaning (certifying bytes) (refused r names)
  of_certificate : {bytes text : List ℕ} (p : NamedProgram) → IsRead bytes p → IsAccepted (unnamed p)
      → IsCertificateOf (unnamed p) text → IsMeaning (certifying bytes) (certified text)
  of_unread : {text bytes : List ℕ} {r : Refusal} → IsRefused bytes r
      → IsMeaning (rechecking text bytes) (refused r [])
  of_recheck : {text bytes : List ℕ} {typed : Bool} (p : NamedProgram) → IsRead bytes p
      → Rechecks typed text (unnamed p) → IsMeaning (rechecking text bytes) (rechecked typed)

-- the text of what is run of a kernel's code under the mode
abbrev pub run_text : Mode → Kernel → List ℕ
run_text mode k = canonical_text Two (in_mode mode k.code) k.kind

-- the key of code at a type: the digest of their text
abbrev pub key_of : Expression → KernelType → List ℕ
key_of c k = sha256 (canonical_text Two c k)

-- the lines of a kernel: what is printed is the key and the module of the code that is run under the mode
abbrev pub kernel_lines : Mode → Kernel → List ℕ
kernel_lines mode k = kernel_text k.name k.kind (key_of (in_mode mode k.code) k.kind)
    (emission Two (in_mode mode k.code) k.kind)

-- the bytes of the modules together
abbrev pub module_bytes : List Kernel → ℕ
module_bytes [] = 0
module_bytes (k ∷ kernels) = length (emission Two k.code k.kind) + module_bytes kernels

-- what is written of the kernels that gave code, in order: their lines, or their totals
abbrev pub shown_text : Shown → List Kernel → List ℕ
shown_text (Lines mode) kernels = flat_map (kernel_lines mode) kernels
shown_text Totals kernels = totals_text (length kernels) (module_bytes kernels)

-- a refusal's line; what is shown of kernels and the line of the ending; the bytes of one module, on a line; two
-- numbers, each on a line; a module's text; the line of a verdict or of a fault; or a certificate
abbrev pub text_of : Meaning → List ℕ
text_of (refused r names) = refusal_line names r
text_of (ran shown kernels e) = shown_text shown kernels ++ ending_line e
text_of (erased e) = ending_line e
text_of (joined kernels) = digits_line (codes "module ") (encoding (linked kernels))
text_of (unjoined e) = ending_line e
text_of (migrated old added) = migrated_text old added
text_of (written wasm) = canonical_module wasm
text_of (judged valid) = verdict_line valid
text_of (faulty fault) = bad_file_line fault
text_of (certified text) = text
text_of (rechecked typed) = typing_line typed

abbrev pub status_of : Meaning → Status
status_of (refused r names) = Refused r
status_of (ran shown kernels e) = ending_status e
status_of (erased e) = ending_status e
status_of (joined kernels) = Answer
status_of (unjoined e) = ending_status e
status_of (migrated old added) = Answer
status_of (written wasm) = Answer
status_of (judged true) = Answer
status_of (judged false) = Invalid
status_of (faulty fault) = BadModule
status_of (certified text) = Answer
status_of (rechecked true) = Answer
status_of (rechecked false) = NotTyped

-- the text that belongs to a work
pub record IsOutput (work : Work) (text : List ℕ) : Type 0 where
  pub meaning : Meaning
  pub is_meaning : IsMeaning work meaning
  pub is_text : text ≡ text_of meaning

-- a text and a status are what a work means
pub record Reports (work : Work) (text : List ℕ) (s : Status) : Type 0 where
  pub meaning : Meaning
  pub is_meaning : IsMeaning work meaning
  pub is_text : text ≡ text_of meaning
  pub is_status : s ≡ status_of meaning

-- The bytes that are printed for a kernel spell a module, which is valid, and stands for the code that is run, at its
-- type.
pub record HasModule (mode : Mode) (k : Kernel) : Type 0 where
  pub wasm : PureModule
  pub spelled : Spells (emission Two (in_mode mode k.code) k.kind) wasm
  pub valid : IsValid wasm
  pub stands : StandsFor wasm (in_mode mode k.code) k.kind

-- The bytes of the one module of kernels spell it; it is valid, within the profile, and means each of the kernels, all
-- of which have their types.
pub record HaveOneModule (kernels : List Kernel) : Type 0 where
  pub spelled : Spells (encoding (linked kernels)) (linked kernels)
  pub valid : IsValid (linked kernels)
  pub within_profile : IsWithinProfile (linked kernels)
  pub typed : AllByRecursion (λ (k : Kernel). HasKernelType k.code k.kind) kernels
  pub means : MeansAll (linked kernels) kernels

abbrev pub HaveModules : Meaning → Type 0
HaveModules (ran shown kernels e) = AllByRecursion (HasModule (mode_of shown)) kernels
HaveModules (joined kernels) = HaveOneModule kernels
HaveModules m = Unit {0}
