-- Each kernel of a program has its module, and all kernels have one module.
use Rattle.std.proofs.Common.{◌≡◌, ℕ, List, [], ◌∷◌, sym, ◌∙◌, subst}
use Rattle.std.specs.List.{AllByRecursion}
use Rattle.mw_meaning.specs.declared.mode.Mode.{Mode}
use Rattle.mw_meaning.specs.declared.mode.Mode.TheVariants.{Plain}
use Rattle.mw_meaning.specs.Simplification.{in_mode}
use Rattle.mw_meaning.proofs.SimplificationTyping.{keeps_kernel_type, stays_within_limits}
use Rattle.mw_key.specs.declared.version.Version.TheVariants.{Two}
use Rattle.mw_gen.specs.Emission.{emitted}
use Rattle.mw_encode.proofs.BestModules.{encoding_shortest}
use Rattle.mw_compile.proofs.EmittedEntries.{emission_of}
use Rattle.mw_literals.proofs.SimplifiedLiterals.{simplified_literals}
use Rattle.mw_link.specs.Linked.{Kernel, linked}
use Rattle.mw_link.proofs.Profile.{linked_is_within_profile}
use Rattle.mw_link.proofs.Spelling.{linked_is_spelled}
use Rattle.mw_link.proofs.LinkedMeaning.{linked_means_all}
use Rattle.mw_link.proofs.Valid.{linked_is_valid}
use Rattle.mw_console.specs.Texts.{Ending}
use Rattle.mw_reading.specs.NamedPrograms.{NamedProgram, unnamed}
use Rattle.mw_reading.specs.SourceReading.{IsRead}
use Rattle.mw_drive.specs.ProgramMeaning.{ProgramRun, items_run, ended, program_run}
use Rattle.mw_drive.specs.LinkedPrograms.{in_one, link_run}
use Rattle.mw_drive.specs.Works.{Work, mode_of, Meaning, IsAccepted, IsMeaning, of_program}
use Rattle.mw_drive.specs.Works.{of_erased_refusal, of_link_refusal, of_joined}
use Rattle.mw_drive.specs.Works.{of_untyped}
use Rattle.mw_drive.specs.Works.{HasModule, HaveOneModule, HaveModules}
use Rattle.mw_drive.proofs.LinkedPrograms.{linked_kernels}
use Rattle.mw_drive.proofs.ProgramEnds.{Ends}
use Rattle.mw_drive.proofs.SoundKernels.{IsSound, run_sound}

-- the module of sound code is the one that is printed
has_module : (mode : Mode) (k : Kernel) → IsSound k → HasModule mode k
has_module mode k sound =
    let d = in_mode mode k.code in
    let e =
    emission_of Two d k.kind (keeps_kernel_type mode k.code k.kind sound.typed).closed
    (simplified_literals mode k.code sound.typed.is_code sound.literals)
    (stays_within_limits mode k.code sound.limits) sound.nodes in
    record { wasm = emitted Two d k.kind; spelled = e.spelled; valid = e.valid; stands = e.stands }

have_modules : (mode : Mode) (ks : List Kernel) → AllByRecursion IsSound ks → AllByRecursion (HasModule mode) ks
have_modules mode [] sound = tt
have_modules mode (k ∷ ks) sound = (has_module mode k sound.0, have_modules mode ks sound.1)

-- the kernels of a run that ended so
kernels_have : (P : Kernel → Type 0) (r : ProgramRun) (ks : List Kernel) (e : Ending) → Ends P r → r ≡ ended ks e
    → AllByRecursion P ks
kernels_have P r ks e h is = subst (AllByRecursion P) (one_run (sym h.is ∙ is)) h.each
  where
    one_run : {k l : List Kernel} {d e : Ending} → ended k d ≡ ended l e → k ≡ l
    one_run is = cc

program_modules : (mode : Mode) (fuel : ℕ) (bytes : List ℕ) (p : NamedProgram) (ks : List Kernel) (e : Ending)
    → IsRead bytes p → IsAccepted (unnamed p) → program_run mode fuel p ≡ ended ks e
    → AllByRecursion (HasModule mode) ks
program_modules mode fuel bytes p ks e read accepted is =
    have_modules mode ks
    (kernels_have IsSound (program_run mode fuel p) ks e (run_sound mode fuel bytes p read accepted) is)

one_module : (fuel : ℕ) (bytes : List ℕ) (p : NamedProgram) (ks : List Kernel) → IsRead bytes p
    → IsAccepted (unnamed p) → link_run (items_run Plain fuel p) ≡ in_one ks → HaveOneModule ks
one_module fuel bytes p ks read accepted is =
    let h = linked_kernels fuel bytes p ks read accepted is in
    let spelled = linked_is_spelled ks h.linkable h.literals in
    record {
      spelled = (encoding_shortest (linked ks) spelled.bytes spelled.spell).0;
      valid = linked_is_valid ks h.linkable h.literals;
      within_profile = linked_is_within_profile ks h.linkable h.literals;
      typed = h.typed;
      means = linked_means_all ks h.linkable h.literals;
    }

pub meaning_modules : (work : Work) (m : Meaning) → IsMeaning work m → HaveModules m
meaning_modules work m
    (of_program {bytes = bytes} {fuel = fuel} {shown = shown} {kernels = kernels} {e = e} p read accepted is) =
    program_modules (mode_of shown) fuel bytes p kernels e read accepted is
meaning_modules work m (of_erased_refusal h) = meaning_modules _ _ h
meaning_modules work m (of_link_refusal h) = meaning_modules _ _ h
meaning_modules work m (of_joined {bytes = bytes} {fuel = fuel} {kernels = kernels} p read accepted is) =
    one_module fuel bytes p kernels read accepted is
meaning_modules work m (of_untyped h) = meaning_modules _ _ h
meaning_modules work m is = tt
