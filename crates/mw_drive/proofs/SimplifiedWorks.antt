-- The run of a source with simplified kernels ends as the run with kernels as they were built does.
use Rattle.std.proofs.Common.{◌≡◌, ℕ, List, refl, arith}
use Rattle.mw_meaning.specs.declared.mode.Mode.TheVariants.{Plain, Simple}
use Rattle.mw_console.specs.Texts.{Ending}
use Rattle.mw_drive.specs.declared.shown.Shown.TheVariants.{Lines}
use Rattle.mw_link.specs.Linked.{Kernel}
use Rattle.mw_drive.specs.Works.{running, Meaning, ran, IsMeaning, of_refusal, of_types, of_program}
use Rattle.mw_drive.specs.SimplifiedPrograms.{IsUnbounded}
use Rattle.mw_drive.proofs.SimplifiedPrograms.{programs_end_alike}

of_run : {bytes : List ℕ} {fuel : ℕ} {m : Meaning} (kernels : List Kernel) (e : Ending) → IsMeaning
    (running bytes fuel (Lines Plain)) m → m ≡ ran (Lines Plain) kernels e → IsUnbounded e
    → IsMeaning (running bytes fuel (Lines Simple)) (ran (Lines Simple) kernels e)
of_run kernels e (of_refusal r) q h = absurd (cc)
of_run kernels e (of_types p read fault) q h = absurd (cc)
of_run {fuel = fuel} kernels e (of_program {kernels = ks} {e = d} p read accepted is) q h =
    let same : ks ≡ kernels = cc in
    let ending : d ≡ e = cc in
    of_program p read accepted
    (programs_end_alike p fuel fuel kernels e accepted.typable (omega arith) (rw (same, ending) at is) h)

pub simplified_run : (bytes : List ℕ) (fuel : ℕ) (kernels : List Kernel) (e : Ending) → IsMeaning
    (running bytes fuel (Lines Plain)) (ran (Lines Plain) kernels e) → IsUnbounded e
    → IsMeaning (running bytes fuel (Lines Simple)) (ran (Lines Simple) kernels e)
simplified_run bytes fuel kernels e is h = of_run kernels e is refl h
