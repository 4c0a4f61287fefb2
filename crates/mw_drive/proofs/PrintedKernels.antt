-- Kernels as they are printed.
use Rattle.std.proofs.Common.{◌≡◌, List, ℕ, [], ◌∷◌, ◌++◌, map, Bool, IsTrue, refl, ap, sym, subst, ◌∙◌, arith}
use Rattle.std.proofs.Common.{Option, None, Some, IsSome, IsNone, Result, Ok, Err, IfOk, true≢false}
use Rattle.std.proofs.lemmas.List.{append_assoc}
use Rattle.mw_cache.specs.Gots.{CacheState, text_in}
use Rattle.mw_console.specs.Texts.{Ending, ending_line, ending_status}
use Rattle.mw_term.specs.declared.refusal.Refusal.{Refusal}
use Rattle.mw_meaning.specs.declared.mode.Mode.{Mode}
use Rattle.mw_outside.specs.declared.errors.WriteFault.TheVariants as fault
use Rattle.mw_console.specs.declared.status.Status.{Status}
use Rattle.mw_console.specs.declared.status.Status.TheVariants.{Refused, Read, Write, Cache, Memory, BadCache}
use Rattle.mw_drive.specs.declared.fault.RunFault.{RunFault}
use Rattle.mw_drive.specs.declared.fault.RunFault.TheVariants.{Unwritten, Bad}
use Rattle.mw_drive.specs.declared.shown.Shown.{Shown}
use Rattle.mw_drive.specs.declared.shown.Shown.TheVariants.{Lines, Totals}
use Rattle.mw_drive.specs.declared.items.Built.{Built}
use Rattle.mw_drive.specs.declared.ran.Ran.{Ran}
use Rattle.mw_drive.specs.HeldFiles.{CoversAll, texts_built}
use Rattle.mw_drive.specs.ProgramRuns.{HasEnding}
use Rattle.mw_drive.specs.Running.{IsStatusOf}
use Rattle.mw_drive.proofs.HeldFiles.{ending_kept}
use Rattle.mw_drive.specs.PrintedKernels.{Printed, printed_text, printed_in, IsPrintedRun, KeepsPrinted, KeepsPrintedAfter}

-- the lines of kernels were written, and then that of an ending
pub printed_run : (cache : CacheState) (ran : Ran) (tells : Bool) (before mid after : List ℕ) (e : Ending)
    → ran.status ≡ ending_status e
    → (IsTrue tells → mid ≡ before ++ printed_text (printed_in cache ran.built.items))
    → (IsTrue tells → after ≡ mid ++ ending_line e) → IsPrintedRun cache ran tells before after
printed_run cache ran tells before mid after e status kernels last =
    let text = printed_text (printed_in cache ran.built.items) in
    record {
      ending = e;
      is_status = status;
      is_written = λ t.
          last t ∙ ap (λ bs. bs ++ ending_line e) (kernels t) ∙ append_assoc before text (ending_line e);
    }

-- the texts of what is printed are those of the modules
pub printed_texts : (cache : CacheState) (built : List Built)
    → map (λ (p : Printed). p.text) (printed_in cache built) ≡ texts_built cache built
printed_texts cache [] = refl
printed_texts cache (b ∷ built) = ap (λ ts. text_in cache b.got.now ∷ ts) (printed_texts cache built)

-- with a cache file it isn't totals that are shown
pub lines_shown : {X : Type 0} (shown : Shown) (path : Option X) → (shown ≡ Totals → IsNone path) → IsSome path
    → (mode : Mode) × (shown ≡ Lines mode)
lines_shown (Lines mode) path none some = (mode, refl)
lines_shown Totals None none some = absurd (true≢false (sym some))
lines_shown Totals (Some x) none some = absurd (true≢false (none refl))

-- a run that was printed keeps what it printed
pub keeps_printed : (cache : CacheState) (ran : Ran) (s : Status) (tells : Bool) (before after held kept : List ℕ)
    → IsPrintedRun cache ran tells before after → s ≡ ran.status
    → CoversAll (texts_built cache ran.built.items) held kept → KeepsPrinted s tells before after held kept
keeps_printed cache ran s tells before after held kept p same covers = record {
  printed = printed_in cache ran.built.items;
  ending = p.ending;
  is_status = same ∙ p.is_status;
  is_written = p.is_written;
  covers = subst (λ ts. CoversAll ts held kept) (sym (printed_texts cache ran.built.items)) covers;
}

write_no_ending : HasEnding Write → ⊥
write_no_ending h = not_write h.0 h.1
  where
    not_write : (e : Ending) → Write ≡ ending_status e → ⊥
    not_write e is = grind arith

bad_no_ending : (d : List ℕ) → HasEnding (BadCache d) → ⊥
bad_no_ending d h = not_bad h.0 h.1
  where
    not_bad : (e : Ending) → BadCache d ≡ ending_status e → ⊥
    not_bad e is = grind arith

-- a refusal is no ending, nor is a file that can't be read, nor want of memory
refusal_no_ending : (q : Refusal) (e : Ending) → Refused q ≡ ending_status e → ⊥
refusal_no_ending q e is = grind arith

pub read_no_ending : HasEnding Read → ⊥
read_no_ending h = not_read h.0 h.1
  where
    not_read : (e : Ending) → Read ≡ ending_status e → ⊥
    not_read e is = grind arith

pub memory_no_ending : (x : _) → HasEnding (Memory x) → ⊥
memory_no_ending x h = not_memory h.0 h.1
  where
    not_memory : (e : Ending) → Memory x ≡ ending_status e → ⊥
    not_memory e is = grind arith

pub unkept_no_ending : HasEnding Cache → ⊥
unkept_no_ending h = ending_kept h.0 (sym h.1)

pub printed_refused : (r : Result Status RunFault) (q : Refusal) (tells : Bool) (before after held kept : List ℕ)
    → IfOk r (λ s. s ≡ Refused q) → KeepsPrintedAfter r tells before after held kept
printed_refused (Ok s) q tells before after held kept is =
    λ ended. absurd (refusal_no_ending q ended.0 (sym is ∙ ended.1))
printed_refused (Err f) q tells before after held kept is = tt

pub printed_status : (r : Result Status RunFault) (s : Status) (tells : Bool) (before after held kept : List ℕ)
    → IsStatusOf r s → KeepsPrintedAfter r tells before after held kept → HasEnding s
    → KeepsPrinted s tells before after held kept
printed_status (Ok t) s tells before after held kept is h ended =
    subst (λ x. KeepsPrinted x tells before after held kept) (sym is) (h (subst HasEnding is ended))
printed_status (Err (Unwritten fault.Failed)) s tells before after held kept is h ended =
    absurd (write_no_ending (subst HasEnding is ended))
printed_status (Err (Unwritten (fault.Memory e))) s tells before after held kept is h ended =
    absurd (memory_no_ending e (subst HasEnding is ended))
printed_status (Err (Bad d)) s tells before after held kept is h ended =
    absurd (bad_no_ending d (subst HasEnding is ended))
