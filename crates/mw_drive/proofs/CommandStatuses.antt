-- Which statuses commands end with.
use Rattle.std.proofs.Common.{◌≡◌, inl, inr, List, [], ℕ, Bool, Option, Some, None, IsNone, option_map, Result}
use Rattle.std.proofs.Common.{Ok, Err, IfOk, IfErr, refl, sym, ◌∙◌, subst, arith, true, false}
use denote.Ref.{Bor}
use Rattle.mw_outside.specs.declared.errors.WriteFault.TheVariants as fault
use Rattle.mw_term.specs.declared.refusal.Refusal.{Refusal}
use Rattle.mw_words.specs.Words.{PureCommand, run, erased, link, sample, migrate, wat, check, cert, recheck}
use Rattle.mw_console.specs.Texts.{Ending, answered, trapped, bounded, ending_status}
use Rattle.mw_console.specs.declared.status.Status.{Status}
use Rattle.mw_console.specs.declared.status.Status.TheVariants.{Read, Write, Memory, Refused}
use Rattle.mw_drive.specs.declared.fault.RunFault.{RunFault}
use Rattle.mw_drive.specs.declared.fault.RunFault.TheVariants.{Unwritten, Bad}
use Rattle.mw_drive.specs.declared.inquiry.Inquiry.{Inquiry}
use Rattle.mw_drive.specs.declared.inquiry.Inquiry.TheVariants.{Text, Verdict, Certificate, Typing}
use Rattle.mw_drive.specs.Works.{writing, judging, certifying, rechecking, Meaning, IsMeaning, status_of, Reports}
use Rattle.mw_drive.specs.Works.{of_binary, of_bad_binary, of_module, of_bad_file, of_untyped, of_certificate}
use Rattle.mw_drive.specs.Works.{of_unread, of_recheck}
use Rattle.mw_drive.specs.Verdicts.{inquired}
use Rattle.mw_drive.specs.Extents.{never, extent}
use Rattle.mw_drive.specs.ProgramRuns.{IsUsual, IsEndedSource}
use Rattle.mw_drive.specs.Running.{IsStatusOf, kind_of}
use Rattle.mw_drive.specs.CommandStatuses.{IsStatusFor, evaluating, asking}

-- a command may end with the status of an ending, if it evaluates a source
ending_for : {X : Type 0} (path : Option X) (e : Ending) → IsStatusFor (evaluating path) (ending_status e)
ending_for None (answered v) = inl refl
ending_for None (trapped t name) = inr (inl refl)
ending_for None (bounded l name) = inr (inr (inl refl))
ending_for (Some x) (answered v) = inl refl
ending_for (Some x) (trapped t name) = inr (inl refl)
ending_for (Some x) (bounded l name) = inr (inr (inl refl))

sampled_for : (e : Ending) → IsStatusFor (sample 1) (ending_status e)
sampled_for (answered v) = inl refl
sampled_for (trapped t name) = inr (inl refl)
sampled_for (bounded l name) = inr (inr (inl refl))

pub refused_for : {X : Type 0} (path : Option X) (r : Refusal) → IsStatusFor (evaluating path) (Refused r)
refused_for None r = inr (inr (inr (inl refl)))
refused_for (Some x) r = inr (inr (inr (inl refl)))

pub read_for : {X : Type 0} (path : Option X) → IsStatusFor (evaluating path) Read
read_for None = inr (inr (inr (inr (inl refl))))
read_for (Some x) = inr (inr (inr (inr (inl refl))))

pub write_for : {X : Type 0} (path : Option X) → IsStatusFor (evaluating path) Write
write_for None = inr (inr (inr (inr (inr (inl refl)))))
write_for (Some x) = inr (inr (inr (inr (inr (inl refl)))))

pub memory_for : {X : Type 0} (path : Option X) (e : _) → IsStatusFor (evaluating path) (Memory e)
memory_for None e = inr (inr (inr (inr (inr (inr (inl refl))))))
memory_for (Some x) e = inr (inr (inr (inr (inr (inr (inl refl))))))

-- whatever the words of the command are
pub evaluates : {X : Type 0} (path : Option X) (f : X → List ℕ) (workers fuel : ℕ) (simplify : Bool) (file : List ℕ)
    (s : Status) → IsStatusFor (evaluating path) s
    → IsStatusFor (run workers fuel simplify (option_map f path) file) s
evaluates None f workers fuel simplify file s h = h
evaluates (Some x) f workers fuel simplify file s h = h

-- an evaluated source
pub source_for : (path : Option (Bor (List ℕ))) (s : Status) (r : Result Status RunFault) → IsStatusOf r s
    → IfOk r (IsEndedSource path) → (IsNone path → IfErr r IsUsual) → IsStatusFor (evaluating path) s
source_for path s (Ok t) is (inl refused) usual =
    subst (IsStatusFor (evaluating path)) (sym (is ∙ refused.1)) (refused_for path refused.0)
source_for path s (Ok t) is (inr (inl ending)) usual =
    subst (IsStatusFor (evaluating path)) (sym (is ∙ ending.1)) (ending_for path ending.0)
source_for None s (Ok t) is (inr (inr unkept)) usual = absurd (cc)
source_for (Some x) s (Ok t) is (inr (inr unkept)) usual =
    subst (IsStatusFor (evaluating (Some x))) (sym (is ∙ unkept.1))
    (inr (inr (inr (inr (inr (inr (inr (inl refl))))))))
source_for path s (Err (Unwritten fault.Failed)) is ended usual =
    subst (IsStatusFor (evaluating path)) (sym is) (write_for path)
source_for path s (Err (Unwritten (fault.Memory e))) is ended usual =
    subst (IsStatusFor (evaluating path)) (sym is) (memory_for path e)
source_for None s (Err (Bad d)) is ended usual = absurd (usual refl)
source_for (Some x) s (Err (Bad d)) is ended usual =
    subst (IsStatusFor (evaluating (Some x))) (sym is) (inr (inr (inr (inr (inr (inr (inr (inr (inl refl)))))))))

-- a sample, which has no cache file
abbrev no_file : Option (Bor (List ℕ))
no_file = None

pub sample_for : (s : Status) (r : Result Status RunFault) → IsStatusOf r s
    → IfOk r (IsEndedSource no_file) → IfErr r IsUsual → IsStatusFor (sample 1) s
sample_for s (Ok t) is (inl refused) usual =
    subst (IsStatusFor (sample 1)) (sym (is ∙ refused.1)) (inr (inr (inr (inl refl))))
sample_for s (Ok t) is (inr (inl ending)) usual =
    subst (IsStatusFor (sample 1)) (sym (is ∙ ending.1)) (sampled_for ending.0)
sample_for s (Ok t) is (inr (inr unkept)) usual = absurd (cc)
sample_for s (Err (Unwritten fault.Failed)) is ended usual =
    subst (IsStatusFor (sample 1)) (sym is) (inr (inr (inr (inr (inl refl)))))
sample_for s (Err (Unwritten (fault.Memory e))) is ended usual =
    subst (IsStatusFor (sample 1)) (sym is) (inr (inr (inr (inr (inr (inl refl))))))
sample_for s (Err (Bad d)) is ended usual = absurd usual

-- what was asked of a file
written_for : {bytes : List ℕ} {m : Meaning} → IsMeaning (writing bytes) m → IsStatusFor (wat []) (status_of m)
written_for (of_binary is) = inl refl
written_for (of_bad_binary is) = inr (inl refl)

judged_for : {bytes : List ℕ} {m : Meaning} → IsMeaning (judging bytes) m → IsStatusFor (check []) (status_of m)
judged_for (of_module {valid = true} wasm is judges) = inl refl
judged_for (of_module {valid = false} wasm is judges) = inr (inr (inr (inr (inr (inl refl)))))
judged_for (of_bad_file is) = inr (inl refl)

certified_for : {bytes : List ℕ} {m : Meaning} → IsMeaning (certifying bytes) m → IsStatusFor (cert []) (status_of m)
certified_for (of_untyped is) = inr (inl refl)
certified_for (of_certificate p read accepted is) = inl refl

rechecked_for : {text bytes : List ℕ} {m : Meaning} → IsMeaning (rechecking text bytes) m
    → IsStatusFor (recheck [] []) (status_of m)
rechecked_for (of_unread is) = inr (inl refl)
rechecked_for (of_recheck {typed = true} p read is) = inl refl
rechecked_for (of_recheck {typed = false} p read is) = inr (inr (inr (inr (inr (inl refl)))))

meaning_for : (inquiry : Inquiry) (bytes : List ℕ) (m : Meaning) → IsMeaning (inquired inquiry bytes) m
    → IsStatusFor (asking inquiry) (status_of m)
meaning_for Text bytes m is = written_for is
meaning_for Verdict bytes m is = judged_for is
meaning_for Certificate bytes m is = certified_for is
meaning_for (Typing text) bytes m is = rechecked_for is

pub reported_for : (inquiry : Inquiry) (bytes text : List ℕ) (s : Status) → Reports (inquired inquiry bytes) text s
    → IsStatusFor (asking inquiry) s
reported_for inquiry bytes text s r =
    subst (IsStatusFor (asking inquiry)) (sym r.is_status) (meaning_for inquiry bytes r.meaning r.is_meaning)

pub asked_read : (inquiry : Inquiry) → IsStatusFor (asking inquiry) Read
asked_read Text = inr (inr (inl refl))
asked_read Verdict = inr (inr (inl refl))
asked_read Certificate = inr (inr (inl refl))
asked_read (Typing text) = inr (inr (inl refl))

pub asked_memory : (inquiry : Inquiry) (e : _) → IsStatusFor (asking inquiry) (Memory e)
asked_memory Text e = inr (inr (inr (inr (inl refl))))
asked_memory Verdict e = inr (inr (inr (inr (inl refl))))
asked_memory Certificate e = inr (inr (inr (inr (inl refl))))
asked_memory (Typing text) e = inr (inr (inr (inr (inl refl))))

-- a status that a command may have is one that its kind has
pub never_for : (command : PureCommand) (s : Status) → IsStatusFor command s → extent (kind_of command) s ≡ never → ⊥
never_for (run w n k None file) s h is = grind arith
never_for (run w n k (Some path) file) s h is = grind arith
never_for (erased n file) s h is = grind arith
never_for (link w n file) s h is = grind arith
never_for (sample number) s h is = grind arith
never_for (migrate path) s h is = grind arith
never_for (wat file) s h is = grind arith
never_for (check file) s h is = grind arith
never_for (cert file) s h is = grind arith
never_for (recheck certificate file) s h is = grind arith
