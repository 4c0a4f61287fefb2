-- From what a command's run gives to the clauses of the top call.
use Rattle.std.proofs.Common.{◌≡◌, ◌≤◌, ◌⊎◌, inl, inr, ℕ, List, [], ◌∷◌, ◌++◌, map, Bool, true, IsTrue, Option, Some}
use Rattle.std.proofs.Common.{None}
use Rattle.std.proofs.Common.{IsSome, IsNone, option_map, take, drop, refl, sym, ap, subst, ◌∙◌, arith}
use Rattle.std.specs.Prelude.{codes}
use Rattle.mw_term.specs.Terms.{PureGroundValue}
use Rattle.mw_console.specs.Texts.{Ending, answered, trapped, bounded, ending_status}
use Rattle.mw_meaning.specs.declared.mode.Mode.{Mode}
use Rattle.mw_meaning.specs.declared.mode.Mode.TheVariants.{Plain, Simple}
use Rattle.mw_words.specs.Words.{PureCommand, PurePart, run, erased, link, sample, migrate, wat, check, cert, recheck}
use Rattle.mw_words.specs.Words.{IsNumberOf, not_named, named_once, Makes, run_of, link_of}
use Rattle.mw_words.specs.Words.{Means, parts_command, sample_command}
use Rattle.mw_words.proofs.LawLemmas.{one_command}
use Rattle.mw_console.specs.declared.status.Status.{Status}
use Rattle.mw_console.specs.declared.status.Status.TheVariants.{Answer, Read, Write, Cache}
use Rattle.mw_console.specs.declared.status.Status.TheVariants.{Memory}
use Rattle.mw_drive.specs.Works.{linking, writing, judging, migrating, certifying, rechecking}
use Rattle.mw_drive.specs.Works.{Work, running, erasing, sampling, Meaning, ran, mode_of, run_text, IsMeaning}
use Rattle.mw_drive.specs.Works.{of_refusal, of_types, of_program, status_of}
use Rattle.mw_link.specs.Linked.{Kernel}
use Rattle.mw_drive.specs.SimplifiedPrograms.{IsUnbounded}
use Rattle.mw_drive.specs.declared.shown.Shown.{Shown}
use Rattle.mw_drive.specs.declared.shown.Shown.TheVariants.{Lines}
use Rattle.mw_drive.specs.Works as meant
use Rattle.mw_drive.proofs.ErasedAnswers.{answers_are_erased}
use Rattle.mw_drive.proofs.OneMeaning.{one_meaning}
use Rattle.mw_drive.proofs.SimplifiedWorks.{simplified_run}
use Rattle.mw_drive.specs.Honest.{IsHonestCache}
use Rattle.mw_drive.specs.Extents.{whole, never, Kind, on_a_file, extent}
use Rattle.mw_drive.specs.Running.{Outside, Sources, Wanted, source_file, module_file, certificate_file}
use Rattle.mw_drive.specs.Running.{most_of_module, most_of_certificate, files_of, path_of}
use Rattle.mw_drive.specs.Running.{kind_with, Has, Lacks, HasAll, has_none, has_more, LacksFirst, lacks_first}
use Rattle.mw_drive.specs.Running.{LacksSome, lacks_this, lacks_later, IsLast, alone, behind, IsUnread}
use Rattle.mw_drive.specs.Running.{IsWork, run_works, erased_works, link_works, sample_works, migrate_works}
use Rattle.mw_drive.specs.Running.{wat_works, check_works, cert_works, recheck_works}
use Rattle.mw_drive.specs.Running.{AsksOn, Asks, AsksOver, AsksMissing, AsksLacking, AsksNoFile, AsksNoCache}
use Rattle.mw_drive.specs.Running.{HasHonestCache}
use Rattle.mw_drive.specs.Running.{kind_of}
use Rattle.mw_drive.specs.Running.{IsFaithful, IsMemory, IsCarriedOut, mode_when}
use Rattle.mw_drive.specs.Verdicts.{IsVerdictOn}
use Rattle.mw_drive.specs.Certified.{IsCertified, IsTypingVerdict}
use Rattle.mw_drive.proofs.Verdicts.{verdict_on}
use Rattle.mw_drive.proofs.Certificates.{certificate_said, fits_front, fits_whole, typing_on}
use Rattle.mw_drive.proofs.RunLemmas.{all_or_some, whole_else}

-- want of memory before anything was written
pub carried_memory : (kind : Kind) (work : Work) (e : _) (tells : Bool) (before : List ℕ)
    → IsCarriedOut kind work (Memory e) tells before before
carried_memory kind work e tells before =
    record { faithful = λ t. inl refl; meaning = λ c. absurd (cc); said = λ c. absurd (cc) }

-- a file that wasn't read
pub carried_read : (work : Work) (tells : Bool) (before : List ℕ) → IsCarriedOut on_a_file work Read tells before before
carried_read work tells before =
    record { faithful = λ t. refl; meaning = λ c. absurd (cc); said = λ c. absurd (cc) }

-- parts make no sample
makes_no_sample : {word : List ℕ} {parts : List PurePart} {n : ℕ} → Makes word parts (sample n) → ⊥
makes_no_sample m = elim m [ ]

-- the number of a sample's words is in its range
number_of : {words : List (List ℕ)} {n : ℕ} → Means words (sample n) → (1 ≤ n) × (n ≤ 100)
number_of (sample_command h) = (h.low, h.high)
number_of (parts_command are m) = absurd (makes_no_sample m)

pub sample_range : {words : List (List ℕ)} (command : PureCommand) (n : ℕ) → Means words command → command ≡ sample n
    → (1 ≤ n) × (n ≤ 100)
sample_range {words} command n means e = number_of (subst (Means words) e means)

-- a run's words give it workers
some_workers : {parts : List PurePart} {n : ℕ} → IsNumberOf (codes "--workers") 64 4 parts n → 1 ≤ n
some_workers (not_named none) = omega arith
some_workers (named_once named is) = is.low

workers_of_run : {words : List (List ℕ)} {workers fuel : ℕ} {simplify : Bool} {cache : Option (List ℕ)}
    {file : List ℕ} → Means words (run workers fuel simplify cache file) → 1 ≤ workers
workers_of_run (parts_command words (run_of only are units switch path is)) = some_workers are

pub run_workers : {words : List (List ℕ)} (command : PureCommand) (workers fuel : ℕ) (simplify : Bool)
    (cache : Option (List ℕ)) (file : List ℕ) → Means words command
    → command ≡ run workers fuel simplify cache file → 1 ≤ workers
run_workers {words} command workers fuel simplify cache file means e = workers_of_run (subst (Means words) e means)

workers_of_link : {words : List (List ℕ)} {workers fuel : ℕ} {file : List ℕ} → Means words (link workers fuel file)
    → 1 ≤ workers
workers_of_link (parts_command words (link_of only are units is)) = some_workers are

pub link_workers : {words : List (List ℕ)} (command : PureCommand) (workers fuel : ℕ) (file : List ℕ)
    → Means words command → command ≡ link workers fuel file → 1 ≤ workers
link_workers {words} command workers fuel file means e = workers_of_link (subst (Means words) e means)

-- a run with an answer's status answered
answer_of : {bytes : List ℕ} {fuel : ℕ} {shown : Shown} {n : Meaning} → IsMeaning (running bytes fuel shown) n
    → Answer ≡ status_of n
    → (kernels : List Kernel) × (v : PureGroundValue) × IsMeaning (running bytes fuel shown)
    (ran shown kernels (answered v))
answer_of (of_refusal r) e = absurd (cc)
answer_of (of_types p read fault) e = absurd (cc)
answer_of (of_program {kernels = kernels} {e = answered v} p read accepted is) e =
    (kernels, v, of_program p read accepted is)
answer_of (of_program {e = trapped t name} p read accepted is) e = absurd (cc)
answer_of (of_program {e = bounded l name} p read accepted is) e = absurd (cc)

-- where the status is an answer, and the erased program answers too, the answer is the erased program's
erased_answer : (kind : Kind) (shown : Shown) (s : Status) (sink_tells : Bool) (before after : List ℕ) (fuel m : ℕ)
    (bytes : List ℕ) (w : PureGroundValue)
    → IsCarriedOut kind (running bytes fuel shown) s sink_tells before after
    → IsMeaning (erasing bytes m) (meant.erased (answered w)) → s ≡ Answer
    → (kernels : List Kernel) × IsMeaning (running bytes fuel shown) (ran shown kernels (answered w))
erased_answer kind shown s sink_tells before after fuel m bytes w carried other is =
    let c = carried.meaning (subst (λ s. extent kind s ≡ whole) (sym is) refl) in
    let a = answer_of c.1 (sym is ∙ c.2) in (
      a.0,
      subst (λ v. IsMeaning (running bytes fuel shown) (ran shown a.0 (answered v)))
          (answers_are_erased bytes fuel m shown a.0 a.1 w a.2 other) a.2,
    )

-- what is known of a command that the words mean once it was carried out
pub record IsCalled (words : List (List ℕ)) (o : Outside) (command : PureCommand) (s : Status) (sink_tells : Bool)
    (before after : List ℕ) (Rose_source Rose_sink : Type 0) : Type 0 where
  pub means : Means words command
  pub carried : (contents : List (List ℕ)) (work : Work) → HasAll o.source (files_of command) contents
      → IsWork o command contents work → HasHonestCache o command
      → IsCarriedOut (kind_of command) work s sink_tells before after
  pub reads : s ≡ Read → Rose_source ⊎ LacksSome o.source (files_of command)
  pub writes : s ≡ Write → Rose_sink
  pub possible : extent (kind_of command) s ≡ never → ⊥

-- so what the words ask for was carried out
module _ {words : List (List ℕ)} {o : Outside} {command : PureCommand} {s : Status} {sink_tells : Bool}
    {before after : List ℕ} {Rose_source Rose_sink : Type 0}
    (called : IsCalled words o command s sink_tells before after Rose_source Rose_sink) where
  same : (other : PureCommand) → Means words other → other ≡ command
  same other also = one_command words other command also called.means

  pub has_on : (other : PureCommand) (contents : List (List ℕ)) → AsksOn words o other contents
      → HasAll o.source (files_of command) contents
  has_on other contents on = subst (λ c. HasAll o.source (files_of c) contents) (same other on.means) on.has

  works_on : (other : PureCommand) (contents : List (List ℕ)) (work : Work) → Means words other
      → IsWork o other contents work → IsWork o command contents work
  works_on other contents work also works = subst (λ c. IsWork o c contents work) (same other also) works

  -- the work that is asked for was carried out
  asked_carried : (work : Work) → Asks words o work → IsCarriedOut (kind_of command) work s sink_tells before after
  asked_carried work asked =
      called.carried asked.contents work (has_on asked.command asked.contents asked.on)
      (works_on asked.command asked.contents work asked.on.means asked.works)
      (subst (HasHonestCache o) (same asked.command asked.on.means) asked.honest)

  -- where nothing failed, whole
  asked_whole : (work : Work) → Asks words o work → (Rose_source → ⊥) → (Rose_sink → ⊥) → (s ≡ Cache → ⊥)
      → (IsMemory s → ⊥)
      → extent (kind_of command) s ≡ whole
  asked_whole work asked source sink kept memory =
      whole_else (kind_of command) s called.possible (asked_carried work asked).said kept memory
      (λ r. not_read (called.reads r)) (λ w. sink (called.writes w))
    where
      not_read : Rose_source ⊎ LacksSome o.source (files_of command) → ⊥
      not_read (inl rose) = source rose
      not_read (inr lacks) = all_or_some (has_on asked.command asked.contents asked.on) lacks

  pub asked_text : (work : Work) → Asks words o work → (Rose_source → ⊥) → (Rose_sink → ⊥) → (s ≡ Cache → ⊥)
      → (IsMemory s → ⊥)
      → IsTrue sink_tells
      → IsFaithful whole work s before after
  asked_text work asked source sink kept memory t =
      subst (λ x. IsFaithful x work s before after) (asked_whole work asked source sink kept memory)
      ((asked_carried work asked).faithful t)

  pub asked_status : (work : Work) → Asks words o work → (Rose_source → ⊥) → (Rose_sink → ⊥) → (s ≡ Cache → ⊥)
      → (IsMemory s → ⊥)
      → (m : Meaning) × IsMeaning work m × (s ≡ status_of m)
  asked_status work asked source sink kept memory =
      (asked_carried work asked).meaning (asked_whole work asked source sink kept memory)

  pub asked_complete : (work : Work) (asked : Asks words o work) → extent (kind_of asked.command) s ≡ whole
      → (m : Meaning) × IsMeaning work m × (s ≡ status_of m)
  asked_complete work asked is =
      (asked_carried work asked).meaning
      (subst (λ c. extent (kind_of c) s ≡ whole) (same asked.command asked.on.means) is)

  pub asked_faults : (work : Work) (asked : Asks words o work) → IsTrue sink_tells
      → IsFaithful (extent (kind_of asked.command) s) work s before after
  asked_faults work asked t =
      subst (λ c. IsFaithful (extent (kind_of c) s) work s before after) (sym (same asked.command asked.on.means))
      ((asked_carried work asked).faithful t)

  -- what holds of the command that the words mean
  pub asked_of : (P : PureCommand → Type 0) → P command → (other : PureCommand) → Means words other → P other
  asked_of P h other also = subst P (sym (same other also)) h

  pub asked_missing : AsksMissing words o → LacksFirst o.source (files_of command)
  asked_missing asked = subst (λ c. LacksFirst o.source (files_of c)) (same asked.command asked.means) asked.lacks

  pub asked_no_file : AsksNoFile words → files_of command ≡ []
  asked_no_file asked = ap files_of (sym (same asked.command asked.means)) ∙ asked.none

  pub asked_no_cache : AsksNoCache words → IsNone (path_of command)
  asked_no_cache asked = subst (λ c. IsNone (path_of c)) (same asked.command asked.means) asked.none

  pub asked_lacking : AsksLacking words o → LacksSome o.source (files_of command)
  asked_lacking asked = subst (λ c. LacksSome o.source (files_of c)) (same asked.command asked.means) asked.lacks

  pub asked_read : s ≡ Read → Rose_source ⊎ AsksLacking words o
  asked_read is = by_case (called.reads is)
    where
      by_case : Rose_source ⊎ LacksSome o.source (files_of command) → Rose_source ⊎ AsksLacking words o
      by_case (inl rose) = inl rose
      by_case (inr lacks) = inr (record { command = command; means = called.means; lacks = lacks })

  pub asked_last : (other : PureCommand) (contents : List (List ℕ)) (file : Wanted) (bytes : List ℕ)
      → AsksOn words o other contents → IsLast file bytes (files_of other) contents
      → IsLast file bytes (files_of command) contents
  asked_last other contents file bytes on last =
      subst (λ c. IsLast file bytes (files_of c) contents) (same other on.means) last

  -- what is kept of a work that is asked for
  pub asked_kept : (P : List (List ℕ) → Status → Type 0)
      → ((contents : List (List ℕ)) (work : Work) → HasAll o.source (files_of command) contents
      → IsWork o command contents work → HasHonestCache o command → IsSome (path_of command)
      → (shown : Shown) (kernels : List Kernel) (e : Ending) → IsMeaning work (ran shown kernels e)
      → P (map (run_text (mode_of shown)) kernels) s)
      → (work : Work) (asked : Asks words o work) → IsSome (path_of asked.command)
      → (shown : Shown) (kernels : List Kernel) (e : Ending) → IsMeaning work (ran shown kernels e)
      → P (map (run_text (mode_of shown)) kernels) s
  asked_kept P kept work asked some =
      kept asked.contents work (has_on asked.command asked.contents asked.on)
      (works_on asked.command asked.contents work asked.on.means asked.works)
      (subst (HasHonestCache o) (same asked.command asked.on.means) asked.honest)
      (subst (λ c. IsSome (path_of c)) (same asked.command asked.on.means) some)

  -- a bad record is one of a work that is asked for
  pub asked_bad : (P : Work → Type 0)
      → ((contents : List (List ℕ)) (work : Work) → HasAll o.source (files_of command) contents
      → IsWork o command contents work → P work)
      → (work : Work) → AsksOver words o work → P work
  asked_bad P bad work asked =
      bad asked.contents work (has_on asked.command asked.contents asked.on)
      (works_on asked.command asked.contents work asked.on.means asked.works)

  -- what a verdict says of a module that is asked for
  pub asked_verdict : (f bytes : List ℕ) → AsksOn words o (check f) (bytes ∷ [])
      → IsVerdictOn s (take most_of_module bytes)
  asked_verdict f bytes on =
      let is = same (check f) on.means in
      verdict_on (take most_of_module bytes) s
      (subst (λ c. IsCarriedOut (kind_of c) (judging (take most_of_module bytes)) s sink_tells before after) (sym is)
      (called.carried (bytes ∷ []) (judging (take most_of_module bytes)) (has_on (check f) (bytes ∷ []) on)
      (subst (λ c. IsWork o c (bytes ∷ []) (judging (take most_of_module bytes))) is check_works)
      (subst (HasHonestCache o) is tt))).meaning

  -- what is said of a source's typing that is asked for
  pub asked_certificate : (f bytes : List ℕ) → AsksOn words o (cert f) (bytes ∷ []) → s ≡ Answer
      → (text : List ℕ) × IsCertified bytes text × (IsTrue sink_tells → after ≡ before ++ text)
  asked_certificate f bytes on =
      let is = same (cert f) on.means in
      certificate_said bytes
      (subst (λ c. IsCarriedOut (kind_of c) (certifying bytes) s sink_tells before after) (sym is)
      (called.carried (bytes ∷ []) (certifying bytes) (has_on (cert f) (bytes ∷ []) on)
      (subst (λ c. IsWork o c (bytes ∷ []) (certifying bytes)) is cert_works) (subst (HasHonestCache o) is tt)))

  pub asked_typing : (certificate f bytes text : List ℕ)
      → AsksOn words o (recheck certificate f) (bytes ∷ text ∷ []) → IsTypingVerdict s text bytes
  asked_typing certificate f bytes text on =
      let is = same (recheck certificate f) on.means in
      let work = rechecking (take most_of_certificate text) bytes in
      typing_on (take most_of_certificate text) text bytes (fits_front text) (fits_whole text) s
      (subst (λ c. IsCarriedOut (kind_of c) work s sink_tells before after) (sym is)
      (called.carried (bytes ∷ text ∷ []) work (has_on (recheck certificate f) (bytes ∷ text ∷ []) on)
      (subst (λ c. IsWork o c (bytes ∷ text ∷ []) work) is recheck_works)
      (subst (HasHonestCache o) is tt))).meaning

  -- a run that is asked for was carried out
  asked_run : (workers fuel : ℕ) (simplify : Bool) (cache : Option (List ℕ)) (f bytes : List ℕ)
      → AsksOn words o (run workers fuel simplify cache f) (bytes ∷ []) → IsHonestCache o.keeps o.held cache
      → IsCarriedOut (kind_with cache) (running bytes fuel (Lines (mode_when simplify))) s sink_tells before after
  asked_run workers fuel simplify cache f bytes on honest =
      let is = same (run workers fuel simplify cache f) on.means in
      subst (λ c. IsCarriedOut (kind_of c) (running bytes fuel (Lines (mode_when simplify))) s sink_tells before
      after) (sym is)
      (called.carried (bytes ∷ []) (running bytes fuel (Lines (mode_when simplify)))
      (has_on (run workers fuel simplify cache f) (bytes ∷ []) on)
      (subst (λ c. IsWork o c (bytes ∷ []) (running bytes fuel (Lines (mode_when simplify)))) is run_works)
      (subst (HasHonestCache o) is honest))

  pub asked_erased : (workers fuel m : ℕ) (simplify : Bool) (cache : Option (List ℕ)) (f bytes : List ℕ)
      (w : PureGroundValue)
      → AsksOn words o (run workers fuel simplify cache f) (bytes ∷ []) → IsHonestCache o.keeps o.held cache
      → IsMeaning (erasing bytes m) (meant.erased (answered w)) → s ≡ Answer
      → (kernels : List Kernel) × IsMeaning (running bytes fuel (Lines (mode_when simplify)))
      (ran (Lines (mode_when simplify)) kernels (answered w))
  asked_erased workers fuel m simplify cache f bytes w on honest other is =
      erased_answer (kind_with cache) (Lines (mode_when simplify)) s sink_tells before after fuel m bytes w
      (asked_run workers fuel simplify cache f bytes on honest) other is

  pub asked_simplified : (workers fuel : ℕ) (cache : Option (List ℕ)) (f bytes : List ℕ) (kernels : List Kernel)
      (e : Ending)
      → AsksOn words o (run workers fuel true cache f) (bytes ∷ []) → IsHonestCache o.keeps o.held cache
      → IsMeaning (running bytes fuel (Lines Plain)) (ran (Lines Plain) kernels e) → IsUnbounded e
      → IsMeaning (running bytes fuel (Lines Simple))
      (ran (Lines Simple) kernels e) × (extent (kind_with cache) s ≡ whole → s ≡ ending_status e)
  asked_simplified workers fuel cache f bytes kernels e on honest is unbounded =
      let other = simplified_run bytes fuel kernels e is unbounded in (
        other,
        λ c.
            let m = (asked_run workers fuel true cache f bytes on honest).meaning c in
            m.2 ∙ ap status_of (one_meaning (running bytes fuel (Lines Simple)) m.0 (ran (Lines Simple) kernels e) m.1
            other),
      )

-- A command's work is that on what its file holds.
pub run_on : {o : Outside} {workers fuel : ℕ} {simplify : Bool} {cache : Option (List ℕ)} {file : List ℕ}
    {mode : Mode} → mode ≡ mode_when simplify → (contents : List (List ℕ)) (work : Work)
    → HasAll o.source (files_of (run workers fuel simplify cache file)) contents
    → IsWork o (run workers fuel simplify cache file) contents work
    → (bytes : List ℕ) × Has o.source (source_file file) bytes × (work ≡ running bytes fuel (Lines mode))
run_on {fuel = fuel} is contents work (has_more {bytes = bytes} has has_none) run_works =
    (bytes, has, ap (λ mode. running bytes fuel (Lines mode)) (sym is))

pub erased_on : {o : Outside} {fuel : ℕ} {file : List ℕ} (contents : List (List ℕ)) (work : Work)
    → HasAll o.source (files_of (erased fuel file)) contents
    → IsWork o (erased fuel file) contents work
    → (bytes : List ℕ) × Has o.source (source_file file) bytes × (work ≡ erasing bytes fuel)
erased_on contents work (has_more {bytes = bytes} has has_none) erased_works = (bytes, has, refl)

pub linked_on : {o : Outside} {workers fuel : ℕ} {file : List ℕ} (contents : List (List ℕ)) (work : Work)
    → HasAll o.source (files_of (link workers fuel file)) contents
    → IsWork o (link workers fuel file) contents work
    → (bytes : List ℕ) × Has o.source (source_file file) bytes × (work ≡ linking bytes fuel)
linked_on contents work (has_more {bytes = bytes} has has_none) link_works = (bytes, has, refl)

pub sample_on : {o : Outside} {number : ℕ} (contents : List (List ℕ)) (work : Work)
    → IsWork o (sample number) contents work → work ≡ sampling number
sample_on contents work sample_works = refl

pub migrate_on : {o : Outside} {cache : List ℕ} (contents : List (List ℕ)) (work : Work)
    → IsWork o (migrate cache) contents work → IsTrue o.keeps × (work ≡ migrating o.held)
migrate_on contents work (migrate_works keeps) = (keeps, refl)

-- a migration runs no program
pub no_migrated_run : {held : List ℕ} {shown : Shown} {kernels : List Kernel} {e : Ending}
    → IsMeaning (migrating held) (ran shown kernels e) → ⊥
no_migrated_run means = elim means [ ]

pub wat_on : {o : Outside} {file : List ℕ} (contents : List (List ℕ)) (work : Work)
    → HasAll o.source (files_of (wat file)) contents → IsWork o (wat file) contents work
    → (bytes : List ℕ) × Has o.source (module_file file) bytes × (work ≡ writing (take most_of_module bytes))
wat_on contents work (has_more {bytes = bytes} has has_none) wat_works = (bytes, has, refl)

pub check_on : {o : Outside} {file : List ℕ} (contents : List (List ℕ)) (work : Work)
    → HasAll o.source (files_of (check file)) contents → IsWork o (check file) contents work
    → (bytes : List ℕ) × Has o.source (module_file file) bytes × (work ≡ judging (take most_of_module bytes))
check_on contents work (has_more {bytes = bytes} has has_none) check_works = (bytes, has, refl)

pub cert_on : {o : Outside} {file : List ℕ} (contents : List (List ℕ)) (work : Work)
    → HasAll o.source (files_of (cert file)) contents → IsWork o (cert file) contents work
    → (bytes : List ℕ) × Has o.source (source_file file) bytes × (work ≡ certifying bytes)
cert_on contents work (has_more {bytes = bytes} has has_none) cert_works = (bytes, has, refl)

-- the work on what two files hold
pub record HasBoth (o : Sources) (certificate file : List ℕ) (work : Work) : Type 0 where
  pub bytes : List ℕ
  pub text : List ℕ
  pub has_source : Has o (source_file file) bytes
  pub has_text : Has o (certificate_file certificate) text
  pub is_work : work ≡ rechecking (take most_of_certificate text) bytes

pub recheck_on : {o : Outside} {certificate file : List ℕ} (contents : List (List ℕ)) (work : Work)
    → HasAll o.source (files_of (recheck certificate file)) contents
    → IsWork o (recheck certificate file) contents work → HasBoth o.source certificate file work
recheck_on contents work (has_more {bytes = bytes} here (has_more {bytes = text} there has_none)) recheck_works =
    record { bytes = bytes; text = text; has_source = here; has_text = there; is_work = refl }

-- what is carried out of a work
pub same_carried : {kind : Kind} {other : Work} {s : Status} {tells : Bool} {before after : List ℕ} (work : Work)
    → work ≡ other → IsCarriedOut kind other s tells before after → IsCarriedOut kind work s tells before after
same_carried {kind} {other} {s} {tells} {before} {after} work is carried =
    subst (λ w. IsCarriedOut kind w s tells before after) (sym is) carried

-- and of the work on what a file holds
pub file_carried : {o : Sources} {file : Wanted} {of : List ℕ → Work} {kind : Kind} {s : Status} {tells : Bool}
    {before after : List ℕ} (work : Work) → (bytes : List ℕ) × Has o file bytes × (work ≡ of bytes)
    → ((bytes : List ℕ) → Has o file bytes → IsCarriedOut kind (of bytes) s tells before after)
    → IsCarriedOut kind work s tells before after
file_carried work on carried = same_carried work on.2 (carried on.0 on.1)

-- what is left of the last file, which is the only one, or the second one
none_behind : {file : Wanted} {bytes : List ℕ} → IsLast file bytes [] [] → ⊥
none_behind last = elim last [ ]

pub one_left : {o : Sources} {file : Wanted} {Had_memory Was_read : Type 0} {left : List ℕ}
    → ((bytes : List ℕ) → Has o file bytes → Had_memory → Was_read → left ≡ drop file.most bytes)
    → (contents : List (List ℕ)) (other : Wanted) (bytes : List ℕ) → HasAll o (file ∷ []) contents
    → IsLast other bytes (file ∷ []) contents → Had_memory → Was_read → left ≡ drop other.most bytes
one_left h contents other bytes (has_more has has_none) alone memory read = h bytes has memory read
one_left h contents other bytes (has_more has has_none) (behind last) memory read = absurd (none_behind last)

pub two_left : {o : Sources} {first second : Wanted} {Had_memory Was_read : Type 0} {left : List ℕ}
    → ((bytes : List ℕ) → Has o second bytes → Had_memory → Was_read → left ≡ drop second.most bytes)
    → (contents : List (List ℕ)) (other : Wanted) (bytes : List ℕ) → HasAll o (first ∷ second ∷ []) contents
    → IsLast other bytes (first ∷ second ∷ []) contents → Had_memory → Was_read → left ≡ drop other.most bytes
two_left h contents other bytes (has_more here there) (behind last) memory read =
    one_left h _ other bytes there last memory read

-- a file that is lacking is one of those that are read, and the other way round
pub one_lacks : {o : Sources} {file : Wanted} {Rose_source : Type 0} → Rose_source ⊎ Lacks o file
    → Rose_source ⊎ LacksSome o (file ∷ [])
one_lacks (inl rose) = inl rose
one_lacks (inr lacks) = inr (lacks_this lacks)

pub two_lack : {o : Sources} {first second : Wanted} {Rose_source : Type 0}
    → Rose_source ⊎ (Lacks o first ⊎ Lacks o second) → Rose_source ⊎ LacksSome o (first ∷ second ∷ [])
two_lack (inl rose) = inl rose
two_lack (inr (inl lacks)) = inr (lacks_this lacks)
two_lack (inr (inr lacks)) = inr (lacks_later (lacks_this lacks))

pub lacks_one : {o : Sources} {file : Wanted} {files : List Wanted} → LacksFirst o (file ∷ files) → Lacks o file
lacks_one (lacks_first lacks) = lacks

pub lacks_none : {A : Type 0} {o : Sources} → LacksSome o [] → A
lacks_none lacks = absurd (elim lacks [ ])

module _ (s : Status) (tells : Bool) (before after : List ℕ) where
  -- then nothing is written
  pub one_unread : {o : Sources} {file : Wanted} → (Lacks o file → s ≡ Read)
      → (s ≡ Read → IsTrue tells → after ≡ before) → LacksSome o (file ∷ []) → IsUnread s tells before after
  one_unread missing nothing (lacks_this lacks) =
      let read = missing lacks in record { status = inl read; nothing = nothing read }
  one_unread missing nothing (lacks_later lacks) = lacks_none lacks

  pub two_unread : {o : Sources} {first second : Wanted} → (Lacks o first → s ≡ Read)
      → (s ≡ Read → IsTrue tells → after ≡ before) → (Lacks o second → IsUnread s tells before after)
      → LacksSome o (first ∷ second ∷ []) → IsUnread s tells before after
  two_unread missing nothing lacking (lacks_this lacks) =
      let read = missing lacks in record { status = inl read; nothing = nothing read }
  two_unread missing nothing lacking (lacks_later (lacks_this lacks)) = lacking lacks
  two_unread missing nothing lacking (lacks_later (lacks_later lacks)) = lacks_none lacks

-- a cache file's name, and what is seen of it
module _ {X Y : Type 0} (f : X → Y) where
  pub kind_mapped : (o : Option X) → kind_with (option_map f o) ≡ kind_with o
  kind_mapped o = grind arith

  pub carried_mapped : {work : Work} {s : Status} {tells : Bool} {before after : List ℕ} (o : Option X)
      → IsCarriedOut (kind_with o) work s tells before after
      → IsCarriedOut (kind_with (option_map f o)) work s tells before after
  carried_mapped {work} {s} {tells} {before} {after} o =
      subst (λ kind. IsCarriedOut kind work s tells before after) (sym (kind_mapped o))

  pub some_mapped : (o : Option X) → IsSome (option_map f o) → IsSome o
  some_mapped o some = grind arith

  pub none_mapped : (o : Option X) → IsNone (option_map f o) → IsNone o
  none_mapped o none = grind arith

  pub honest_mapped : {tells : Bool} {held : List ℕ} (o : Option X) → IsHonestCache tells held (option_map f o)
      → IsHonestCache tells held o
  honest_mapped None honest = honest
  honest_mapped (Some x) honest = honest
