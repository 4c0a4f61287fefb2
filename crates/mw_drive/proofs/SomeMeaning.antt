-- Each work has a meaning.
use Rattle.std.proofs.Common.{◌≡◌, ◌≤◌, ◌<◌, ◌⊎◌, inl, inr, ℕ, List, [], ◌∷◌, map, length, Option, Some, None, true}
use Rattle.std.proofs.Common.{false, refl, sym, ap, subst, arith}
use Rattle.mw_term.specs.Programs.{Definition, PureProgram}
use Rattle.mw_term.specs.Typable.{Typable}
use Rattle.mw_term.specs.declared.refusal.Refusal.{Refusal}
use Rattle.mw_term.specs.declared.refusal.Refusal.TheVariants.{Syntax, TooDeep, TooMany}
use Rattle.mw_drive.specs.declared.shown.Shown.{Shown}
use Rattle.mw_lex.specs.Tokens.{PureToken}
use Rattle.mw_lex.specs.Reading.{AreTokens, IsFirstFault}
use Rattle.mw_lex.proofs.StepsOn.{either}
use Rattle.mw_grammar.specs.SurfaceTrees.{PureSurface, PureItem}
use Rattle.mw_grammar.specs.Answers.{place_of, kernels, AreFew, AreTooMany, items as many_items}
use Rattle.mw_grammar.specs.Answers.{kernel_items as many_kernels, IsProgram, HasAnswer, a_tree, a_syntax, a_deep}
use Rattle.mw_grammar.proofs.Exactly.{answer}
use Rattle.mw_scope.specs.declared.fault.Fault.{Fault}
use Rattle.mw_scope.specs.Scopes.{name_of}
use Rattle.mw_scope.specs.Nameless.{IsNameless, NamelessItems, no_item, an_item}
use Rattle.mw_scope.specs.Faults.{faults_of, refusal_of}
use Rattle.mw_scope.specs.Keeping.{kept}
use Rattle.mw_scope.proofs.Firsts.{kept_is_first, none_kept}
use Rattle.mw_scope.specs.Named.{named_program}
use Rattle.mw_scope.proofs.FaultlessPrograms.{faultless_program}
use Rattle.mw_infer.specs.Checking.{IsFirstRefusal, NoneTooBig}
use Rattle.mw_infer.proofs.Progressing.{resolved-written}
use Rattle.mw_infer.proofs.Deciding.{checked_or_refused}
use Rattle.mw_reading.specs.NamedPrograms.{NamedItem, NamedProgram, unnamed, names_of}
use Rattle.mw_reading.specs.SourceReading.{IsSmall, IsRead, IsRefused, too_large, at_bytes, at_tokens, at_names}
use Rattle.mw_drive.specs.Works.{Work, running, erasing, linking, mode_of, Meaning, refused, ran, erased, IsAccepted}
use Rattle.mw_drive.specs.Works.{IsMeaning, of_refusal, of_types, of_program, of_erased_refusal, of_erased}
use Rattle.mw_drive.specs.Works.{of_link_refusal}
use Rattle.mw_drive.specs.Works.{migrating, writing, judging, migrated, written, judged, faulty}
use Rattle.mw_drive.specs.Works.{of_migration, of_binary, of_bad_binary, of_module, of_bad_file}
use Rattle.mw_drive.specs.Works.{certifying, rechecking, certified, rechecked, CertifiesWithin, of_untyped}
use Rattle.mw_drive.specs.Works.{of_certificate, of_unread, of_recheck}
use Rattle.mw_recheck.specs.Certificates.{Certifies}
use Rattle.mw_recheck.proofs.CertificateDecision.{certifies_decided}
use Rattle.mw_cert.proofs.WrittenCertificates.{accepted_have_one}
use Rattle.mw_wasm.specs.Syntax.{PureModule}
use Rattle.mw_wasm.specs.Validity.{IsValid}
use Rattle.mw_judge.specs.declared.fault.BadFile.{BadFile}
use Rattle.mw_judge.specs.ModuleFiles.{IsBinary, IsFileOf, IsBadBinary, IsBadFile}
use Rattle.mw_judge.proofs.FileLaws.{binary_or_bad, file_or_bad}
use Rattle.mw_judge.proofs.ValidityDecision.{validity_is_decided}
use Rattle.mw_keeping.proofs.Migrations.{some_migration}
use Rattle.mw_drive.specs.WorkLaws.{SomeMeaning}
use Rattle.mw_reading.proofs.ScopedTerms.{is_resolved}
use Rattle.mw_drive.proofs.ErasedEnds.{erased_ends, source_program}
use Rattle.mw_drive.proofs.LinkedPrograms.{some_link, link_means}
use Rattle.mw_drive.proofs.ProgramEnds.{program_ends}
use Rattle.mw_drive.proofs.Counts.{at_most_or_above}

-- Reading answers: a program or a refusal.

-- a surface program with the definitions that it is, and its names
abbrev with_names : List PureItem → List Definition → List NamedItem
with_names (i ∷ is) (d ∷ ds) = record { name = name_of i; is = d } ∷ with_names is ds
with_names _ _ = []

named_definitions : {before is : List PureItem} {ds : List Definition} → NamelessItems before is ds
    → map (λ (i : NamedItem). i.is) (with_names is ds) ≡ ds
named_definitions no_item = refl
named_definitions (an_item {d = d} fresh h rest) = ap (λ ds. d ∷ ds) (named_definitions rest)

named_names : {before is : List PureItem} {ds : List Definition} → NamelessItems before is ds
    → map (λ (i : NamedItem). i.name) (with_names is ds) ≡ map name_of is
named_names no_item = refl
named_names (an_item {item = item} fresh h rest) = ap (λ xs. name_of item ∷ xs) (named_names rest)

-- what reading gives of a source
data IsAnswered (bytes : List ℕ) : Type 0 where
  as_program : (p : NamedProgram) → IsRead bytes p → IsAnswered bytes
  as_refusal : (r : Refusal) → IsRefused bytes r → IsAnswered bytes

few_or_many : (is : List PureItem) → AreFew is ⊎ AreTooMany is
few_or_many is = by_items (at_most_or_above (length is) 1000)
  where
    by_kernels : length is ≤ 1000 → (kernels is ≤ 100) ⊎ (100 < kernels is) → AreFew is ⊎ AreTooMany is
    by_kernels few (inl h) = inl record { items = few; kernel_items = h }
    by_kernels few (inr h) = inr (many_kernels h)

    by_items : (length is ≤ 1000) ⊎ (1000 < length is) → AreFew is ⊎ AreTooMany is
    by_items (inl h) = by_kernels h (at_most_or_above (kernels is) 100)
    by_items (inr h) = inr (many_items h)

module _ (bytes : List ℕ) (small : IsSmall bytes) (tokens : List PureToken) (are : AreTokens bytes tokens) where
  module _ (s : PureSurface) (is : IsProgram tokens s) where
    nameless_answer : IsNameless s (named_program s) → IsAnswered bytes
    nameless_answer n =
        let q : NamedProgram =
        record {
          items = with_names s.items (named_program s).items;
          result = (named_program s).result;
          body = (named_program s).body;
        } in
        let same : unnamed q ≡ named_program s =
        ap (λ ds. record { items = ds; result = (named_program s).result; body = (named_program s).body })
        (named_definitions n.items) in
        as_program q record {
          small = small;
          tokens = tokens;
          are_tokens = are;
          surface = s;
          is_surface = is;
          is_nameless = subst (IsNameless s) (sym same) n;
          names = named_names n.items;
        }

    by_fault : (o : Option Fault) → kept None (faults_of s) ≡ o → IsAnswered bytes
    by_fault None e = nameless_answer (faultless_program s (none_kept (faults_of s) e))
    by_fault (Some f) e =
        as_refusal (refusal_of f) (at_names tokens s f small are is (kept_is_first (faults_of s) f e) refl)

    surface_answer : IsAnswered bytes
    surface_answer = by_fault (kept None (faults_of s)) refl

  tokens_answer : HasAnswer 200 tokens → IsAnswered bytes
  tokens_answer (a_tree s t) = by_count (few_or_many s.items)
    where
      by_count : AreFew s.items ⊎ AreTooMany s.items → IsAnswered bytes
      by_count (inl few) = surface_answer s record { is = t; few = few }
      by_count (inr many) = as_refusal TooMany (at_tokens tokens small are record { tree = s; is = t; many = many })
  tokens_answer (a_syntax rest f) =
      as_refusal (Syntax (place_of rest (length bytes)))
      (at_tokens tokens small are record { rest = rest; fault = f; place = refl })
  tokens_answer (a_deep rest f) =
      as_refusal (TooDeep (place_of rest 0))
      (at_tokens tokens small are record { rest = rest; fault = f; place = refl })

bytes_answer : (bytes : List ℕ) → IsSmall bytes
    → ((tokens : List PureToken) × AreTokens bytes tokens) ⊎ ((r : Refusal) × IsFirstFault bytes r) → IsAnswered bytes
bytes_answer bytes small (inl t) = tokens_answer bytes small t.0 t.1 (answer 200 t.0)
bytes_answer bytes small (inr f) = as_refusal f.0 (at_bytes small f.1)

reading_answers : (bytes : List ℕ) → IsAnswered bytes
reading_answers bytes = by_size (at_most_or_above (length bytes) 1048576)
  where
    by_size : (length bytes ≤ 1048576) ⊎ (1048576 < length bytes) → IsAnswered bytes
    by_size (inl small) = bytes_answer bytes small (either bytes)
    by_size (inr large) = as_refusal _ (too_large large)

-- So each work has a meaning.

-- a work on a source: what is refused as a run is, or else what an accepted program means
module _ (bytes : List ℕ) (work : Work) (unread : (r : Refusal) → IsRefused bytes r → IsMeaning work (refused r []))
    (untyped : (p : NamedProgram) (r : Refusal) → IsRead bytes p → IsFirstRefusal (unnamed p) r
    → IsMeaning work (refused r (names_of p)))
    (accepted : (p : NamedProgram) → IsRead bytes p → IsAccepted (unnamed p) → (m : Meaning) × IsMeaning work m) where
  program_means : (p : NamedProgram) → IsRead bytes p
      → (Typable (unnamed p) × NoneTooBig (unnamed p)) ⊎ ((r : Refusal) × IsFirstRefusal (unnamed p) r)
      → (m : Meaning) × IsMeaning work m
  program_means p read (inl fine) = accepted p read (record { typable = fine.0; small = fine.1 })
  program_means p read (inr fault) = (refused fault.0 (names_of p), untyped p fault.0 read fault.1)

  answer_means : IsAnswered bytes → (m : Meaning) × IsMeaning work m
  answer_means (as_program p read) =
      program_means p read
      (checked_or_refused (unnamed p) (resolved-written (unnamed p) (is_resolved bytes p read)))
  answer_means (as_refusal r refusal) = (refused r [], unread r refusal)

accepted_means : (bytes : List ℕ) (fuel : ℕ) (shown : Shown) (p : NamedProgram) → IsRead bytes p
    → IsAccepted (unnamed p) → (m : Meaning) × IsMeaning (running bytes fuel shown) m
accepted_means bytes fuel shown p read fine =
    let e = program_ends (mode_of shown) fuel p fine.typable in
    (ran shown e.kernels e.ending, of_program p read fine e.is)

accepted_erased : (bytes : List ℕ) (fuel : ℕ) (p : NamedProgram) → IsRead bytes p → IsAccepted (unnamed p)
    → (m : Meaning) × IsMeaning (erasing bytes fuel) m
accepted_erased bytes fuel p read fine =
    let e = erased_ends fuel (unnamed p) (source_program bytes p read) fine.typable in
    (erased e.0, of_erased p read fine e.1)

accepted_linked : (bytes : List ℕ) (fuel : ℕ) (p : NamedProgram) → IsRead bytes p → IsAccepted (unnamed p)
    → (m : Meaning) × IsMeaning (linking bytes fuel) m
accepted_linked bytes fuel p read fine =
    let e = some_link fuel p fine.typable in
    (e.0, link_means p read fine e.0 e.1)

accepted_certified : (bytes : List ℕ) (p : NamedProgram) → IsRead bytes p → IsAccepted (unnamed p)
    → (m : Meaning) × IsMeaning (certifying bytes) m
accepted_certified bytes p read fine =
    let c = accepted_have_one (unnamed p) (is_resolved bytes p read) fine.typable fine.small in
    (certified c.0, of_certificate p read fine c.1)

-- texts that don't certify a program within the limit
uncertified : (text : List ℕ) (p : PureProgram) → (Certifies text p → ⊥) → CertifiesWithin text p → ⊥
uncertified text p not c = not c.certifies

too_long : (text : List ℕ) (p : PureProgram) → 67108864 < length text → CertifiesWithin text p → ⊥
too_long text p past c = let within = c.within in absurd (omega arith)

-- whether a text certifies a program that is read
rechecked_means : (text bytes : List ℕ) (p : NamedProgram) → IsRead bytes p → (length text ≤ 67108864)
    ⊎ (67108864 < length text) → Certifies text (unnamed p) ⊎ (Certifies text (unnamed p) → ⊥)
    → (m : Meaning) × IsMeaning (rechecking text bytes) m
rechecked_means text bytes p read (inl within) (inl is) =
    let c : CertifiesWithin text (unnamed p) = record { within = within; certifies = is } in
    (rechecked true, of_recheck p read c)
rechecked_means text bytes p read (inl within) (inr not) =
    (rechecked false, of_recheck p read (uncertified text (unnamed p) not))
rechecked_means text bytes p read (inr past) decided =
    (rechecked false, of_recheck p read (too_long text (unnamed p) past))

recheck_means : (text bytes : List ℕ) → IsAnswered bytes → (m : Meaning) × IsMeaning (rechecking text bytes) m
recheck_means text bytes (as_program p read) =
    rechecked_means text bytes p read (at_most_or_above (length text) 67108864) (certifies_decided text (unnamed p))
recheck_means text bytes (as_refusal r refusal) = (refused r [], of_unread refusal)

binary_means : (bytes : List ℕ) → ((m : PureModule) × IsBinary bytes m) ⊎ ((f : BadFile) × IsBadBinary bytes f)
    → (m : Meaning) × IsMeaning (writing bytes) m
binary_means bytes (inl is) = (written is.0, of_binary is.1)
binary_means bytes (inr bad) = (faulty bad.0, of_bad_binary bad.1)

module_means : (bytes : List ℕ) → ((m : PureModule) × IsFileOf bytes m) ⊎ ((f : BadFile) × IsBadFile bytes f)
    → (m : Meaning) × IsMeaning (judging bytes) m
module_means bytes (inl is) = by_validity (validity_is_decided is.0)
  where
    by_validity : IsValid is.0 ⊎ (IsValid is.0 → ⊥) → (m : Meaning) × IsMeaning (judging bytes) m
    by_validity (inl valid) = (judged true, of_module is.0 is.1 valid)
    by_validity (inr not) = (judged false, of_module is.0 is.1 not)
module_means bytes (inr bad) = (faulty bad.0, of_bad_file bad.1)

pub some_meaning : SomeMeaning
some_meaning (running bytes fuel shown) on =
    answer_means bytes (running bytes fuel shown) (λ r refusal. of_refusal refusal)
    (λ p r read fault. of_types p read fault) (accepted_means bytes fuel shown) (reading_answers bytes)
some_meaning (erasing bytes fuel) on =
    answer_means bytes (erasing bytes fuel) (λ r refusal. of_erased_refusal (of_refusal refusal))
    (λ p r read fault. of_erased_refusal (of_types p read fault)) (accepted_erased bytes fuel) (reading_answers bytes)
some_meaning (linking bytes fuel) on =
    answer_means bytes (linking bytes fuel) (λ r refusal. of_link_refusal (of_refusal refusal))
    (λ p r read fault. of_link_refusal (of_types p read fault)) (accepted_linked bytes fuel) (reading_answers bytes)
some_meaning (migrating held) on = let m = some_migration held on.0 on.1 in
    (migrated m.0 (length m.1), of_migration m.2)
some_meaning (writing bytes) on = binary_means bytes (binary_or_bad bytes on)
some_meaning (judging bytes) on = module_means bytes (file_or_bad bytes on)
some_meaning (certifying bytes) on =
    answer_means bytes (certifying bytes) (λ r refusal. of_untyped {fuel = 0} (of_refusal refusal))
    (λ p r read fault. of_untyped {fuel = 0} (of_types p read fault)) (accepted_certified bytes) (reading_answers bytes)
some_meaning (rechecking text bytes) on = recheck_means text bytes (reading_answers bytes)
