-- A work has one meaning at most.
use Rattle.std.proofs.Common.{◌≡◌, ◌≤◌, ◌<◌, ℕ, Bool, true, false, List, [], map, Some, Err, length, refl, sym, ap, ◌∙◌}
use Rattle.std.proofs.Common.{subst, arith}
use Rattle.mw_term.specs.declared.refusal.Refusal.{Refusal}
use Rattle.mw_term.specs.declared.refusal.Stop.TheVariants.{Refused}
use Rattle.mw_lex.specs.Tokens.{PureToken}
use Rattle.mw_lex.specs.Reading.{AreTokens}
use Rattle.mw_lex.proofs.OneAnswer.{one_list, one_first_fault, tokens_or_fault}
use Rattle.mw_grammar.specs.SurfaceTrees.{PureSurface}
use Rattle.mw_grammar.specs.Answers.{IsProgram}
use Rattle.mw_grammar.proofs.Exactly.{one_tree}
use Rattle.mw_parse.specs.Reading.{Refuses}
use Rattle.mw_parse.proofs.Parsed as parsed
use Rattle.mw_scope.specs.Nameless.{IsNameless}
use Rattle.mw_scope.specs.Faults.{faults_of, IsFirst as IsFirstOf}
use Rattle.mw_scope.proofs.FaultlessPrograms.{one_nameless}
use Rattle.mw_scope.proofs.Answer.{same_refusal, first_is_none}
use Rattle.mw_scope.specs.Scopes.{name_of}
use Rattle.mw_infer.specs.Checking.{IsFirstRefusal, IsWritten}
use Rattle.mw_infer.proofs.Progressing.{resolved-written}
use Rattle.mw_infer.proofs.Refusals.{refusal-one, typable-refused}
use Rattle.mw_meaning.specs.declared.mode.Mode.TheVariants.{Plain}
use Rattle.mw_drive.specs.declared.shown.Shown.TheVariants.{Lines}
use Rattle.mw_reading.specs.NamedPrograms.{NamedProgram, unnamed, names_of}
use Rattle.mw_reading.specs.SourceReading.{IsRead, IsRefused, too_large, at_bytes, at_tokens, at_names}
use Rattle.mw_drive.specs.ProgramMeaning.{items_run, ended, program_run, erased_ending}
use Rattle.mw_drive.specs.LinkedPrograms.{LinkRun, link_run}
use Rattle.mw_wasm.specs.Syntax.{PureModule}
use Rattle.mw_drive.specs.Works.{Meaning, running, mode_of, refused, erased, IsAccepted, IsMeaning, of_refusal}
use Rattle.mw_drive.specs.Works.{of_types, of_program, of_erased_refusal, of_erased}
use Rattle.mw_drive.specs.Works.{of_link_refusal, of_joined, of_unjoined}
use Rattle.mw_drive.specs.Works.{of_migration, of_binary, of_bad_binary, of_module, of_bad_file}
use Rattle.mw_drive.specs.Works.{of_untyped, of_certificate, of_unread, of_recheck, CertifiesWithin, Rechecks}
use Rattle.mw_drive.specs.Works.{migrated, judged, faulty, certified, rechecked}
use Rattle.mw_drive.specs.Works as meant
use Rattle.mw_judge.specs.ModuleFiles.{Judges}
use Rattle.mw_judge.proofs.FileLaws.{one_binary_module, never_bad_and_binary, one_binary_fault}
use Rattle.mw_judge.proofs.FileLaws.{one_file_module, never_bad_and_file, one_file_fault}
use Rattle.mw_keeping.proofs.Migrations.{one_migration}
use Rattle.mw_written.specs.Written.{IsCertificateOf}
use Rattle.mw_written.proofs.OneProgram.{certificates_one}
use Rattle.mw_store.specs.Records.{Kept}
use Rattle.mw_drive.specs.WorkLaws.{OneMeaning}
use Rattle.mw_reading.proofs.SourceReadings.{same_program}
use Rattle.mw_reading.proofs.ScopedTerms.{is_resolved}

-- tokens have one refusal at most, and none where they are a program
one_refusal : (tokens : List PureToken) (n : ℕ) (r q : Refusal) → Refuses tokens n r → Refuses tokens n q → r ≡ q
one_refusal tokens n r q a b = parsed.first tokens n (Err (Refused r)) a q b

program_or_refusal : (tokens : List PureToken) (n : ℕ) (r : Refusal) (s : PureSurface) → Refuses tokens n r
    → IsProgram tokens s → ⊥
program_or_refusal tokens n r s a p = parsed.only tokens n (Err (Refused r)) a s p

one_surface : (tokens : List PureToken) (s t : PureSurface) → IsProgram tokens s → IsProgram tokens t → s ≡ t
one_surface tokens s t p q = one_tree tokens s t _ _ p.is.derives q.is.derives

not_both : {n : ℕ} → n ≤ 1048576 → 1048576 < n → ⊥
not_both small large = absurd (omega arith)

module _ (bytes : List ℕ) where
  -- the tokens and the tree of a source are one
  same_surface : (ts us : List PureToken) (s t : PureSurface) → AreTokens bytes ts → AreTokens bytes us
      → IsProgram ts s → IsProgram us t → s ≡ t
  same_surface ts us s t a b p q = one_surface ts s t p (subst (λ x. IsProgram x t) (one_list bytes us ts b a) q)

  -- it is read as one program at most
  pub one_program : (p q : NamedProgram) → IsRead bytes p → IsRead bytes q → p ≡ q
  one_program p q a b =
      let s : a.surface ≡ b.surface =
      same_surface a.tokens b.tokens a.surface b.surface a.are_tokens b.are_tokens a.is_surface b.is_surface in
      let names : names_of p ≡ names_of q = a.names
      ∙ (ap (λ (x : PureSurface). map name_of x.items) s ∙ sym b.names) in
      same_program p q names
      (one_nameless b.surface (unnamed p) (unnamed q) (subst (λ x. IsNameless x (unnamed p)) s a.is_nameless)
      b.is_nameless)

  -- and not both read and refused
  pub read_or_refused : (p : NamedProgram) (r : Refusal) → IsRead bytes p → IsRefused bytes r → ⊥
  read_or_refused p r a (too_large large) = not_both a.small large
  read_or_refused p r a (at_bytes small f) = tokens_or_fault bytes a.tokens r a.are_tokens f
  read_or_refused p r a (at_tokens tokens small are q) =
      program_or_refusal a.tokens (length bytes) r a.surface
      (subst (λ x. Refuses x (length bytes) r) (one_list bytes tokens a.tokens are a.are_tokens) q) a.is_surface
  read_or_refused p r a (at_names tokens surface f small are is first e) =
      let s : surface ≡ a.surface = same_surface tokens a.tokens surface a.surface are a.are_tokens is a.is_surface in
      first_is_none a.surface f (unnamed p) (subst (λ x. IsFirstOf (faults_of x) f) s first) a.is_nameless

  -- and it has one refusal at most
  pub one_source_refusal : (r q : Refusal) → IsRefused bytes r → IsRefused bytes q → r ≡ q
  one_source_refusal r q (too_large large) (too_large also) = refl
  one_source_refusal r q (too_large large) (at_bytes small f) = absurd (not_both small large)
  one_source_refusal r q (too_large large) (at_tokens tokens small are k) = absurd (not_both small large)
  one_source_refusal r q (too_large large) (at_names tokens surface f small are is first e) =
      absurd (not_both small large)
  one_source_refusal r q (at_bytes small f) (too_large large) = absurd (not_both small large)
  one_source_refusal r q (at_bytes small f) (at_bytes also g) = one_first_fault bytes r q f g
  one_source_refusal r q (at_bytes small f) (at_tokens tokens also are k) =
      absurd (tokens_or_fault bytes tokens r are f)
  one_source_refusal r q (at_bytes small f) (at_names tokens surface g also are is first e) =
      absurd (tokens_or_fault bytes tokens r are f)
  one_source_refusal r q (at_tokens tokens small are k) (too_large large) = absurd (not_both small large)
  one_source_refusal r q (at_tokens tokens small are k) (at_bytes also g) =
      absurd (tokens_or_fault bytes tokens q are g)
  one_source_refusal r q (at_tokens tokens small are k) (at_tokens others also them l) =
      one_refusal tokens (length bytes) r q k
      (subst (λ x. Refuses x (length bytes) q) (one_list bytes others tokens them are) l)
  one_source_refusal r q (at_tokens tokens small are k) (at_names others surface g also them is first e) =
      absurd (program_or_refusal tokens (length bytes) r surface k
      (subst (λ x. IsProgram x surface) (one_list bytes others tokens them are) is))
  one_source_refusal r q (at_names tokens surface f small are is first e) (too_large large) =
      absurd (not_both small large)
  one_source_refusal r q (at_names tokens surface f small are is first e) (at_bytes also g) =
      absurd (tokens_or_fault bytes tokens q are g)
  one_source_refusal r q (at_names tokens surface f small are is first e) (at_tokens others also them l) =
      absurd (program_or_refusal others (length bytes) q surface l
      (subst (λ x. IsProgram x surface) (one_list bytes tokens others are them) is))
  one_source_refusal r q (at_names tokens surface f small are is first e)
      (at_names others other g also them it second d) =
      let s : other ≡ surface = same_surface others tokens other surface them are it is in
      e ∙ (same_refusal surface f g first (subst (λ x. IsFirstOf (faults_of x) g) s second) ∙ sym d)

  written : (p : NamedProgram) → IsRead bytes p → IsWritten (unnamed p)
  written p a = resolved-written (unnamed p) (is_resolved bytes p a)

  -- the types of the program that is read are accepted or refused, and not both, and refused once
  types_once : (p q : NamedProgram) (r k : Refusal) → IsRead bytes p → IsRead bytes q → IsFirstRefusal (unnamed p) r
      → IsFirstRefusal (unnamed q) k → refused r (names_of p) ≡ refused k (names_of q)
  types_once p q r k a b f g =
      let same = one_program p q a b in
      let one : r ≡ k =
      refusal-one (unnamed q) (written q b) r k
      (subst (λ (x : NamedProgram). IsFirstRefusal (unnamed x) r) same f) g in
      ap (λ x. refused x (names_of p)) one ∙ ap (λ (x : NamedProgram). refused k (names_of x)) same

  accepted_or_refused : (p q : NamedProgram) (r : Refusal) → IsRead bytes p → IsRead bytes q
      → IsFirstRefusal (unnamed p) r → IsAccepted (unnamed q) → ⊥
  accepted_or_refused p q r a b f g =
      typable-refused (unnamed q) (written q b) r g.typable g.small
      (subst (λ (x : NamedProgram). IsFirstRefusal (unnamed x) r) (one_program p q a b) f)

one_link_run : {bytes : List ℕ} (fuel : ℕ) {r s : LinkRun} (p q : NamedProgram) → IsRead bytes p → IsRead bytes q
    → link_run (items_run Plain fuel p) ≡ r → link_run (items_run Plain fuel q) ≡ s → r ≡ s
one_link_run {bytes} fuel p q a b is end =
    sym is ∙ (ap (λ p. link_run (items_run Plain fuel p)) (one_program bytes p q a b) ∙ end)

-- a source that is refused isn't accepted
erased_or_refused : {bytes : List ℕ} {fuel : ℕ} {r : Refusal} {names : List (List ℕ)}
    → IsMeaning (running bytes fuel (Lines Plain)) (refused r names) → (p : NamedProgram) → IsRead bytes p
    → IsAccepted (unnamed p) → ⊥
erased_or_refused {bytes} (of_refusal {r = r} a) p b g = read_or_refused bytes p r b a
erased_or_refused {bytes} (of_types {r = r} q a f) p b g = accepted_or_refused bytes q p r a b f g

-- and it is refused with whatever units
with_units : {bytes : List ℕ} {fuel : ℕ} {r : Refusal} {names : List (List ℕ)} (units : ℕ)
    → IsMeaning (running bytes fuel (Lines Plain)) (refused r names)
    → IsMeaning (running bytes units (Lines Plain)) (refused r names)
with_units units (of_refusal a) = of_refusal a
with_units units (of_types p a f) = of_types p a f

-- a module is valid or not
one_verdict : (v w : Bool) (wasm : PureModule) → Judges v wasm → Judges w wasm → v ≡ w
one_verdict true true wasm a b = refl
one_verdict true false wasm a b = absurd (b a)
one_verdict false true wasm a b = absurd (a b)
one_verdict false false wasm a b = refl

-- a text certifies a program or it doesn't
one_typing : (v w : Bool) (text : List ℕ) (p q : NamedProgram) → p ≡ q → Rechecks v text (unnamed p)
    → Rechecks w text (unnamed q) → v ≡ w
one_typing true true text p q same a b = refl
one_typing true false text p q same a b =
    absurd (b (subst (λ (x : NamedProgram). CertifiesWithin text (unnamed x)) same a))
one_typing false true text p q same a b =
    absurd (a (subst (λ (x : NamedProgram). CertifiesWithin text (unnamed x)) (sym same) b))
one_typing false false text p q same a b = refl

abbrev written_module : PureModule → Meaning
written_module wasm = meant.written wasm

pub one_meaning : OneMeaning
one_meaning work m n (of_refusal {bytes = bytes} {r = r} a) (of_refusal {r = q} b) =
    ap (λ x. refused x []) (one_source_refusal bytes r q a b)
one_meaning work m n (of_refusal {bytes = bytes} {r = r} a) (of_types p b f) = absurd (read_or_refused bytes p r b a)
one_meaning work m n (of_refusal {bytes = bytes} {r = r} a) (of_program p b g is) =
    absurd (read_or_refused bytes p r b a)
one_meaning work m n (of_types {bytes = bytes} p a f) (of_refusal {r = q} b) = absurd (read_or_refused bytes p q a b)
one_meaning work m n (of_types {bytes = bytes} {r = r} p a f) (of_types {r = k} q b g) =
    types_once bytes p q r k a b f g
one_meaning work m n (of_types {bytes = bytes} {r = r} p a f) (of_program q b g is) =
    absurd (accepted_or_refused bytes p q r a b f g)
one_meaning work m n (of_program {bytes = bytes} p a f is) (of_refusal {r = q} b) =
    absurd (read_or_refused bytes p q a b)
one_meaning work m n (of_program {bytes = bytes} p a f is) (of_types {r = r} q b g) =
    absurd (accepted_or_refused bytes q p r b a g f)
one_meaning work m n (of_program {bytes = bytes} {fuel = fuel} {shown = shown} {kernels = ks} {e = d} p a f is)
    (of_program {kernels = ls} {e = e} q b g end) =
    let runs : ended ks d ≡ ended ls e =
    sym is ∙ (ap (program_run (mode_of shown) fuel) (one_program bytes p q a b) ∙ end) in
    cc
one_meaning work m n (of_erased_refusal {r = r} {names = names} a) (of_erased_refusal {r = q} {names = others} b) =
    one_meaning _ (refused r names) (refused q others) a b
one_meaning work m n (of_erased_refusal a) (of_erased q b g is) = absurd (erased_or_refused a q b g)
one_meaning work m n (of_erased p a f is) (of_erased_refusal b) = absurd (erased_or_refused b p a f)
one_meaning work m n (of_erased {bytes = bytes} {fuel = fuel} {e = d} p a f is) (of_erased {e = e} q b g end) =
    let runs : Some d ≡ Some e =
    sym is ∙ (ap (λ (p : NamedProgram). erased_ending fuel (unnamed p)) (one_program bytes p q a b) ∙ end) in
    let same : d ≡ e = cc in ap erased same
one_meaning work m n (of_link_refusal {r = r} {names = names} a) (of_link_refusal {r = q} {names = others} b) =
    one_meaning _ (refused r names) (refused q others) a b
one_meaning work m n (of_link_refusal a) (of_joined q b g is) = absurd (erased_or_refused a q b g)
one_meaning work m n (of_link_refusal a) (of_unjoined q b g is) = absurd (erased_or_refused a q b g)
one_meaning work m n (of_joined p a f is) (of_link_refusal b) = absurd (erased_or_refused b p a f)
one_meaning work m n (of_joined {fuel = fuel} p a f is) (of_joined q b g end) =
    cc (one_link_run fuel p q a b is end)
one_meaning work m n (of_joined {fuel = fuel} p a f is) (of_unjoined q b g end) =
    absurd (cc (one_link_run fuel p q a b is end))
one_meaning work m n (of_unjoined p a f is) (of_link_refusal b) = absurd (erased_or_refused b p a f)
one_meaning work m n (of_unjoined {fuel = fuel} p a f is) (of_joined q b g end) =
    absurd (cc (one_link_run fuel q p b a end is))
one_meaning work m n (of_unjoined {fuel = fuel} p a f is) (of_unjoined q b g end) =
    cc (one_link_run fuel p q a b is end)
one_meaning work m n (of_migration {held = held} {old = old} {added = added} a)
    (of_migration {old = other} {added = more} b) =
    let same = one_migration held old other added more a b in
    ap (λ o. migrated o (length added)) same.0 ∙ ap (λ (ks : List Kept). migrated other (length ks)) same.1
one_meaning work m n (of_binary {bytes = bytes} {wasm = wasm} a) (of_binary {wasm = other} b) =
    ap written_module (one_binary_module bytes wasm other a b)
one_meaning work m n (of_binary {bytes = bytes} {wasm = wasm} a) (of_bad_binary {fault = f} bad) =
    absurd (never_bad_and_binary bytes wasm f a bad)
one_meaning work m n (of_bad_binary {bytes = bytes} {fault = f} bad) (of_binary {wasm = wasm} a) =
    absurd (never_bad_and_binary bytes wasm f a bad)
one_meaning work m n (of_bad_binary {bytes = bytes} {fault = f} a) (of_bad_binary {fault = g} b) =
    ap faulty (one_binary_fault bytes f g a b)
one_meaning work m n (of_module {bytes = bytes} {valid = v} wasm a here) (of_module {valid = w} other b there) =
    ap judged (one_verdict v w wasm here (subst (Judges w) (one_file_module bytes other wasm b a) there))
one_meaning work m n (of_module {bytes = bytes} wasm a here) (of_bad_file {fault = f} bad) =
    absurd (never_bad_and_file bytes wasm f a bad)
one_meaning work m n (of_bad_file {bytes = bytes} {fault = f} bad) (of_module wasm a here) =
    absurd (never_bad_and_file bytes wasm f a bad)
one_meaning work m n (of_bad_file {bytes = bytes} {fault = f} a) (of_bad_file {fault = g} b) =
    ap faulty (one_file_fault bytes f g a b)
one_meaning work m n (of_untyped {fuel = fuel} {r = r} {names = names} a) (of_untyped {r = q} {names = others} b) =
    one_meaning _ (refused r names) (refused q others) a (with_units fuel b)
one_meaning work m n (of_untyped a) (of_certificate q b g is) = absurd (erased_or_refused a q b g)
one_meaning work m n (of_certificate p a f is) (of_untyped b) = absurd (erased_or_refused b p a f)
one_meaning work m n (of_certificate {bytes = bytes} {text = text} p a f is) (of_certificate {text = other} q b g end) =
    let here = subst (λ (x : NamedProgram). IsCertificateOf (unnamed x) text) (one_program bytes p q a b) is in
    ap certified (certificates_one (unnamed q) text other here end)
one_meaning work m n (of_unread {bytes = bytes} {r = r} a) (of_unread {r = q} b) =
    ap (λ x. refused x []) (one_source_refusal bytes r q a b)
one_meaning work m n (of_unread {bytes = bytes} {r = r} a) (of_recheck p b is) = absurd (read_or_refused bytes p r b a)
one_meaning work m n (of_recheck {bytes = bytes} p a is) (of_unread {r = q} b) = absurd (read_or_refused bytes p q a b)
one_meaning work m n (of_recheck {text = text} {bytes = bytes} {typed = v} p a is) (of_recheck {typed = w} q b end) =
    ap rechecked (one_typing v w text p q (one_program bytes p q a b) is end)
