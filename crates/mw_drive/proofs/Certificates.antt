-- What is answered of a source's typing, and what that says.
use Rattle.std.proofs.Common.{◌≡◌, ◌≤◌, inl, inr, ℕ, List, [], ◌++◌, map, length, take, Bool, true, false, IsTrue, refl}
use Rattle.std.proofs.Common.{sym, ap, subst, ◌∙◌, arith}
use Rattle.std.proofs.lemmas.List.{take_all, length-take}
use Rattle.mw_term.specs.Programs.{program_of}
use Rattle.mw_term.specs.Typable.{Typable}
use Rattle.mw_term.specs.declared.program.Program.{Program}
use Rattle.mw_term.specs.declared.program.Item.{Item}
use Rattle.mw_term.specs.declared.refusal.Refusal.{Refusal}
use Rattle.mw_infer.specs.Checking.{IsFirstRefusal, NoneTooBig}
use Rattle.mw_recheck.specs.Certificates.{Certifies}
use Rattle.mw_recheck.proofs.Programs.{certified_are_typable}
use Rattle.mw_written.specs.Written.{IsCertificateOf}
use Rattle.mw_console.specs.Texts.{refusal_line, typing_line}
use Rattle.mw_console.specs.declared.status.Status.{Status}
use Rattle.mw_console.specs.declared.status.Status.TheVariants.{Answer, Refused}
use Rattle.mw_console.specs.declared.status.Status.TheVariants.{NotTyped}
use Rattle.mw_reading.specs.NamedPrograms.{unnamed, names_of, named_program_of}
use Rattle.mw_reading.specs.SourceReading.{IsRead, IsRefused, too_large, at_bytes, at_tokens, at_names}
use Rattle.mw_drive.specs.Extents.{nothing, a_front, whole, unkept, all_or_nothing, unsaid, never, Extent, Kind}
use Rattle.mw_drive.specs.Extents.{on_a_file, extent}
use Rattle.mw_drive.specs.Running.{most_of_source, most_of_certificate, IsFaithful, IsCarriedOut}
use Rattle.mw_drive.specs.Certified.{IsCertified, IsUncertified, IsTypingVerdict}
use Rattle.mw_drive.specs.Works.{Work, certifying, rechecking, Meaning, refused, certified, rechecked, IsMeaning}
use Rattle.mw_drive.specs.Works.{of_refusal, of_types, of_untyped, of_certificate, of_unread, of_recheck}
use Rattle.mw_drive.specs.Works.{CertifiesWithin, Rechecks, text_of, status_of, Reports}
use Rattle.mw_drive.proofs.OneMeaning.{one_meaning}
use Rattle.mw_drive.proofs.RunLemmas.{whole_read, whole_refused, small_front, large_whole}
use Rattle.mw_reading.proofs.ScopedTerms.{is_resolved}
use Rattle.mw_reading.proofs.SourceReadings.{unnamed_program, names_of_program}

-- What is answered is what the work means: a refusal of the reading, or of the types.
pub unread_certificate : {bytes text : List ℕ} (s : Status) (r : Refusal) → IsRefused bytes r → s ≡ Refused r
    → text ≡ refusal_line [] r → Reports (certifying bytes) text s
unread_certificate s r is status same = record {
  meaning = refused r [];
  is_meaning = of_untyped {fuel = 0} (of_refusal is);
  is_text = same;
  is_status = status;
}

pub unread_typing : {bytes certificate text : List ℕ} (s : Status) (r : Refusal) → IsRefused bytes r → s ≡ Refused r
    → text ≡ refusal_line [] r → Reports (rechecking certificate bytes) text s
unread_typing s r is status same =
    record { meaning = refused r []; is_meaning = of_unread is; is_text = same; is_status = status }

module _ (bytes : List ℕ) (p : Program) (read : IsRead bytes (named_program_of p)) where
  pub untyped_certificate : (text : List ℕ) (s : Status) (r : Refusal) → IsFirstRefusal (program_of p) r → s ≡ Refused r
      → text ≡ refusal_line (map (λ (i : Item). i.name) p.items) r → Reports (certifying bytes) text s
  untyped_certificate text s r is status same = record {
    meaning = refused r (names_of (named_program_of p));
    is_meaning =
        of_untyped {fuel = 0}
        (of_types (named_program_of p) read (subst (λ q. IsFirstRefusal q r) (sym (unnamed_program p)) is));
    is_text = same ∙ ap (λ names. refusal_line names r) (sym (names_of_program p));
    is_status = status;
  }

  -- the certificate, and whether a text is one
  pub certificate_report : (text : List ℕ) → Typable (program_of p) → NoneTooBig (program_of p)
      → IsCertificateOf (program_of p) text → Reports (certifying bytes) text Answer
  certificate_report text typable small is = record {
    meaning = certified text;
    is_meaning =
        of_certificate (named_program_of p) read
        (record {
          typable = subst Typable (sym (unnamed_program p)) typable;
          small = subst NoneTooBig (sym (unnamed_program p)) small;
        })
        (subst (λ q. IsCertificateOf q text) (sym (unnamed_program p)) is);
    is_text = refl;
    is_status = refl;
  }

  pub typing_report : (certificate text : List ℕ) (typed : Bool) (s : Status)
      → Rechecks typed certificate (program_of p) → text ≡ typing_line typed → s ≡ status_of (rechecked typed)
      → Reports (rechecking certificate bytes) text s
  typing_report certificate text typed s is same status = record {
    meaning = rechecked typed;
    is_meaning =
        of_recheck (named_program_of p) read
        (subst (λ q. Rechecks typed certificate q) (sym (unnamed_program p)) is);
    is_text = same;
    is_status = status;
  }

-- A front that is longer than any source means what the whole does.
whole_unread : (bytes : List ℕ) (r : Refusal) → IsRefused (take most_of_source bytes) r → IsRefused bytes r
whole_unread bytes r (too_large large) = too_large (large_whole bytes large)
whole_unread bytes r (at_bytes small f) = subst (λ b. IsRefused b r) (small_front bytes small) (at_bytes small f)
whole_unread bytes r (at_tokens tokens small are f) =
    subst (λ b. IsRefused b r) (small_front bytes small) (at_tokens tokens small are f)
whole_unread bytes r (at_names tokens surface f small are is first e) =
    subst (λ b. IsRefused b r) (small_front bytes small) (at_names tokens surface f small are is first e)

certified_front : {front : List ℕ} {m : Meaning} → IsMeaning (certifying front) m → (bytes : List ℕ)
    → front ≡ take most_of_source bytes → IsMeaning (certifying bytes) m
certified_front (of_untyped h) bytes is = of_untyped (whole_refused is h)
certified_front (of_certificate p read accepted c) bytes is = of_certificate p (whole_read is read) accepted c

pub means_certified : (bytes : List ℕ) (m : Meaning) → IsMeaning (certifying (take most_of_source bytes)) m
    → IsMeaning (certifying bytes) m
means_certified bytes m h = certified_front h bytes refl

rechecked_front : {front text : List ℕ} {m : Meaning} → IsMeaning (rechecking text front) m → (bytes : List ℕ)
    → front ≡ take most_of_source bytes → IsMeaning (rechecking text bytes) m
rechecked_front (of_unread {r = r} h) bytes is =
    of_unread (whole_unread bytes r (subst (λ b. IsRefused b r) is h))
rechecked_front (of_recheck p read c) bytes is = of_recheck p (whole_read is read) c

pub means_rechecked : (text bytes : List ℕ) (m : Meaning)
    → IsMeaning (rechecking text (take most_of_source bytes)) m → IsMeaning (rechecking text bytes) m
means_rechecked text bytes m h = rechecked_front h bytes refl

-- What was carried out of a work was carried out of another that means whatever it does.
module _ {work : Work} (other : Work) (means : (m : Meaning) → IsMeaning work m → IsMeaning other m) where
  faithful_as : (x : Extent) (s : Status) (before after : List ℕ) → IsFaithful x work s before after
      → IsFaithful x other s before after
  faithful_as nothing s before after h = h
  faithful_as a_front s before after (inl same) = inl same
  faithful_as a_front s before after (inr (text, o, grows)) = inr (
    text,
    record { meaning = o.meaning; is_meaning = means o.meaning o.is_meaning; is_text = o.is_text },
    grows,
  )
  faithful_as whole s before after (text, r, same) = (
    text,
    record {
      meaning = r.meaning;
      is_meaning = means r.meaning r.is_meaning;
      is_text = r.is_text;
      is_status = r.is_status;
    },
    same,
  )
  faithful_as unkept s before after (text, r, same) = (
    text,
    record {
      shown = r.shown;
      kernels = r.kernels;
      ending = r.ending;
      is_meaning = means _ r.is_meaning;
      is_text = r.is_text;
    },
    same,
  )
  faithful_as all_or_nothing s before after (inl same) = inl same
  faithful_as all_or_nothing s before after (inr (text, o, same)) = inr (
    text,
    record { meaning = o.meaning; is_meaning = means o.meaning o.is_meaning; is_text = o.is_text },
    same,
  )
  faithful_as unsaid s before after h = h
  faithful_as never s before after h = h

  pub carried_as : {kind : Kind} {s : Status} {tells : Bool} {before after : List ℕ}
      → IsCarriedOut kind work s tells before after → IsCarriedOut kind other s tells before after
  carried_as {kind} {s} {tells} {before} {after} c = record {
    faithful = λ t. faithful_as (extent kind s) s before after (c.faithful t);
    meaning = λ w. let m = c.meaning w in (m.0, means m.0 m.1, m.2);
    said = c.said;
  }

-- what was carried out of a text and a source, of those that are equal to them
pub carried_of : {s : Status} {tells : Bool} {before after : List ℕ} {t u b d : List ℕ} → t ≡ u → b ≡ d
    → IsCarriedOut on_a_file (rechecking t b) s tells before after
    → IsCarriedOut on_a_file (rechecking u d) s tells before after
carried_of {s} {tells} {before} {after} {t} {u} {b} {d} same equal c =
    subst (λ x. IsCarriedOut on_a_file (rechecking x d) s tells before after) same
    (subst (λ x. IsCarriedOut on_a_file (rechecking t x) s tells before after) equal c)

-- What an answer of a certificate says.
no_refusal : {r : Refusal} → Answer ≡ Refused r → ⊥
no_refusal e = cc

certified_as : {bytes : List ℕ} {m : Meaning} → IsMeaning (certifying bytes) m → Answer ≡ status_of m
    → IsCertified bytes (text_of m)
certified_as (of_untyped h) e = absurd (no_refusal e)
certified_as (of_certificate p read accepted is) e =
    record { program = p; read = read; typable = accepted.typable; certifies = (is.0, is.1, is.2.right) }

pub certificate_said : (bytes : List ℕ) {s : Status} {tells : Bool} {before after : List ℕ}
    → IsCarriedOut on_a_file (certifying bytes) s tells before after → s ≡ Answer
    → (text : List ℕ) × IsCertified bytes text × (IsTrue tells → after ≡ before ++ text)
certificate_said bytes {s} {tells} {before} {after} c is =
    let w : extent on_a_file s ≡ whole = subst (λ t. extent on_a_file t ≡ whole) (sym is) refl in
    let m = c.meaning w in (
      text_of m.0,
      certified_as m.1 (sym is ∙ m.2),
      λ t.
          let f = subst (λ x. IsFaithful x (certifying bytes) s before after) w (c.faithful t) in
          f.2 ∙ ap (λ x. before ++ x) (f.1.is_text
          ∙ ap text_of (one_meaning (certifying bytes) f.1.meaning m.0 f.1.is_meaning m.1)),
    )

-- What is said of a text: it certifies the source, or it doesn't. Of a longer text a front is judged.
pub fits_front : (text : List ℕ) → length (take most_of_certificate text) ≤ 67108864
    → take most_of_certificate text ≡ text
fits_front text within = let short = rw length-take at within in take_all most_of_certificate text (omega arith)

pub fits_whole : (text : List ℕ) → length text ≤ 67108864 → take most_of_certificate text ≡ text
fits_whole text within = take_all most_of_certificate text (omega (arith, within))

typed_is_not : Answer ≡ NotTyped → ⊥
typed_is_not e = cc

untyped_is_not : NotTyped ≡ Answer → ⊥
untyped_is_not e = cc

unread_is_not : {r : Refusal} → NotTyped ≡ Refused r → ⊥
unread_is_not e = cc

module _ (front text bytes : List ℕ) (fits : length front ≤ 67108864 → front ≡ text)
    (whole_fits : length text ≤ 67108864 → front ≡ text) where
  typed_as : {m : Meaning} → IsMeaning (rechecking front bytes) m → Answer ≡ status_of m → IsCertified bytes text
  typed_as (of_unread r) e = absurd (no_refusal e)
  typed_as (of_recheck {typed = true} p read is) e =
      let certifies = subst (λ t. Certifies t (unnamed p)) (fits is.within) is.certifies in
      record {
        program = p;
        read = read;
        typable = certified_are_typable text (unnamed p) (is_resolved bytes p read).values certifies;
        certifies = certifies;
      }
  typed_as (of_recheck {typed = false} p read is) e = absurd (typed_is_not e)

  untyped_as : {m : Meaning} → IsMeaning (rechecking front bytes) m → NotTyped ≡ status_of m
      → IsUncertified bytes text
  untyped_as (of_unread r) e = absurd (unread_is_not e)
  untyped_as (of_recheck {typed = true} p read is) e = absurd (untyped_is_not e)
  untyped_as (of_recheck {typed = false} p read not) e = record {
    program = p;
    read = read;
    uncertified = λ c. not (subst (λ t. CertifiesWithin t (unnamed p)) (sym (whole_fits c.within)) c);
  }

  pub typing_on : (s : Status)
      → (extent on_a_file s ≡ whole
      → (m : Meaning) × IsMeaning (rechecking front bytes) m × (s ≡ status_of m))
      → IsTypingVerdict s text bytes
  typing_on Answer says = let m = says refl in typed_as m.1 m.2
  typing_on NotTyped says = let m = says refl in untyped_as m.1 m.2
  typing_on s says = tt
