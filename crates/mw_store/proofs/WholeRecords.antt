-- Whether the parts that begin bytes are a whole record.
use Rattle.std.proofs.Common.{◌≡◌, ℕ, ◌+◌, ◌<◌, List, ◌++◌, length, refl, sym, ap, ◌∙◌, subst, append_assoc}
use Rattle.std.proofs.lemmas.List.{length-append}
use Rattle.sha2.specs.Sha256.{sha256}
use Rattle.sha2.proofs.Facts256.{length-sha256}
use Rattle.mw_store.specs.Records.{Kept, four, body_of, record_bytes, IsWhole}
use Rattle.mw_store.specs.Loads.{Begins}
use Rattle.mw_store.specs.Parts.{IsCutFrom, kept_in}
use Rattle.mw_store.specs.Whole.{HasKernelModule, NoKernelModule}
use Rattle.mw_store.specs.declared.parts.Parts.{Parts}
use Rattle.mw_store.proofs.Files.{front_same, short_of}
use Rattle.mw_store.proofs.RecordParts.{AreCut, cut_of}

-- the parts as they were cut
cut_again : (p : Parts) (bytes : List ℕ) (c : IsCutFrom p bytes)
    → AreCut bytes (length p.text.now) (length p.module.now) p.text.now p.module.now (p.digest.now ++ c.rest)
cut_again p bytes c =
    let t = p.text.now in let m = p.module.now in let last = p.digest.now ++ c.rest in
    record {
      small_text = c.short_text;
      small_wasm = c.short_module;
      first = four (length m) ++ (t ++ (m ++ last));
      second = t ++ (m ++ last);
      third = m ++ last;
      text_length = c.whole ∙ ap (λ xs. xs ++ last) c.body ∙ ap (λ xs. four (length t) ++ (four (length m) ++ xs))
          (append_assoc t m last);
      wasm_length = refl;
      text_is = refl;
      text_long = refl;
      wasm_is = refl;
      wasm_long = refl;
    }

-- a whole record that begins the bytes is kept of these parts, whose digest is right
pub parts_are : (p : Parts) (bytes : List ℕ) → IsCutFrom p bytes → (r : Kept) → Begins bytes r
    → (r ≡ kept_in p) × (p.digest.now ≡ sha256 p.body.now)
parts_are p bytes c r begun =
    let last = p.digest.now ++ c.rest in
    let same = cut_of bytes (length p.text.now) (length p.module.now) p.text.now p.module.now last
    (cut_again p bytes c) r begun.1.0
    (short_of r begun.0) begun.0.short begun.1.1 in
    let is : r ≡ kept_in p = λ i. record { text = sym same.0 i; bytes = sym same.1 i } in
    let digest = front_same p.digest.now (sha256 (body_of r)) c.rest begun.1.0
    (c.digest ∙ sym (length-sha256 (body_of r))) same.2 in
    (is, digest.0 ∙ ap (λ k. sha256 (body_of k)) is ∙ ap (λ xs. sha256 xs) (sym c.body))

-- how long the record is
pub parts_length : (p : Parts) (bytes : List ℕ) → IsCutFrom p bytes → length
    (record_bytes (kept_in p)) ≡ length p.body.now + 32
parts_length p bytes c =
    let body = body_of (kept_in p) in
    length-append body (sha256 body) ∙ ap (λ n. length body + n) (length-sha256 body) ∙ ap (λ xs. length xs + 32)
    (sym c.body)

-- no whole record begins the bytes where the parts are too long, or the digest is wrong, or there is no module
pub too_long : (p : Parts) (bytes : List ℕ) (room : ℕ) → IsCutFrom p bytes → room < length p.body.now + 32
    → (r : Kept) → Begins bytes r → room < length (record_bytes r)
too_long p bytes room c long r begun =
    let is = (parts_are p bytes c r begun).0 in
    subst (λ k. room < length (record_bytes k)) (sym is) (subst (λ n. room < n) (sym (parts_length p bytes c)) long)

pub damaged : (p : Parts) (bytes : List ℕ) → IsCutFrom p bytes → (p.digest.now ≡ sha256 p.body.now → ⊥) → (r : Kept)
    → Begins bytes r → ⊥
damaged p bytes c wrong r begun = wrong ((parts_are p bytes c r begun).1)

pub no_module : (p : Parts) (bytes : List ℕ) → IsCutFrom p bytes → NoKernelModule p.text.now p.module.now → (r : Kept)
    → Begins bytes r → ⊥
no_module p bytes c none r begun =
    let whole = subst IsWhole ((parts_are p bytes c r begun).0) begun.0 in
    none whole.wasm (whole.kind, (whole.version, whole.code, whole.is_text), whole.has_module)

-- and else one does
pub whole_begins : (p : Parts) (bytes : List ℕ) → IsCutFrom p bytes → p.digest.now ≡ sha256 p.body.now
    → HasKernelModule p.text.now p.module.now → Begins bytes (kept_in p)
whole_begins p bytes c right has = (
  record {
    short = c.short_module;
    version = has.1.1.0;
    code = has.1.1.1;
    kind = has.1.0;
    is_text = has.1.1.2;
    wasm = has.0;
    has_module = has.1.2;
  },
  (
    c.rest,
    c.whole ∙ ap (λ xs. xs ++ (p.digest.now ++ c.rest)) c.body ∙ ap (λ xs. body_of (kept_in p) ++ (xs ++ c.rest))
        (right ∙ ap (λ xs. sha256 xs) c.body)
        ∙ sym (append_assoc (body_of (kept_in p)) (sha256 (body_of (kept_in p))) c.rest),
  ),
)
