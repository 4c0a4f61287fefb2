-- Parts that are cut from bytes, one after another.
use Rattle.std.proofs.Common.{◌≡◌, ℕ, ◌+◌, ◌^◌, ◌<◌, List, ◌++◌, length, take, refl, sym, ap, ◌∙◌, append_assoc, arith}
use Rattle.std.proofs.lemmas.List.{length-append}
use Rattle.std.proofs.Math.Seq.{take-append_seam}
use Rattle.sha2.specs.Sha256.{sha256}
use Rattle.sha2.proofs.Facts256.{length-sha256}
use Rattle.mw_store.specs.Records.{Kept, four, body_of, record_bytes}
use Rattle.mw_store.proofs.Files.{front_same, four_same, flat}

-- both lengths, a text and a module's bytes were cut from the bytes
pub record AreCut (bytes : List ℕ) (n m : ℕ) (text wasm last : List ℕ) : Type 0 where
  pub small_text : n < 2 ^ 32
  pub small_wasm : m < 2 ^ 32
  pub first : List ℕ
  pub second : List ℕ
  pub third : List ℕ
  pub text_length : bytes ≡ four n ++ first
  pub wasm_length : first ≡ four m ++ second
  pub text_is : second ≡ text ++ third
  pub text_long : length text ≡ n
  pub wasm_is : third ≡ wasm ++ last
  pub wasm_long : length wasm ≡ m

-- a record that begins the bytes has these parts, and its digest is next
pub cut_of : (bytes : List ℕ) (n m : ℕ) (text wasm last : List ℕ) → AreCut bytes n m text wasm last
    → (r : Kept) (rest : List ℕ) → length r.text < 2 ^ 32 → length r.bytes < 2 ^ 32 → bytes ≡ record_bytes r ++ rest
    → (text ≡ r.text) × (wasm ≡ r.bytes) × (last ≡ sha256 (body_of r) ++ rest)
cut_of bytes n m text wasm last cut r rest rt rb h =
    let a = front_same (four n) (four (length r.text)) _ _ refl (sym cut.text_length ∙ h ∙ flat r rest) in
    let b = front_same (four m) (four (length r.bytes)) _ _ refl (sym cut.wasm_length ∙ a.1) in
    let t = front_same text r.text _ _ (cut.text_long ∙ four_same n (length r.text) cut.small_text rt a.0)
    (sym cut.text_is ∙ b.1) in
    let w = front_same wasm r.bytes _ _ (cut.wasm_long ∙ four_same m (length r.bytes) cut.small_wasm rb b.0)
    (sym cut.wasm_is ∙ t.1) in
    (t.0, w.0, w.1)

pub cut_too_short : (bytes : List ℕ) (n m : ℕ) (text wasm last : List ℕ) → AreCut bytes n m text wasm last
    → length last < 32
    → (r : Kept) (rest : List ℕ) → length r.text < 2 ^ 32 → length r.bytes < 2 ^ 32 → bytes ≡ record_bytes r ++ rest
    → ⊥
cut_too_short bytes n m text wasm last cut short r rest rt rb h =
    let is = (cut_of bytes n m text wasm last cut r rest rt rb h).2 in
    let long : length last ≡ length (sha256 (body_of r)) + length rest = ap (λ xs. length xs) is ∙ length-append
    (sha256 (body_of r)) rest in
    let digest = length-sha256 (body_of r) in absurd (omega (arith, long, digest))

-- what stands before the digest
abbrev pub before : (text wasm : List ℕ) → List ℕ
before text wasm = four (length text) ++ four (length wasm) ++ text ++ wasm

pub cut_before : (bytes : List ℕ) (n m : ℕ) (text wasm last : List ℕ) → AreCut bytes n m text wasm last
    → bytes ≡ before text wasm ++ last
cut_before bytes n m text wasm last cut =
    cut.text_length ∙ ap (λ xs. four n ++ xs)
    (cut.wasm_length ∙ ap (λ xs. four m ++ xs)
    (cut.text_is ∙ ap (λ xs. text ++ xs) cut.wasm_is ∙ sym (append_assoc text wasm last)))
    ∙ ap (λ k. four k ++ (four m ++ ((text ++ wasm) ++ last))) (sym cut.text_long) ∙ ap
    (λ k. four (length text) ++ (four k ++ ((text ++ wasm) ++ last))) (sym cut.wasm_long)

pub before_length : (text wasm : List ℕ) → length (before text wasm) ≡ 8 + length text + length wasm
before_length text wasm =
    length-append (four (length text)) (four (length wasm) ++ (text ++ wasm))
    ∙ ap (λ n. 4 + n) (length-append (four (length wasm)) (text ++ wasm) ∙ ap (λ n. 4 + n) (length-append text wasm))
    ∙ omega arith

pub cut_front : (bytes : List ℕ) (n m : ℕ) (text wasm last : List ℕ) → AreCut bytes n m text wasm last
    → take (8 + length text + length wasm) bytes ≡ before text wasm
cut_front bytes n m text wasm last cut =
    ap (λ k. take k bytes) (sym (before_length text wasm)) ∙ ap (λ xs. take (length (before text wasm)) xs)
    (cut_before bytes n m text wasm last cut)
    ∙ take-append_seam (before text wasm) last
