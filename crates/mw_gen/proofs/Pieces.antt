-- Pieces of the binary format that a bounded number of bytes spells.
use Rattle.std.proofs.Common.{◌≡◌, ◌≤◌, ◌<◌, ℕ, suc, ◌+◌, ◌*◌, ◌-◌, ◌^◌, List, [], ◌∷◌, ◌++◌, length, ℤ, pos, negsuc}
use Rattle.std.proofs.Common.{refl, sym, ap, subst, inl, inr, arith}
use Rattle.std.specs.Prelude.{FitsSigned, Some, ◌-ℤ◌, ◌≤ℤ◌, ◌<ℤ◌}
use Rattle.std.specs.Int.{w64, cast_unsigned}
use Rattle.std.specs.List.{AllByRecursion}
use Rattle.std.proofs.Math.Dec.{le→leb, lt→ltb}
use Rattle.std.proofs.lemmas.List.{length-append}
use Rattle.mw_wasm.specs.declared.values.ValType.TheVariants.{I64}
use Rattle.mw_wasm.specs.declared.modules.Limits.{Limits}
use Rattle.mw_wasm.specs.declared.modules.Exported.TheVariants.{Func}
use Rattle.mw_wasm.specs.Leb.{IsUnsigned, IsSigned, unsigned_of}
use Rattle.mw_wasm.specs.Pieces.{Piece, byte, octet, i32, ◌then◌, u32, items, vector, sized}
use Rattle.mw_wasm.specs.BinaryInstructions.{instruction, expression, value_type}
use Rattle.mw_wasm.specs.BinaryModules.{function_type, table, limits, limits_of, global, export, section}
use Rattle.mw_wasm.specs.BinaryModules.{customs, import_section, header}
use Rattle.mw_wasm.specs.Profile.{IsPrintable}
use Rattle.mw_wasm.specs.Syntax.{const_i32, const_i64, end, next}
use Rattle.mw_leb.proofs.Groups.{unsigned_shortest, signed_shortest}
use Rattle.mw_leb.specs.Shortest.{shortest_unsigned, shortest_signed}
use Rattle.mw_encode.specs.Encoding.{Spelled}
use Rattle.mw_meaning.specs.Shapes.{init_type}
use Rattle.mw_gen.specs.Generate.{closure_type, heap_end}

-- at most k bytes spell it
pub record SpelledWithin (k : ℕ) (P : List ℕ → Type 0) : Type 0 where
  pub bytes : List ℕ
  pub spell : P bytes
  pub short : length bytes ≤ k

pub spelled : {k : ℕ} {P : List ℕ → Type 0} → SpelledWithin k P → Spelled P
spelled s = record { bytes = s.bytes; spell = s.spell }

pub within_then : {j k : ℕ} {P Q : List ℕ → Type 0} → SpelledWithin j P → SpelledWithin k Q
    → SpelledWithin (j + k) (P then Q)
within_then s t = record {
  bytes = s.bytes ++ t.bytes;
  spell = record { front = s.bytes; back = t.bytes; whole = refl; first = s.spell; second = t.spell };
  short = let h = length-append s.bytes t.bytes in let p = s.short in let q = t.short in omega arith;
}

pub within_more : {j : ℕ} (k : ℕ) {P : List ℕ → Type 0} → j ≤ k → SpelledWithin j P → SpelledWithin k P
within_more k h s = record { bytes = s.bytes; spell = s.spell; short = let p = s.short in omega arith }

pub within_byte : (b : ℕ) → SpelledWithin 1 (byte b)
within_byte b = record { bytes = b ∷ []; spell = refl; short = omega arith }

-- a number of 32 bits has at most 5 bytes, and one of 64 bits at most 10
pub unsigned_length : (bytes : List ℕ) (N v : ℕ) → IsUnsigned N bytes v → 7 * length bytes ≤ N + 7
unsigned_length [] N v h = absurd (h)
unsigned_length (b ∷ []) N v h = omega arith
unsigned_length (b ∷ c ∷ bytes) N v h = let more = unsigned_length (c ∷ bytes) (N - 7) h.3.0 h.3.1 in let big = h.2 in
    omega arith

pub signed_length : (bytes : List ℕ) (N : ℕ) (v : ℤ) → IsSigned N bytes v → 7 * length bytes ≤ N + 7
signed_length [] N v h = absurd (h)
signed_length (b ∷ []) N v h = omega arith
signed_length (b ∷ c ∷ bytes) N v h = let more = signed_length (c ∷ bytes) (N - 7) h.3.0 h.3.1 in let big = h.2 in
    omega arith

pub within_u32 : (n : ℕ) → n < 2 ^ 32 → SpelledWithin 5 (u32 n)
within_u32 n h =
    let s = unsigned_shortest 32 n (omega arith) h in
    record {
      bytes = shortest_unsigned n;
      spell = s.spells;
      short = let p = unsigned_length (shortest_unsigned n) 32 n
          s.spells in omega arith;
    }

-- a content of few enough bytes, after its size
pub within_sized : {k : ℕ} {P : List ℕ → Type 0} → k < 2 ^ 32 → SpelledWithin k P → SpelledWithin (5 + k) (sized P)
within_sized h s =
    let small : length s.bytes < 2 ^ 32 = (let p = s.short in omega arith) in
    let n = within_u32 (length s.bytes) small in
    record {
      bytes = n.bytes ++ s.bytes;
      spell = record { size = n.bytes; content = s.bytes; whole = refl; counted = n.spell; inside = s.spell };
      short = let e = length-append n.bytes s.bytes in let p = n.short in let q = s.short in omega arith;
    }

-- vectors and sections
pub within_nil : {A : Type 0} (P : A → Piece) → SpelledWithin 0 (items P [])
within_nil P = record { bytes = []; spell = refl; short = omega arith }

pub within_cons : {A : Type 0} {j k : ℕ} (P : A → Piece) (x : A) (xs : List A) → SpelledWithin j (P x)
    → SpelledWithin k (items P xs) → SpelledWithin (j + k) (items P (x ∷ xs))
within_cons P x xs s t = within_then s t

pub within_vector : {A : Type 0} {k : ℕ} (P : A → Piece) (xs : List A) → length xs < 2 ^ 32
    → SpelledWithin k (items P xs) → SpelledWithin (5 + k) (vector P xs)
within_vector P xs h s = within_then (within_u32 (length xs) h) s

pub within_section : {A : Type 0} {k : ℕ} (id : ℕ) (P : A → Piece) (xs : List A) → k < 2 ^ 32
    → SpelledWithin k (vector P xs) → SpelledWithin (6 + k) (section id P xs)
within_section id P xs h s =
    let t = within_then (within_byte id) (within_sized h s) in
    record { bytes = t.bytes; spell = inr t.spell; short = let p = t.short in omega arith }

pub within_absent : {A : Type 0} (id : ℕ) (P : A → Piece) → SpelledWithin 0 (section id P [])
within_absent id P = record { bytes = []; spell = inl (refl, refl); short = omega arith }

-- a constant
pub one_more : (n : ℕ) → suc n ≡ n + 1
one_more n = omega arith

pub unsigned_is : (z : ℤ) → cast_unsigned w64 z ≡ unsigned_of 64 z
unsigned_is (pos n) = refl
unsigned_is (negsuc n) = ap (λ k. 2 ^ 64 - k) (one_more n)

pub lower : (z : ℤ) → FitsSigned w64 z → (pos 0 -ℤ pos (2 ^ 63)) ≤ℤ z
lower (pos n) h = omega arith
lower (negsuc n) h = omega (arith, le→leb)

pub upper : (z : ℤ) → FitsSigned w64 z → z <ℤ pos (2 ^ 63)
upper (pos n) h = omega (arith, lt→ltb)
upper (negsuc n) h = omega arith

pub constant_spelled : (z : ℤ) → FitsSigned w64 z → SpelledWithin 11 (instruction (const_i64 (cast_unsigned w64 z)))
constant_spelled z h =
    let s = signed_shortest 64 z (omega arith) (lower z h) (upper z h) in
    within_then {k = 10} (within_byte 0x42) record {
      bytes = shortest_signed z;
      spell = (z, s.spells, unsigned_is z);
      short = let p = signed_length (shortest_signed z) 64 z s.spells in omega arith;
    }

-- the concrete parts of the module
pub customs_within : SpelledWithin 0 customs
customs_within = record { bytes = []; spell = record { contents = []; spelled = refl }; short = omega arith }

pub no_imports : SpelledWithin 0 import_section
no_imports = record { bytes = []; spell = inl refl; short = omega arith }

pub header_within : SpelledWithin 8 header
header_within = record { bytes = _; spell = refl; short = omega arith }

pub one_result : SpelledWithin 6 (vector value_type (I64 ∷ []))
one_result = within_vector value_type (I64 ∷ []) (omega arith)
    (within_cons value_type I64 [] (within_byte 0x7E) (within_nil value_type))

pub closure_within : SpelledWithin 14 (function_type closure_type)
closure_within =
    let params = within_vector {k = 2} value_type (I64 ∷ I64 ∷ []) (omega arith)
    (within_cons {j = 1} {k = 1} value_type I64 (I64 ∷ []) (within_byte 0x7E)
    (within_cons value_type I64 [] (within_byte 0x7E) (within_nil value_type))) in
    within_then {j = 1} {k = 13} (within_byte 0x60) (within_then {j = 7} {k = 6} params one_result)

pub init_within : SpelledWithin 12 (function_type init_type)
init_within = within_then {j = 1} {k = 11} (within_byte 0x60)
    (within_then {j = 5} {k = 6} (within_vector {k = 0} value_type [] (omega arith) (within_nil value_type)) one_result)

-- a vector of one item
pub within_one : {A : Type 0} {k : ℕ} (P : A → Piece) (x : A) → SpelledWithin k (P x)
    → SpelledWithin (5 + (k + 0)) (vector P (x ∷ []))
within_one P x s = within_vector P (x ∷ []) (omega arith) (within_cons P x [] s (within_nil P))

pub both_limits : (l : Limits) (n : ℕ) → l.max ≡ Some n → l.min < 2 ^ 32 → n < 2 ^ 32 → SpelledWithin 11 (limits l)
both_limits l n e h g = subst (λ m. SpelledWithin 11 (limits_of l.min m)) (sym e)
    (within_then {j = 1} {k = 10} (within_byte 0x01)
    (within_then {j = 5} {k = 5} (within_u32 l.min h) (within_u32 n g)))

pub table_within : (l : Limits) (n : ℕ) → l.max ≡ Some n → l.min < 2 ^ 32 → n < 2 ^ 32
    → SpelledWithin 23 (section 4 table (l ∷ []))
table_within l n e h g = within_section {k = 17} 4 table (l ∷ []) (omega arith)
    (within_one {k = 12} table l (within_then {j = 1} {k = 11} (within_byte 0x70) (both_limits l n e h g)))

pub memory_within : (l : Limits) (n : ℕ) → l.max ≡ Some n → l.min < 2 ^ 32 → n < 2 ^ 32
    → SpelledWithin 22 (section 5 limits (l ∷ []))
memory_within l n e h g = within_section {k = 16} 5 limits (l ∷ []) (omega arith)
    (within_one {k = 11} limits l (both_limits l n e h g))

pub zero_within : SpelledWithin 1 (i32 0)
zero_within = record {
  bytes = 0 ∷ [];
  spell = (pos 0, inl (omega arith, omega arith, refl), refl);
  short =
      omega arith;
}

pub zero_code_within : SpelledWithin 3 (expression (next (const_i32 0) end))
zero_code_within =
    within_then {j = 2} {k = 1}
    (within_then {j = 2} {k = 0} (within_then {j = 1} {k = 1} (within_byte 0x41) zero_within) record
    { bytes = []; spell = refl; short = omega arith }) (within_byte 0x0B)

pub globals_within : SpelledWithin 16 (section 6 global (heap_end ∷ []))
globals_within = within_section {k = 10} 6 global (heap_end ∷ []) (omega arith)
    (within_one {k = 5} global heap_end
    (within_then {j = 1} {k = 4} (within_byte 0x7F)
    (within_then {j = 1} {k = 3} (within_byte 0x01) zero_code_within)))

pub octet_within : (b : ℕ) → b < 2 ^ 8 → SpelledWithin 1 (octet b)
octet_within b h = record { bytes = b ∷ []; spell = (h, refl); short = omega arith }

pub named_within : (name : List ℕ) → AllByRecursion IsPrintable name → SpelledWithin (length name) (items octet name)
named_within [] h = within_nil octet
named_within (b ∷ name) h =
    within_more (length (b ∷ name)) (omega arith) (within_then {j = 1} (octet_within b (let q = h.0.1 in omega arith))
    (named_within name h.1))

-- a function's export
pub export_within : (name : List ℕ) (n : ℕ) → AllByRecursion IsPrintable name → length name < 2 ^ 32 → n < 2 ^ 32
    → SpelledWithin (5 + length name + 6) (export record { name = name; what = Func n })
export_within name n h short lt = within_then (within_vector octet name short (named_within name h))
    (within_then {j = 1} {k = 5} (within_byte 0x00) (within_u32 n lt))
