-- The worked examples of the binary format, cut into their pieces.
use Rattle.std.proofs.Common.{◌≡◌, ℕ, zero, suc, ◌<◌, ◌≤◌, ◌^◌, ◌-◌, T, ltb, ltb→lt, lit<, lit≤, ℤ, pos, negsuc, inl}
use Rattle.std.proofs.Common.{inr, List, [], ◌∷◌, length, take, drop, refl, sym, subst, arith}
use Rattle.std.specs.List.{AllByRecursion}
use Rattle.std.proofs.lemmas.List.{take-append-drop}
use Rattle.mw_wasm.specs.declared.values.ValType.TheVariants.{I32, I64}
use Rattle.mw_wasm.specs.declared.modules.FuncType.{FuncType}
use Rattle.mw_wasm.specs.Leb.{IsUnsigned, IsSigned, IsInteger}
use Rattle.mw_wasm.specs.Pieces.{Joined, Sized, octet}
use Rattle.mw_wasm.specs.BinaryInstructions.{expression}
use Rattle.mw_wasm.specs.BinaryModules.{function_type, limits, table, global, function_kind, export, element, locals}
use Rattle.mw_wasm.specs.BinaryModules.{function_code, section, Customs, at_most_one}
use Rattle.mw_wasm.specs.Syntax.{const_i64, end, next}
use Rattle.mw_wasm.specs.ExampleModules.{example_a, example_b, cube_body, closure_body, call_body}
use Rattle.mw_wasm.specs.Profile.{depth}
use Rattle.mw_wasm.specs.FormatExamples.{ExampleAIsSpelled, ExampleBIsSpelled, LongerIndexIsSpelled}
use Rattle.mw_wasm.specs.FormatExamples.{PaddedModuleIsSpelled, EmptyElseIsSpelled, ExamplesAreWithinProfile}
use Rattle.mw_wasm.specs.FormatExamples.{TwoResultsAreOutside, nested, DepthEndsAt500, SixBytesAreNoIndex}
use Rattle.mw_wasm.specs.FormatExamples.{UnusedBitsAreZero, MinusOneIsSpelled, UnusedBitsAreTheSign}

-- one piece of n bytes, and another
pub cut : (n : ℕ) {P Q : List ℕ → Type 0} {bytes : List ℕ} → P (take n bytes) → Q (drop n bytes) → Joined P Q bytes
cut n {bytes = bytes} p q = record {
  front = take n bytes;
  back = drop n bytes;
  whole = sym (take-append-drop n bytes);
  first = p;
  second = q;
}

-- a size of n bytes, and its piece
measured : (n : ℕ) {P : List ℕ → Type 0} {bytes : List ℕ} → IsUnsigned 32 (take n bytes) (length (drop n bytes))
    → P (drop n bytes) → Sized P bytes
measured n {bytes = bytes} h p =
    record {
      size = take n bytes;
      content = drop n bytes;
      whole = sym (take-append-drop n bytes);
      counted = h;
      inside =
          p;
    }

no_customs : Customs []
no_customs = record { contents = []; spelled = refl }

-- numbers of one byte
pub small : (b : ℕ) → T (ltb b 0x80) → IsUnsigned 32 (b ∷ []) b
small b t = let h : b < 2 ^ 7 = ltb→lt b 0x80 t in (h, omega arith, refl)

pub small_i32 : (b : ℕ) → T (ltb b 0x40) → IsInteger 32 (b ∷ []) b
small_i32 b t = let h : b < 2 ^ 6 = ltb→lt b 0x40 t in (pos b, inl (h, omega arith, refl), refl)

pub small_i64 : (b : ℕ) → T (ltb b 0x40) → IsInteger 64 (b ∷ []) b
small_i64 b t = let h : b < 2 ^ 6 = ltb→lt b 0x40 t in (pos b, inl (h, omega arith, refl), refl)

two_bytes : IsUnsigned 32 (0x81 ∷ 0x00 ∷ []) 1
two_bytes = (lit≤ tt, lit< tt, lit< tt, (0, (lit< tt, lit< tt, refl), refl))

-- a byte of data
datum : (b : ℕ) → T (ltb b 0x100) → octet b (b ∷ [])
datum b t = (ltb→lt b 0x100 t, refl)

no_locals : locals [] (0x00 ∷ [])
no_locals = record { runs = []; spelled = cut 1 (small 0 tt) refl; types_are = refl; few = lit< tt }

call_locals : locals (I64 ∷ I64 ∷ I32 ∷ []) (0x02 ∷ 0x02 ∷ 0x7E ∷ 0x01 ∷ 0x7F ∷ [])
call_locals = record {
  runs = record { count = 2; kind = I64 } ∷ record { count = 1; kind = I32 } ∷ [];
  spelled = cut 1 (small 2 tt) (cut 2 (cut 1 (small 2 tt) refl) (cut 2 (cut 1 (small 1 tt) refl) refl));
  types_are = refl;
  few = lit< tt;
}

types_a : section 1 function_type example_a.types (0x01 ∷ 0x0B ∷ 0x02 ∷ 0x60 ∷ 0x02 ∷ 0x7E ∷ 0x7E ∷ 0x01 ∷ 0x7E ∷ 0x60
    ∷ 0x00 ∷ 0x01 ∷ 0x7E ∷ [])
types_a = inr (cut 1 refl (measured 1 (small 11 tt) (cut 1 (small 2 tt)
    (cut 6 (cut 1 refl
    (cut 3 (cut 1 (small 2 tt) (cut 1 refl (cut 1 refl refl))) (cut 1 (small 1 tt) (cut 1 refl refl))))
    (cut 4 (cut 1 refl (cut 1 (cut 1 (small 0 tt) refl) (cut 1 (small 1 tt) (cut 1 refl refl)))) refl)))))

kinds_a : section 3 function_kind example_a.funcs (0x03 ∷ 0x02 ∷ 0x01 ∷ 0x01 ∷ [])
kinds_a = inr (cut 1 refl (measured 1 (small 2 tt) (cut 1 (small 1 tt) (cut 1 (small 1 tt) refl))))

tables_a : section 4 table (at_most_one example_a.table) (0x04 ∷ 0x05 ∷ 0x01 ∷ 0x70 ∷ 0x01 ∷ 0x00 ∷ 0x00 ∷ [])
tables_a = inr
    (cut 1 refl
    (measured 1 (small 5 tt)
    (cut 1 (small 1 tt) (cut 4 (cut 1 refl (cut 1 refl (cut 1 (small 0 tt) (small 0 tt)))) refl))))

memories_a : section 5 limits (at_most_one example_a.memory) (0x05 ∷ 0x04 ∷ 0x01 ∷ 0x01 ∷ 0x40 ∷ 0x40 ∷ [])
memories_a = inr
    (cut 1 refl
    (measured 1 (small 4 tt) (cut 1 (small 1 tt) (cut 3 (cut 1 refl (cut 1 (small 64 tt) (small 64 tt))) refl))))

globals_a : section 6 global example_a.globals (0x06 ∷ 0x06 ∷ 0x01 ∷ 0x7F ∷ 0x01 ∷ 0x41 ∷ 0x00 ∷ 0x0B ∷ [])
globals_a = inr (cut 1 refl (measured 1 (small 6 tt) (cut 1 (small 1 tt) (cut 5 (cut 1 refl (cut 1 refl (cut 2 (cut 2
    (cut 1 refl (small_i32 0 tt)) refl) refl))) refl))))

exports_a : section 7 export example_a.exports (0x07 ∷ 0x08 ∷ 0x01 ∷ 0x04 ∷ 0x69 ∷ 0x6E ∷ 0x69 ∷ 0x74 ∷ 0x00 ∷ 0x00
    ∷ [])
exports_a = inr
    (cut 1 refl
    (measured 1 (small 8 tt) (cut 1 (small 1 tt) (cut 7 (cut 5 (cut 1 (small 4 tt) (cut 1 (datum 0x69 tt) (cut 1 (datum
    0x6E tt) (cut 1 (datum 0x69 tt) (cut 1 (datum 0x74 tt) refl))))) (cut 1 refl (small 0 tt))) refl))))

spelled_seven : expression (next (const_i64 7) end) (0x42 ∷ 0x07 ∷ 0x0B ∷ [])
spelled_seven = cut 2 (cut 2 (cut 1 refl (small_i64 7 tt)) refl) refl

codes_a : section 10 function_code example_a.funcs (0x0A ∷ 0x06 ∷ 0x01 ∷ 0x04 ∷ 0x00 ∷ 0x42 ∷ 0x07 ∷ 0x0B ∷ [])
codes_a = inr (cut 1 refl
    (measured 1 (small 6 tt)
    (cut 1 (small 1 tt) (cut 5 (measured 1 (small 4 tt) (cut 1 no_locals (spelled_seven))) refl))))

pub example_a_is_spelled : ExampleAIsSpelled
example_a_is_spelled =
    cut 8 refl (cut 0 no_customs (cut 13 types_a (cut 0 no_customs (cut 0 (inl refl) (cut 0 no_customs (cut 4 kinds_a
    (cut 0 no_customs
    (cut 7 tables_a
    (cut 0 no_customs (cut 6 memories_a (cut 0 no_customs (cut 8 globals_a (cut 0 no_customs (cut 10 exports_a
    (cut 0 no_customs (cut 0 (inl (refl, refl)) (cut 0 no_customs (cut 8 codes_a (cut 0 no_customs
    (cut 0 (inl (refl, refl)) no_customs))))))))))))))))))))

kinds_longer : section 3 function_kind example_a.funcs (0x03 ∷ 0x03 ∷ 0x01 ∷ 0x81 ∷ 0x00 ∷ [])
kinds_longer = inr (cut 1 refl (measured 1 (small 3 tt) (cut 1 (small 1 tt) (cut 2 two_bytes refl))))

pub longer_index_is_spelled : LongerIndexIsSpelled
longer_index_is_spelled =
    cut 8 refl
    (cut 0 no_customs (cut 13 types_a (cut 0 no_customs (cut 0 (inl refl) (cut 0 no_customs (cut 5 kinds_longer
    (cut 0 no_customs
    (cut 7 tables_a
    (cut 0 no_customs (cut 6 memories_a (cut 0 no_customs (cut 8 globals_a (cut 0 no_customs (cut 10 exports_a
    (cut 0 no_customs (cut 0 (inl (refl, refl)) (cut 0 no_customs (cut 8 codes_a (cut 0 no_customs
    (cut 0 (inl (refl, refl)) no_customs))))))))))))))))))))

types_b : section 1 function_type example_b.types (0x01 ∷ 0x11 ∷ 0x03 ∷ 0x60 ∷ 0x02 ∷ 0x7E ∷ 0x7E ∷ 0x01 ∷ 0x7E ∷ 0x60
    ∷ 0x00 ∷ 0x01 ∷ 0x7E ∷ 0x60 ∷
    0x02 ∷ 0x7E ∷ 0x7E ∷ 0x01 ∷ 0x7E ∷ [])
types_b = inr (cut 1 refl (measured 1 (small 17 tt) (cut 1 (small 3 tt)
    (cut 6 (cut 1 refl
    (cut 3 (cut 1 (small 2 tt) (cut 1 refl (cut 1 refl refl))) (cut 1 (small 1 tt) (cut 1 refl refl))))
    (cut 4 (cut 1 refl (cut 1 (cut 1 (small 0 tt) refl) (cut 1 (small 1 tt) (cut 1 refl refl))))
    (cut 6 (cut 1 refl
    (cut 3 (cut 1 (small 2 tt) (cut 1 refl (cut 1 refl refl))) (cut 1 (small 1 tt) (cut 1 refl refl)))) refl))))))

kinds_b : section 3 function_kind example_b.funcs (0x03 ∷ 0x04 ∷ 0x03 ∷ 0x00 ∷ 0x01 ∷ 0x02 ∷ [])
kinds_b = inr (cut 1 refl
    (measured 1 (small 4 tt) (cut 1 (small 3 tt) (cut 1 (small 0 tt) (cut 1 (small 1 tt) (cut 1 (small 2 tt) refl))))))

tables_b : section 4 table (at_most_one example_b.table) (0x04 ∷ 0x05 ∷ 0x01 ∷ 0x70 ∷ 0x01 ∷ 0x01 ∷ 0x01 ∷ [])
tables_b = inr
    (cut 1 refl
    (measured 1 (small 5 tt)
    (cut 1 (small 1 tt) (cut 4 (cut 1 refl (cut 1 refl (cut 1 (small 1 tt) (small 1 tt)))) refl))))

memories_b : section 5 limits (at_most_one example_b.memory) (0x05 ∷ 0x04 ∷ 0x01 ∷ 0x01 ∷ 0x40 ∷ 0x40 ∷ [])
memories_b = inr
    (cut 1 refl
    (measured 1 (small 4 tt) (cut 1 (small 1 tt) (cut 3 (cut 1 refl (cut 1 (small 64 tt) (small 64 tt))) refl))))

globals_b : section 6 global example_b.globals (0x06 ∷ 0x06 ∷ 0x01 ∷ 0x7F ∷ 0x01 ∷ 0x41 ∷ 0x00 ∷ 0x0B ∷ [])
globals_b = inr (cut 1 refl (measured 1 (small 6 tt) (cut 1 (small 1 tt) (cut 5 (cut 1 refl (cut 1 refl (cut 2 (cut 2
    (cut 1 refl (small_i32 0 tt)) refl) refl))) refl))))

exports_b : section 7 export example_b.exports (0x07 ∷ 0x0F ∷ 0x02 ∷ 0x04 ∷ 0x69 ∷ 0x6E ∷ 0x69 ∷ 0x74 ∷ 0x00 ∷ 0x01
    ∷ 0x04 ∷ 0x63 ∷ 0x61 ∷ 0x6C ∷
    0x6C ∷ 0x00 ∷ 0x02 ∷ [])
exports_b = inr
    (cut 1 refl
    (measured 1 (small 15 tt) (cut 1 (small 2 tt) (cut 7 (cut 5 (cut 1 (small 4 tt) (cut 1 (datum 0x69 tt) (cut 1 (datum
    0x6E tt) (cut 1 (datum 0x69 tt) (cut 1 (datum 0x74 tt) refl))))) (cut 1 refl (small 1 tt)))
    (cut 7 (cut 5 (cut 1 (small 4 tt) (cut 1 (datum
    0x63 tt) (cut 1 (datum 0x61 tt) (cut 1 (datum 0x6C tt) (cut 1 (datum 0x6C tt) refl))))) (cut 1 refl (small 2 tt)))
    refl)))))

elements_b : section 9 element example_b.elements (0x09 ∷ 0x07 ∷ 0x01 ∷ 0x00 ∷ 0x41 ∷ 0x00 ∷ 0x0B ∷ 0x01 ∷ 0x00 ∷ [])
elements_b = inr
    (cut 1 refl (measured 1 (small 7 tt) (cut 1 (small 1 tt) (cut 6 (cut 1 (small 0 tt) (cut 3 (cut 2 (cut 2
    (cut 1 refl (small_i32 0 tt)) refl) refl) (cut 1 (small 1 tt) (cut 1 (small 0 tt) refl)))) refl))))

spelled_cube_body : expression cube_body (0x20 ∷ 0x01 ∷ 0x20 ∷ 0x01 ∷ 0x20 ∷ 0x01 ∷ 0x42 ∷ 0x01 ∷ 0x7E ∷ 0x7E ∷ 0x7E
    ∷ 0x0B ∷ [])
spelled_cube_body =
    cut 11 (cut 2 (cut 1 refl (small 1 tt)) (cut 2 (cut 1 refl (small 1 tt)) (cut 2 (cut 1 refl (small 1 tt)) (cut 2
    (cut 1 refl (small_i64 1 tt)) (cut 1 refl (cut 1 refl (cut 1 refl refl))))))) refl

spelled_closure_body : expression closure_body (0x23 ∷ 0x00 ∷ 0x42 ∷ 0x00 ∷ 0x37 ∷ 0x03 ∷ 0x00 ∷ 0x23 ∷ 0x00 ∷ 0xAD
    ∷ 0x23 ∷ 0x00 ∷ 0x41 ∷ 0x08 ∷
    0x6A ∷ 0x24 ∷ 0x00 ∷ 0x0B ∷ [])
spelled_closure_body = cut 17 (cut 2 (cut 1 refl (small 0 tt)) (cut 2 (cut 1 refl (small_i64 0 tt)) (cut 3 (cut 1 refl
    (cut 1 (small 3 tt) (small 0 tt)))
    (cut 2 (cut 1 refl (small 0 tt)) (cut 1 refl (cut 2 (cut 1 refl (small 0 tt)) (cut 2
    (cut 1 refl (small_i32 8 tt)) (cut 1 refl (cut 2 (cut 1 refl (small 0 tt)) refl))))))))) refl

spelled_call_body : expression call_body (0x23 ∷ 0x00 ∷ 0x21 ∷ 0x04 ∷ 0x20 ∷ 0x00 ∷ 0x20 ∷ 0x01 ∷ 0x21 ∷ 0x03 ∷ 0x22
    ∷ 0x02 ∷ 0x20 ∷ 0x03 ∷ 0x20 ∷
    0x02 ∷ 0xA7 ∷ 0x28 ∷ 0x02 ∷ 0x00 ∷ 0x11 ∷ 0x00 ∷ 0x00 ∷ 0x20 ∷ 0x04 ∷ 0x24 ∷ 0x00 ∷ 0x0B ∷ [])
spelled_call_body =
    cut 27 (cut 2 (cut 1 refl (small 0 tt)) (cut 2 (cut 1 refl (small 4 tt)) (cut 2 (cut 1 refl (small 0 tt)) (cut 2
    (cut 1 refl (small 1 tt))
    (cut 2 (cut 1 refl (small 3 tt)) (cut 2 (cut 1 refl (small 2 tt)) (cut 2 (cut 1 refl (small 3 tt)) (cut 2
    (cut 1 refl (small 2 tt))
    (cut 1 refl
    (cut 3 (cut 1 refl (cut 1 (small 2 tt) (small 0 tt))) (cut 3 (cut 1 refl (cut 1 (small 0 tt) refl)) (cut 2
    (cut 1 refl (small 4 tt)) (cut 2 (cut 1 refl (small 0 tt)) refl))))))))))))) refl

codes_b : section 10 function_code example_b.funcs (0x0A ∷ 0x45 ∷ 0x03 ∷ 0x0D ∷ 0x00 ∷ 0x20 ∷ 0x01 ∷ 0x20 ∷ 0x01 ∷ 0x20
    ∷ 0x01 ∷ 0x42 ∷ 0x01 ∷ 0x7E ∷
    0x7E ∷ 0x7E ∷ 0x0B ∷ 0x13 ∷ 0x00 ∷ 0x23 ∷ 0x00 ∷ 0x42 ∷ 0x00 ∷ 0x37 ∷ 0x03 ∷ 0x00 ∷ 0x23 ∷ 0x00 ∷ 0xAD ∷ 0x23 ∷ 0x00
    ∷ 0x41 ∷ 0x08 ∷ 0x6A ∷ 0x24 ∷
    0x00 ∷ 0x0B ∷ 0x21 ∷ 0x02 ∷ 0x02 ∷ 0x7E ∷ 0x01 ∷ 0x7F ∷ 0x23 ∷ 0x00 ∷ 0x21 ∷ 0x04 ∷ 0x20 ∷ 0x00 ∷ 0x20 ∷ 0x01 ∷ 0x21
    ∷ 0x03 ∷ 0x22 ∷ 0x02 ∷ 0x20 ∷
    0x03 ∷ 0x20 ∷ 0x02 ∷ 0xA7 ∷ 0x28 ∷ 0x02 ∷ 0x00 ∷ 0x11 ∷ 0x00 ∷ 0x00 ∷ 0x20 ∷ 0x04 ∷ 0x24 ∷ 0x00 ∷ 0x0B ∷ [])
codes_b = inr (cut 1 refl
    (measured 1 (small 69 tt)
    (cut 1 (small 3 tt) (cut 14 (measured 1 (small 13 tt) (cut 1 no_locals (spelled_cube_body)))
    (cut 20 (measured 1 (small 19 tt) (cut 1 no_locals (spelled_closure_body))) (cut 34 (measured 1 (small 33 tt)
    (cut 5 call_locals (spelled_call_body))) refl))))))

pub example_b_is_spelled : ExampleBIsSpelled
example_b_is_spelled =
    cut 8 refl (cut 0 no_customs (cut 19 types_b (cut 0 no_customs (cut 0 (inl refl) (cut 0 no_customs (cut 6 kinds_b
    (cut 0 no_customs
    (cut 7 tables_b
    (cut 0 no_customs (cut 6 memories_b (cut 0 no_customs (cut 8 globals_b (cut 0 no_customs (cut 17 exports_b
    (cut 0 no_customs
    (cut 9 elements_b
    (cut 0 no_customs (cut 71 codes_b (cut 0 no_customs (cut 0 (inl (refl, refl)) no_customs))))))))))))))))))))

two_customs : Customs (0x00 ∷ 0x02 ∷ 0x01 ∷ 0x48 ∷ 0x00 ∷ 0x02 ∷ 0xFF ∷ 0xFF ∷ [])
two_customs = record {
  contents = (0x01 ∷ 0x48 ∷ []) ∷ (0xFF ∷ 0xFF ∷ []) ∷ [];
  spelled = cut 4 (cut 1 refl (measured 1 (small 2 tt) refl)) (cut 4 (cut 1 refl (measured 1 (small 2 tt) refl)) refl);
}

one_custom : Customs (0x00 ∷ 0x01 ∷ 0x40 ∷ [])
one_custom = record { contents = (0x40 ∷ []) ∷ []; spelled = cut 3 (cut 1 refl (measured 1 (small 1 tt) refl)) refl }

empty_custom : Customs (0x00 ∷ 0x00 ∷ [])
empty_custom = record { contents = [] ∷ []; spelled = cut 2 (cut 1 refl (measured 1 (small 0 tt) refl)) refl }

pub padded_module_is_spelled : PaddedModuleIsSpelled
padded_module_is_spelled = cut 8 refl (cut 8 two_customs (cut 13 types_a
    (cut 0 no_customs (cut 3 (inr (cut 1 refl (measured 1 (small 1 tt) (small 0 tt))))
    (cut 0 no_customs (cut 4 kinds_a (cut 0 no_customs (cut 7 tables_a (cut 3 one_custom (cut 6 memories_a
    (cut 0 no_customs (cut 8 globals_a (cut 0 no_customs (cut 10 exports_a (cut 0 no_customs (cut 0 (inl (refl, refl))
    (cut 0 no_customs (cut 8 codes_a (cut 0 no_customs (cut 0 (inl (refl, refl)) empty_custom))))))))))))))))))))

pub examples_are_within_profile : ExamplesAreWithinProfile
examples_are_within_profile = record {
  module_a = record {
    type_results = (lit≤ tt, (lit≤ tt, tt));
    table_elements = lit≤ tt;
    memory_pages = lit≤ tt;
    further_locals = (lit≤ tt, tt);
    export_names = (((lit≤ tt, lit≤ tt), ((lit≤ tt, lit≤ tt), ((lit≤ tt, lit≤ tt), ((lit≤ tt, lit≤ tt), tt)))), tt);
    function_depth = (lit≤ tt, tt);
    global_depth = (lit≤ tt, tt);
    element_depth = tt;
    segment_depth = tt;
  };
  module_b = record {
    type_results = (lit≤ tt, (lit≤ tt, (lit≤ tt, tt)));
    table_elements = lit≤ tt;
    memory_pages = lit≤ tt;
    further_locals = (lit≤ tt, (lit≤ tt, (lit≤ tt, tt)));
    export_names = (
      ((lit≤ tt, lit≤ tt), ((lit≤ tt, lit≤ tt), ((lit≤ tt, lit≤ tt), ((lit≤ tt, lit≤ tt), tt)))),
      (((lit≤ tt, lit≤ tt), ((lit≤ tt, lit≤ tt), ((lit≤ tt, lit≤ tt), ((lit≤ tt, lit≤ tt), tt)))), tt),
    );
    function_depth = (lit≤ tt, (lit≤ tt, (lit≤ tt, tt)));
    global_depth = (lit≤ tt, tt);
    element_depth = (lit≤ tt, tt);
    segment_depth = tt;
  };
  file_a = lit≤ tt;
  file_b = lit≤ tt;
}

depth_nested : (n : ℕ) → depth (nested n) ≡ n
depth_nested zero = refl
depth_nested (suc n) = let h = depth_nested n in omega arith

pub depth_ends_at_500 : DepthEndsAt500
depth_ends_at_500 = (
  let h = depth_nested 500 in omega arith,
  λ k. let h = depth_nested 501 in omega arith,
)

pub empty_else_is_spelled : EmptyElseIsSpelled
empty_else_is_spelled = (
  cut 5 (cut 2 (cut 1 refl (small_i32 0 tt)) (cut 3 (cut 1 refl (cut 1 refl (cut 0 refl (inl (refl, refl))))) refl))
      refl,
  cut 6 (cut 2 (cut 1 refl (small_i32 0 tt))
      (cut 4 (cut 1 refl (cut 1 refl (cut 0 refl (inr (cut 1 refl (cut 0 refl refl)))))) refl)) refl,
)

pub six_bytes_are_no_index : SixBytesAreNoIndex
six_bytes_are_no_index v h = let k : 7 < 4 = h.3.1.3.1.3.1.3.1.2 in omega arith

pub unused_bits_are_zero : UnusedBitsAreZero
unused_bits_are_zero = (
  (
    lit≤ tt,
    lit< tt,
    lit< tt,
    (
      2 ^ 25 - 1,
      (
        lit≤ tt,
        lit< tt,
        lit< tt,
        (
          2 ^ 18 - 1,
          (
            lit≤ tt,
            lit< tt,
            lit< tt,
            (
              2 ^ 11 - 1,
              (lit≤ tt, lit< tt, lit< tt, (15, (lit< tt, lit< tt, refl), refl)),
              refl,
            ),
          ),
          refl,
        ),
      ),
      refl,
    ),
  ),
  λ v h. let k : 16 < 16 = h.3.1.3.1.3.1.3.1.1 in omega arith,
)

pub minus_one_is_spelled : MinusOneIsSpelled
minus_one_is_spelled = (
  (negsuc 0, inr (lit≤ tt, lit< tt, lit≤ tt, refl), refl),
  (
    negsuc 0,
    (
      lit≤ tt,
      lit< tt,
      lit< tt,
      (
        negsuc 0,
        (
          lit≤ tt,
          lit< tt,
          lit< tt,
          (
            negsuc 0,
            (
              lit≤ tt,
              lit< tt,
              lit< tt,
              (
                negsuc 0,
                (lit≤ tt, lit< tt, lit< tt, (negsuc 0, inr (lit≤ tt, lit< tt, lit≤ tt, refl), refl)),
                refl,
              ),
            ),
            refl,
          ),
        ),
        refl,
      ),
    ),
    refl,
  ),
)

no_last_byte : (z : ℤ) → IsSigned 4 (0x0F ∷ []) z → ⊥
no_last_byte z (inl h) = let k : 15 < 8 = h.1 in omega arith
no_last_byte z (inr h) = let k : 64 ≤ 15 = h.0 in omega arith

pub unused_bits_are_the_sign : UnusedBitsAreTheSign
unused_bits_are_the_sign n h = no_last_byte h.1.3.1.3.1.3.1.3.0 h.1.3.1.3.1.3.1.3.1

pub two_results_are_outside : TwoResultsAreOutside
two_results_are_outside = record {
  spelled = cut 1 refl (cut 1 (cut 1 (small 0 tt) refl) (cut 1 (small 2 tt) (cut 1 refl (cut 1 refl refl))));
  outside = λ m rest e w. (let h = subst (AllByRecursion (λ (t : FuncType). length t.results ≤ 1)) e w.type_results in
      let k : 2 ≤ 1 = h.0 in omega arith);
}
