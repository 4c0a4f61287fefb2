-- How many lines end in a source.
use Rattle.std.proofs.Common.{◌≡◌, ℕ, zero, suc, ◌+◌, ◌*◌, ◌/◌, ◌%◌, Bool, true, false, List, [], ◌∷◌, ◌++◌, codes}
use Rattle.std.proofs.Common.{refl, sym, ◌∙◌, append_assoc, arith}
use Rattle.std.specs.Prelude.{nat_eq, ◌==◌, if◌then◌else◌}
use Rattle.std.specs.List.{range_with_len, flat_map, join_by}
use Rattle.std.specs.Fmt.{decimal, digits, digits_onto, digit_glyph}
use Rattle.std.proofs.lemmas.List.Sums.{sum_by-append}
use Rattle.mw_sample.specs.Sample.{ones_line, kernel_line, call_text, main_line}
use Rattle.mw_sample.specs.SourceLaws.{lines_ended, LinesOfSource, LastLineEnds}
use Rattle.mw_sample.proofs.Counting.{next_call}

both : (s t : List ℕ) → lines_ended (s ++ t) ≡ lines_ended s + lines_ended t
both s t = sum_by-append _ s t

no_line_feed : (d : ℕ) → nat_eq (digit_glyph false d) 10 ≡ false
no_line_feed d = grind arith

after_digit : (d : ℕ) (after : List ℕ) → lines_ended (digit_glyph false d ∷ after) ≡ lines_ended after
after_digit d after =
    let digit : lines_ended (digit_glyph false d ∷ []) ≡ 0 = rw (no_line_feed d) refl in
    omega (arith, both (digit_glyph false d ∷ []) after, digit)

in_either : (b : Bool) (s t : List ℕ) (n : ℕ) → lines_ended s ≡ n → lines_ended t ≡ n → lines_ended (if b then s else t)
    ≡ n
in_either true s t n e f = e
in_either false s t n e f = f

in_digits : (k n : ℕ) (after : List ℕ) → lines_ended (digits_onto k 10 false n after) ≡ lines_ended after
in_digits zero n after = refl
in_digits (suc k) n after =
    let more = digit_glyph false (n % 10) ∷ after in
    let last = after_digit (n % 10) after in
    in_either (n / 10 == 0) more (digits_onto k 10 false (n / 10) more) (lines_ended after) last
    (in_digits k (n / 10) more ∙ last)

in_decimal : (n : ℕ) → lines_ended (decimal n) ≡ 0
unfolding digits
in_decimal n = in_digits 64 n []

in_five : (s t u v w : List ℕ) → lines_ended (s ++ t ++ u ++ v ++ w) ≡ lines_ended s + lines_ended t + lines_ended u
    + lines_ended v + lines_ended w
in_five s t u v w = omega (arith, both s t, both (s ++ t) u, both (s ++ t ++ u) v, both (s ++ t ++ u ++ v) w)

in_kernel : (i : ℕ) → lines_ended (kernel_line i) ≡ 1
in_kernel i =
    in_five (codes "kernel k") (decimal i) (codes " : int -> int = close .<fun x -> x * .~(ones ") (decimal (90 * i))
    (codes ")>. ;;\n")
    ∙ omega (arith, in_decimal i, in_decimal (90 * i))

in_call : (i : ℕ) → lines_ended (call_text i) ≡ 0
in_call i = omega (
  arith,
  both (codes "run[int -> int] k" ++ decimal i) (codes " 2"),
  both (codes "run[int -> int] k")
      (decimal i),
  in_decimal i,
)

in_kernels : (a n : ℕ) → lines_ended (flat_map kernel_line (range_with_len a n)) ≡ n
in_kernels a zero = refl
in_kernels a (suc n) =
    let first = both (kernel_line a) (flat_map kernel_line (range_with_len (a + 1) n)) in
    omega (arith, first, in_kernel a, in_kernels (a + 1) n)

in_calls : (a n : ℕ) → lines_ended (flat_map next_call (range_with_len a n)) ≡ 0
in_calls a zero = refl
in_calls a (suc n) =
    let first = both (next_call a) (flat_map next_call (range_with_len (a + 1) n)) in
    omega (arith, first, both (codes " + ") (call_text a), in_call a, in_calls (a + 1) n)

in_sum : (n : ℕ) → lines_ended (join_by call_text (codes " + ") (range_with_len 1 n)) ≡ 0
in_sum zero = refl
in_sum (suc n) = let first = both (call_text 1) (flat_map next_call (range_with_len 2 n)) in
    omega (arith, first, in_call 1, in_calls 2 n)

in_main : (n : ℕ) → lines_ended (main_line n) ≡ 1
in_main n =
    let calls = join_by call_text (codes " + ") (range_with_len 1 n) in
    omega (arith, both (codes "main : int = " ++ calls) (codes "\n"), both (codes "main : int = ") calls, in_sum n)

pub lines_of_source : LinesOfSource
lines_of_source n =
    let kernels = flat_map kernel_line (range_with_len 1 n) in
    omega (arith, both (ones_line ++ kernels) (main_line n), both ones_line kernels, in_kernels 1 n, in_main n)

pub last_line_ends : LastLineEnds
last_line_ends n =
    let begun = codes "main : int = " ++ join_by call_text (codes " + ") (range_with_len 1 n) in
    let above = ones_line ++ flat_map kernel_line (range_with_len 1 n) in
    (above ++ begun, sym (append_assoc above begun (codes "\n")))
