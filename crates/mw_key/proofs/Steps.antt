-- One step into a ground type or code.
use Rattle.std.proofs.Common.{◌≡◌, ℕ, zero, suc, ◌-◌, ◌<◌, List, refl, sym, ap, arith, None}
use Rattle.mw_key.specs.Reading.{then_find, find_type_form, ground_parts, find_ground, find_form, code_parts, find_code}

pub ground_none : (depth n : ℕ) (ws : List (List ℕ)) → depth ≡ 0 → find_ground depth ws n ≡ None
unfolding find_ground
ground_none zero n ws e = refl
ground_none (suc depth) n ws e = absurd (omega arith)

pub ground_step : (depth n : ℕ) (ws : List (List ℕ)) → 0 < depth → find_ground depth ws n
    ≡ then_find (find_type_form ws n) (λ form ws n. ground_parts (find_ground (depth - 1)) form ws n)
unfolding find_ground
ground_step zero n ws p = absurd (omega arith)
ground_step (suc depth) n ws p = let less : suc depth - 1 ≡ depth = omega arith in
    ap (λ d. then_find (find_type_form ws n) (λ form ws n. ground_parts (find_ground d) form ws n)) (sym less)

pub code_none : (depth k n : ℕ) (ws : List (List ℕ)) → depth ≡ 0 → find_code depth k ws n ≡ None
unfolding find_code
code_none zero k n ws e = refl
code_none (suc depth) k n ws e = absurd (omega arith)

pub code_step : (depth k n : ℕ) (ws : List (List ℕ)) → 0 < depth → find_code depth k ws n ≡ then_find (find_form ws n)
    (λ form ws n. code_parts (find_code (depth - 1)) form k ws n)
unfolding find_code
code_step zero k n ws p = absurd (omega arith)
code_step (suc depth) k n ws p = let less : suc depth - 1 ≡ depth = omega arith in
    ap (λ d. then_find (find_form ws n) (λ form ws n. code_parts (find_code d) form k ws n)) (sym less)
