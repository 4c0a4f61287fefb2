-- The source that is made from a number of kernels.
use Rattle.std.specs.Prelude.{ℕ, ◌*◌, List, ◌++◌, codes}
use Rattle.std.specs.List.{range_with_len, flat_map, join_by}
use Rattle.std.specs.Fmt.{decimal}

-- the first line: a function that gives the code of a sum of n ones, halved until single ones are left
abbrev pub ones_line : List ℕ
ones_line = codes "let rec ones n = if n = 1 then .<1>. else .<.~(ones (n / 2)) + .~(ones (n - n / 2))>. ;;\n"

-- the line of kernel i, whose code is the product of its argument and a sum of 90i ones
abbrev pub kernel_line : ℕ → List ℕ
kernel_line i = codes "kernel k" ++ decimal i ++ codes " : int -> int = close .<fun x -> x * .~(ones "
    ++ decimal (90 * i) ++ codes ")>. ;;\n"

-- kernel i is run and called with 2
abbrev pub call_text : ℕ → List ℕ
call_text i = codes "run[int -> int] k" ++ decimal i ++ codes " 2"

-- the last line: the sum of the calls of kernels 1 to n
abbrev pub main_line : ℕ → List ℕ
main_line n = codes "main : int = " ++ join_by call_text (codes " + ") (range_with_len 1 n) ++ codes "\n"

-- the source with kernels 1 to n
abbrev pub sample_text : ℕ → List ℕ
sample_text n = ones_line ++ flat_map kernel_line (range_with_len 1 n) ++ main_line n
