-- Worked examples of the source, as theorems by computation.
use Rattle.std.specs.Prelude.{◌≡◌, ◌++◌, length, codes}
use Rattle.mw_sample.specs.Sample.{sample_text}

-- the source with one kernel
abbrev pub OneKernel : Type 0
OneKernel = sample_text 1
    ≡ codes "let rec ones n = if n = 1 then .<1>. else .<.~(ones (n / 2)) + .~(ones (n - n / 2))>. ;;\n"
    ++ codes "kernel k1 : int -> int = close .<fun x -> x * .~(ones 90)>. ;;\n"
    ++ codes "main : int = run[int -> int] k1 2\n"

-- the source with two kernels
abbrev pub TwoKernels : Type 0
TwoKernels = sample_text 2
    ≡ codes "let rec ones n = if n = 1 then .<1>. else .<.~(ones (n / 2)) + .~(ones (n - n / 2))>. ;;\n"
    ++ codes "kernel k1 : int -> int = close .<fun x -> x * .~(ones 90)>. ;;\n"
    ++ codes "kernel k2 : int -> int = close .<fun x -> x * .~(ones 180)>. ;;\n"
    ++ codes "main : int = run[int -> int] k1 2 + run[int -> int] k2 2\n"

-- how long the source with 100 kernels is
abbrev pub LengthOfHundred : Type 0
LengthOfHundred = length (sample_text 100) ≡ 9072
