-- Kernels that the tests link.
use Rattle.std.specs.Prelude.{ℕ, pos, List, [], ◌∷◌, codes}
use Rattle.mw_term.specs.Terms.{num}
use Rattle.mw_gen.specs.Examples as examples
use Rattle.mw_link.specs.Linked.{Kernel}

-- 7 at int, under a name
abbrev pub seven_named : List ℕ → Kernel
seven_named name = record { name = name; code = num (pos 7); kind = examples.int_kernel }

-- 64 bytes
abbrev pub longest_name : List ℕ
longest_name = codes "bbbbbbbbbbbbbbbbbbbbbbbbbbbbbbbbbbbbbbbbbbbbbbbbbbbbbbbbbbbbbbbb"

-- names that end as exports do, begin as another name, and have as many bytes as they may
abbrev pub sevens_of_five_names : List Kernel
sevens_of_five_names =
    seven_named (codes "init") ∷ seven_named (codes "call") ∷ seven_named (codes "a") ∷ seven_named (codes "a_init")
    ∷ seven_named longest_name ∷ []

-- the cube, under a name
abbrev pub cube_named : List ℕ → Kernel
cube_named name = record { name = name; code = examples.cube; kind = examples.int_to_int }

-- the function that counts down, under a name
abbrev pub down_named : List ℕ → Kernel
down_named name = record { name = name; code = examples.down; kind = examples.int_to_int }
