-- The limits of kernels: how large code and kernel types may be, and how large literals are.
use Rattle.std.specs.Prelude.{ℕ, suc, ◌+◌, nat_le, Bool, ◌&&◌, FitsSigned}
use Rattle.std.specs.Int.{w64}
use Rattle.mw_term.specs.Terms.{Expression, GroundType, KernelType, base, product, of_ground, to, num, fun, fix, app}
use Rattle.mw_term.specs.Terms.{bind, cond, pair, fst, snd, prim, size, depth_of}

-- whether a kernel's code is within its limits
abbrev pub within_limits : Expression → Bool
within_limits c = nat_le (size c) 20000 && nat_le (depth_of c) 400

-- the nodes of a type
abbrev pub ground_nodes : GroundType → ℕ
ground_nodes (base b) = 1
ground_nodes (product s t) = suc (ground_nodes s + ground_nodes t)

abbrev pub kernel_nodes : KernelType → ℕ
kernel_nodes (of_ground t) = ground_nodes t
kernel_nodes (to s t) = suc (ground_nodes s + ground_nodes t)

-- code whose literals have 64 bits
abbrev pub LiteralsFit : Expression → Type 0
LiteralsFit (num z) = FitsSigned w64 z
LiteralsFit (fun e) = LiteralsFit e
LiteralsFit (fix e) = LiteralsFit e
LiteralsFit (app f a) = LiteralsFit f × LiteralsFit a
LiteralsFit (bind d e) = LiteralsFit d × LiteralsFit e
LiteralsFit (cond c a b) = LiteralsFit c × LiteralsFit a × LiteralsFit b
LiteralsFit (pair a b) = LiteralsFit a × LiteralsFit b
LiteralsFit (fst e) = LiteralsFit e
LiteralsFit (snd e) = LiteralsFit e
LiteralsFit (prim p a b) = LiteralsFit a × LiteralsFit b
LiteralsFit _ = Unit {0}
