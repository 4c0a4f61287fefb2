-- Simplification keeps literals of 64 bits.
use Rattle.mw_term.specs.Closed.{IsCode}
use Rattle.mw_term.specs.Limits.{LiteralsFit}
use Rattle.mw_term.specs.Terms.{Expression, num, truth, var, fun, fix, app, bind, cond, pair, fst, snd, prim, size}
use Rattle.mw_meaning.specs.declared.mode.Mode.{Mode}
use Rattle.mw_meaning.specs.declared.mode.Mode.TheVariants.{Plain, Simple}
use Rattle.mw_meaning.specs.Simplification.{simplified, in_mode}
use Rattle.mw_meaning.proofs.SimplifiedNodes.{each-simplified}
use Rattle.mw_literals.specs.Literals.{short_rule, HasShortLiterals}
use Rattle.mw_literals.specs.LiteralLaws.{SimplifiedLiteralsFit}
use Rattle.mw_literals.proofs.KernelLiterals.{compute_short}

-- the code that is run
pub in_mode_short : (mode : Mode) (c : Expression) → HasShortLiterals c → HasShortLiterals (in_mode mode c)
unfolding simplified
in_mode_short Plain c h = h
in_mode_short Simple c h = each-simplified short_rule compute_short (size c) c h

-- a term's literals, and those of code
pub literals_fit : (c : Expression) → HasShortLiterals c → LiteralsFit c
literals_fit (num z) x = x
literals_fit (fun e) x = literals_fit e x
literals_fit (fix e) x = literals_fit e x
literals_fit (app f a) x = (literals_fit f x.0, literals_fit a x.1)
literals_fit (bind d e) x = (literals_fit d x.0, literals_fit e x.1)
literals_fit (cond c a b) x = (literals_fit c x.0, literals_fit a x.1, literals_fit b x.2)
literals_fit (pair a b) x = (literals_fit a x.0, literals_fit b x.1)
literals_fit (fst e) x = literals_fit e x
literals_fit (snd e) x = literals_fit e x
literals_fit (prim p a b) x = (literals_fit a x.0, literals_fit b x.1)
literals_fit _ x = tt

pub code_short : (c : Expression) → IsCode c → LiteralsFit c → HasShortLiterals c
code_short (num z) i x = x
code_short (truth b) i x = tt
code_short (var j) i x = tt
code_short (fun e) i x = code_short e i x
code_short (fix e) i x = code_short e i x
code_short (app f a) i x = (code_short f i.0 x.0, code_short a i.1 x.1)
code_short (bind d e) i x = (code_short d i.0 x.0, code_short e i.1 x.1)
code_short (cond c a b) i x = (code_short c i.0 x.0, code_short a i.1 x.1, code_short b i.2 x.2)
code_short (pair a b) i x = (code_short a i.0 x.0, code_short b i.1 x.1)
code_short (fst e) i x = code_short e i x
code_short (snd e) i x = code_short e i x
code_short (prim p a b) i x = (code_short a i.0 x.0, code_short b i.1 x.1)
code_short _ i x = absurd i

pub simplified_literals : SimplifiedLiteralsFit
simplified_literals mode c i x = literals_fit (in_mode mode c) (in_mode_short mode c (code_short c i x))
