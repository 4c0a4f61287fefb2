-- Terms and values whose integers all have 64 bits.
use Rattle.std.specs.Prelude.{true, List, [], ◌∷◌, FitsSigned}
use Rattle.std.specs.Int.{w64}
use Rattle.mw_term.specs.Terms.{Expression, Value, KernelTerm, KernelValue, num, truth, var, fun, fix, app, bind, cond}
use Rattle.mw_term.specs.Terms.{pair, fst, snd, prim, done, int, bool, both, function, recursive}
use Rattle.mw_term.specs.EachNode.{NodeRule, EachNode, EachNodeOfValue}
use Rattle.mw_term.specs.Programs.{Definition, value, kernel, PureProgram}

-- each integer in a kernel's term, or in a kernel's value, has 64 bits
abbrev mutual
  pub HasShortKernelTerm : KernelTerm → Type 0
  HasShortKernelTerm (num z) = FitsSigned w64 z
  HasShortKernelTerm (truth b) = Unit {0}
  HasShortKernelTerm (var i) = Unit {0}
  HasShortKernelTerm (fun free e) = HasShortKernelTerm e
  HasShortKernelTerm (fix free e) = HasShortKernelTerm e
  HasShortKernelTerm (app f a) = HasShortKernelTerm f × HasShortKernelTerm a
  HasShortKernelTerm (bind d e) = HasShortKernelTerm d × HasShortKernelTerm e
  HasShortKernelTerm (cond c a b) = HasShortKernelTerm c × HasShortKernelTerm a × HasShortKernelTerm b
  HasShortKernelTerm (pair a b) = HasShortKernelTerm a × HasShortKernelTerm b
  HasShortKernelTerm (fst e) = HasShortKernelTerm e
  HasShortKernelTerm (snd e) = HasShortKernelTerm e
  HasShortKernelTerm (prim p a b) = HasShortKernelTerm a × HasShortKernelTerm b
  HasShortKernelTerm (done v) = HasShortKernelValue v

  pub HasShortKernelValue : KernelValue → Type 0
  HasShortKernelValue (int z) = FitsSigned w64 z
  HasShortKernelValue (bool b) = Unit {0}
  HasShortKernelValue (both v w) = HasShortKernelValue v × HasShortKernelValue w
  HasShortKernelValue (function e) = HasShortKernelTerm e
  HasShortKernelValue (recursive e) = HasShortKernelTerm e

-- each integer in a term, at both levels, or in a value has 64 bits
abbrev pub short_rule : NodeRule
short_rule = record {
  integer = FitsSigned w64;
  name = λ i. Unit {0};
  kept_function = HasShortKernelValue;
  has_staging = true;
  has_values = true;
}

abbrev pub HasShortLiterals : Expression → Type 0
HasShortLiterals e = EachNode short_rule e

abbrev pub HasShortValue : Value → Type 0
HasShortValue v = EachNodeOfValue short_rule v

-- what an item defines
abbrev pub HasShortDefinition : Definition → Type 0
HasShortDefinition (value e) = HasShortLiterals e
HasShortDefinition (kernel k e) = HasShortLiterals e

abbrev pub AreShortDefinitions : List Definition → Type 0
AreShortDefinitions [] = Unit {0}
AreShortDefinitions (d ∷ items) = HasShortDefinition d × AreShortDefinitions items

-- a program's items and its main
abbrev pub HasShortProgram : PureProgram → Type 0
HasShortProgram p = AreShortDefinitions p.items × HasShortLiterals p.body
