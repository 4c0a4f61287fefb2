-- What code with literals of 64 bits gives has integers of 64 bits.
use Rattle.std.proofs.Common.{◌≡◌, ℕ, Some, refl, sym, ◌∙◌, subst}
use Rattle.mw_term.specs.Closed.{IsCode}
use Rattle.mw_term.specs.Limits.{LiteralsFit}
use Rattle.mw_term.specs.Terms.{Expression, KernelValue, PureGroundValue, int, bool, both, function, recursive}
use Rattle.mw_term.specs.Terms.{ground_value}
use Rattle.mw_meaning.specs.KernelMeaning.{gives, kernel_meaning}
use Rattle.mw_meaning.specs.StagedMeaning.{kernel_argument, call_of}
use Rattle.mw_literals.specs.Literals.{HasShortKernelValue}
use Rattle.mw_literals.proofs.KernelLiterals.{EndsShort, meaning_short, call_short}
use Rattle.mw_literals.proofs.SimplifiedLiterals.{code_short}
use Rattle.mw_kernel.specs.KernelAnswers.{FitsWords}
use Rattle.mw_meaning.specs.GroundValues.{kernel_value}
use Rattle.mw_kernel.specs.KernelMeanings.{HasShortIntegers}

-- the value that code with literals of 64 bits gives
pub code_gives_short : (c : Expression) (n h : ℕ) (v : KernelValue) (left words : ℕ)
    → IsCode c → LiteralsFit c → kernel_meaning n h c ≡ gives v left words → HasShortKernelValue v
code_gives_short c n h v left words i x e = subst EndsShort e (meaning_short c n h (code_short c i x))

-- the value that a call of a function gives
pub call_gives_short : (f w v : KernelValue) (h k n left words : ℕ) → HasShortKernelValue f → HasShortKernelValue w
    → call_of f h (Some w) k n ≡ gives v left words → HasShortKernelValue v
call_gives_short f w v h k n left words x y e = subst EndsShort e (call_short f w h k n x y)

pub short_integers : (v : KernelValue) → HasShortKernelValue v → HasShortIntegers v
short_integers (int z) x = x
short_integers (bool b) x = tt
short_integers (both v w) x = (short_integers v x.0, short_integers w x.1)
short_integers (function e) x = tt
short_integers (recursive e) x = tt

pub argument_of : (v : PureGroundValue) → kernel_argument (ground_value v) ≡ Some (kernel_value v)
argument_of (int z) = refl
argument_of (bool b) = refl
argument_of (both v w) = rw (argument_of v, argument_of w) refl

kernel_value_short : (v : PureGroundValue) → FitsWords v → HasShortKernelValue (kernel_value v)
kernel_value_short (int z) x = x
kernel_value_short (bool b) x = tt
kernel_value_short (both v w) x = (kernel_value_short v x.0, kernel_value_short w x.1)

-- the argument of a call
pub argument_is_short : (v : PureGroundValue) → FitsWords v → (w : KernelValue)
    → kernel_argument (ground_value v) ≡ Some w → HasShortKernelValue w
argument_is_short v x w e =
    let same : kernel_value v ≡ w = some_same (kernel_value v) w
    (sym (argument_of v) ∙ e) in subst HasShortKernelValue same (kernel_value_short v x)
  where
    some_same : (a b : KernelValue) → Some a ≡ Some b → a ≡ b
    some_same a b p = cc
