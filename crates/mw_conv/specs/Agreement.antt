-- The converted code's answer beside the kernel's.
use Rattle.std.specs.Prelude.{◌≡◌, ℕ, ◌≤◌, ℤ, List, length}
use Rattle.mw_term.specs.Terms.{Expression, KernelValue}
use Rattle.mw_meaning.specs.Arithmetic.{trap, bound, stuck}
use Rattle.mw_meaning.specs.KernelMeaning as k
use Rattle.mw_ir.specs.Ir as i
use Rattle.mw_ir.specs.Ir.{IrFunc}
use Rattle.mw_conv.specs.Represents.{Grows, Stands}
use Rattle.mw_conv.specs.Convert.{converted_functions, converted_outside}

pub record Given (t : List IrFunc) (n : ℕ) (h0 : List ℤ) (v : KernelValue) (m words : ℕ) (b : i.Ended) : Type 0 where
  pub w : ℤ
  pub h : List ℤ
  pub gives : b ≡ i.gives w m h
  pub as_many : length h ≡ words
  pub at_most : m ≤ n
  pub grows : Grows h0 h
  pub stands : Stands t h v w

abbrev pub EndsAlike : List IrFunc → ℕ → List ℤ → k.Ended → i.Ended → Type 0
EndsAlike t n h0 (k.gives v m words) b = Given t n h0 v m words b
EndsAlike t n h0 (k.stops stuck) b = Unit {0}
EndsAlike t n h0 (k.stops (trap y)) b = b ≡ i.stops (trap y)
EndsAlike t n h0 (k.stops (bound l)) b = b ≡ i.stops (bound l)

-- at most n units are left, the heap h0 has grown by the kernel's words, and the word stands for the value; or both
-- stop alike; nothing is said where the kernel is stuck
pub record Agrees (t : List IrFunc) (n : ℕ) (h0 : List ℤ) (a : k.Ended) (b : i.Ended) : Type 0 where
  pub holds : EndsAlike t n h0 a b

-- with any units and on any heap the body outside these functions means what the kernel meaning does from that many
-- words on
abbrev pub MeansAs : List IrFunc → IrFunc → Expression → Type 0
MeansAs t f c = (n : ℕ) (h : List ℤ) → Agrees t n h (k.kernel_meaning n (length h) c) (i.means t n h i.outside f.body)

-- converted code means what the code does
abbrev pub ConversionKeepsMeaning : Type 0
ConversionKeepsMeaning = (c : Expression) → MeansAs (converted_functions c) (converted_outside c) c
