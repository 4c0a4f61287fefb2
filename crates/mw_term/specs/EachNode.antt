-- What holds of each node of a term.
use Rattle.std.specs.Prelude.{ℕ, ℤ, Bool, true, false}
use Rattle.mw_term.specs.Terms.{Expression, Value, KernelValue, num, truth, var, glob, fun, fix, app, bind, cond, pair}
use Rattle.mw_term.specs.Terms.{fst, snd, prim, bracket, escape, run, close, opened, lift, lift_b, done, int, bool, both}
use Rattle.mw_term.specs.Terms.{function, recursive, code, kept}

-- What is asked of each node: of an integer, of a top-level name and of the function in a kept function, whether forms
-- of staging may stand there, and whether values put for variables may.
pub record NodeRule : Type 1 where
  pub integer : ℤ → Type 0
  pub name : ℕ → Type 0
  pub kept_function : KernelValue → Type 0
  pub has_staging : Bool
  pub has_values : Bool

abbrev pub IfAllowed : Bool → Type 0 → Type 0
IfAllowed true P = P
IfAllowed false P = ⊥

-- each node of the term is as the rule asks, also in the values that were put for variables
abbrev mutual
  pub EachNode : NodeRule → Expression → Type 0
  EachNode r (num n) = r.integer n
  EachNode r (truth b) = Unit {0}
  EachNode r (var i) = Unit {0}
  EachNode r (glob i) = r.name i
  EachNode r (fun e) = EachNode r e
  EachNode r (fix e) = EachNode r e
  EachNode r (app f a) = EachNode r f × EachNode r a
  EachNode r (bind d e) = EachNode r d × EachNode r e
  EachNode r (cond c a b) = EachNode r c × EachNode r a × EachNode r b
  EachNode r (pair a b) = EachNode r a × EachNode r b
  EachNode r (fst e) = EachNode r e
  EachNode r (snd e) = EachNode r e
  EachNode r (prim p a b) = EachNode r a × EachNode r b
  EachNode r (bracket e) = IfAllowed r.has_staging (EachNode r e)
  EachNode r (escape e) = IfAllowed r.has_staging (EachNode r e)
  EachNode r (run k e) = IfAllowed r.has_staging (EachNode r e)
  EachNode r (close at e) = IfAllowed r.has_staging (EachNode r e)
  EachNode r (opened e) = IfAllowed r.has_staging (EachNode r e)
  EachNode r (lift e) = IfAllowed r.has_staging (EachNode r e)
  EachNode r (lift_b e) = IfAllowed r.has_staging (EachNode r e)
  EachNode r (done v) = IfAllowed r.has_values (EachNodeOfValue r v)

  pub EachNodeOfValue : NodeRule → Value → Type 0
  EachNodeOfValue r (int n) = r.integer n
  EachNodeOfValue r (bool b) = Unit {0}
  EachNodeOfValue r (both v w) = EachNodeOfValue r v × EachNodeOfValue r w
  EachNodeOfValue r (function e) = EachNode r e
  EachNodeOfValue r (recursive e) = EachNode r e
  EachNodeOfValue r (code e) = IfAllowed r.has_staging (EachNode r e)
  EachNodeOfValue r (kept k f words) = r.kept_function f
