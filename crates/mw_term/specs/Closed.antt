-- Which variables a term may use.
use Rattle.std.specs.Prelude.{ℕ, zero, suc, ◌<◌, false}
use Rattle.mw_term.specs.Terms.{Expression, Value, num, truth, var, glob, fun, fix, app, bind, cond, pair, fst, snd}
use Rattle.mw_term.specs.Terms.{prim, bracket, escape, run, close, opened, lift, lift_b, done, int, bool, both}
use Rattle.mw_term.specs.Terms.{function, recursive, code, kept}
use Rattle.mw_term.specs.EachNode.{NodeRule, EachNode}

-- every free variable of the term is below k
abbrev mutual
  pub ClosedBelow : ℕ → Expression → Type 0
  ClosedBelow k (num n) = Unit {0}
  ClosedBelow k (truth b) = Unit {0}
  ClosedBelow k (var i) = i < k
  ClosedBelow k (glob i) = Unit {0}
  ClosedBelow k (fun e) = ClosedBelow (suc k) e
  ClosedBelow k (fix e) = ClosedBelow (suc (suc k)) e
  ClosedBelow k (app f a) = ClosedBelow k f × ClosedBelow k a
  ClosedBelow k (bind d e) = ClosedBelow k d × ClosedBelow (suc k) e
  ClosedBelow k (cond c a b) = ClosedBelow k c × ClosedBelow k a × ClosedBelow k b
  ClosedBelow k (pair a b) = ClosedBelow k a × ClosedBelow k b
  ClosedBelow k (fst e) = ClosedBelow k e
  ClosedBelow k (snd e) = ClosedBelow k e
  ClosedBelow k (prim p a b) = ClosedBelow k a × ClosedBelow k b
  ClosedBelow k (bracket e) = ClosedBelow k e
  ClosedBelow k (escape e) = ClosedBelow k e
  ClosedBelow k (run t e) = ClosedBelow k e
  ClosedBelow k (close at e) = ClosedBelow k e
  ClosedBelow k (opened e) = ClosedBelow k e
  ClosedBelow k (lift e) = ClosedBelow k e
  ClosedBelow k (lift_b e) = ClosedBelow k e
  ClosedBelow k (done v) = ClosedValueBelow k v

  pub ClosedValueBelow : ℕ → Value → Type 0
  ClosedValueBelow k (int n) = Unit {0}
  ClosedValueBelow k (bool b) = Unit {0}
  ClosedValueBelow k (both v w) = ClosedValueBelow k v × ClosedValueBelow k w
  ClosedValueBelow k (function e) = ClosedBelow (suc k) e
  ClosedValueBelow k (recursive e) = ClosedBelow (suc (suc k)) e
  ClosedValueBelow k (code e) = ClosedBelow k e
  ClosedValueBelow k (kept t f h) = Unit {0}

-- no free variable
abbrev pub IsClosed : Expression → Type 0
IsClosed e = ClosedBelow zero e

-- code: the forms from literals to primitives, with no top-level name, staging form or value in them
abbrev pub code_rule : NodeRule
code_rule = record {
  integer = λ n. Unit {0};
  name = λ i. ⊥;
  kept_function = λ f. ⊥;
  has_staging = false;
  has_values = false;
}

abbrev pub IsCode : Expression → Type 0
IsCode e = EachNode code_rule e
