-- What is proved of reduction, whatever the module.
use Rattle.std.specs.Prelude.{◌≡◌, ℕ, ◌+◌, List, []}
use Rattle.mw_wasm.specs.declared.values.Value.{Value}
use Rattle.mw_wasm.specs.declared.values.Trap.{Trap}
use Rattle.mw_wasm.specs.Syntax.{PureModule}
use Rattle.mw_wasm.specs.Store.{Store}
use Rattle.mw_wasm.specs.Reduction as reduction
use Rattle.mw_wasm.specs.Reduction.{Sequence, Step, step}
use Rattle.mw_wasm.specs.Execution.{ended, trapped, execution}
use Rattle.mw_wasm.specs.Execution as executions
use Rattle.mw_wasm.specs.Redex as redex
use Rattle.mw_wasm.specs.Redex.{Config, Next, reduce, plugged, top_locals, run}

-- an execution is one rule, and then an execution
abbrev pub ExecutionFollows : Type 0
ExecutionFollows = (m : PureModule) (n : ℕ) (st : Store) (s : Sequence) → execution m n st s
    ≡ executions.follow (step m st [] [] s) st n (execution m n) (execution m)

-- a run of a state taken apart is one rule, or a constant that becomes an operand, and then a run
abbrev pub RunFollows : Type 0
RunFollows = (m : PureModule) (n : ℕ) (c : Config) → run m n c ≡ redex.follow (reduce m c) c.store n (run m n) (run m)

-- no rule fits, or a branch or a return leaves all labels and frames
abbrev pub IsOff : Step → Type 0
IsOff (reduction.goes st ls s) = ⊥
IsOff (reduction.spends st ls s) = ⊥
IsOff (reduction.finished vs) = ⊥
IsOff (reduction.leaves l vs) = Unit {0}
IsOff (reduction.gives_back vs) = Unit {0}
IsOff (reduction.traps_by t) = ⊥
IsOff reduction.stuck_here = Unit {0}

-- what one rule makes of a state taken apart, and what one makes of the whole
abbrev pub IsOneRule : Config → Step → Next → Type 0
IsOneRule c whole (redex.moves d) = (d.store ≡ c.store) × (top_locals d ≡ top_locals c) × (plugged d ≡ plugged c)
IsOneRule c whole (redex.goes d) = whole ≡ reduction.goes d.store (top_locals d) (plugged d)
IsOneRule c whole (redex.spends d) = whole ≡ reduction.spends d.store (top_locals d) (plugged d)
IsOneRule c whole (redex.ends st vs) = (st ≡ c.store) × (whole ≡ reduction.finished vs)
IsOneRule c whole (redex.traps t) = whole ≡ reduction.traps_by t
IsOneRule c whole redex.stuck = IsOff whole

-- One rule of a state taken apart is one of the whole, in the standard's form. Only that a constant becomes an operand
-- is no rule there: the whole stays as it is.
abbrev pub OneRule : Type 0
OneRule = (m : PureModule) (c : Config) → IsOneRule c (step m c.store (top_locals c) [] (plugged c)) (reduce m c)

-- a run is the execution of the whole; outside all frames there are no locals
abbrev pub RunIsExecution : Type 0
RunIsExecution = (m : PureModule) (n : ℕ) (c : Config) → top_locals c ≡ [] → run m n c ≡ execution m n c.store
    (plugged c)

-- with more units an execution that ends does the same, and has as many more left
abbrev pub MoreUnitsWhereItEnds : Type 0
MoreUnitsWhereItEnds = (m : PureModule) (n k : ℕ) (st st' : Store) (s : Sequence) (vs : List Value) (left : ℕ)
    → execution m n st s ≡ ended st' vs left
    → execution m (n + k) st s ≡ ended st' vs (left + k)

-- and one that traps traps
abbrev pub MoreUnitsWhereItTraps : Type 0
MoreUnitsWhereItTraps = (m : PureModule) (n k : ℕ) (st st' : Store) (s : Sequence) (t : Trap) → execution m n st s
    ≡ trapped t st' → execution m (n + k) st s ≡ trapped t st'
