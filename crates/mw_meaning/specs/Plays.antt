-- Plays of a module that may go on: its `init`, and then calls, all of which ended with a word.
use Rattle.std.specs.Prelude.{ℕ, ◌≡◌, List, [], ◌∷◌, Some, Ok, codes}
use Rattle.mw_term.specs.Terms.{GroundType}
use Rattle.mw_wasm.specs.declared.values.Value.TheVariants.{I64}
use Rattle.mw_wasm.specs.Syntax.{PureModule}
use Rattle.mw_wasm.specs.Store.{Store}
use Rattle.mw_wasm.specs.Execution.{ended}
use Rattle.mw_wasm.specs.Instances.{exported, instantiated, invoked}
use Rattle.mw_meaning.specs.StandingFor.{Call, AreCalls, leaves}

-- Calls on one instance, one after another, where `call` is function g and `init` gave r: each ended with a word, and
-- the last store is the one that they leave.
pub data CallsEnd (m : PureModule) (g r : ℕ) : List Call → Store → Store → Type 0 where
  none : {st : Store} → CallsEnd m g r [] st st
  one_more : {c : Call} {calls : List Call} {st after last : Store} {n left : ℕ}
      → invoked m st g (I64 r ∷ leaves c.argument) c.units ≡ ended after (I64 n ∷ []) left
      → CallsEnd m g r calls after last
      → CallsEnd m g r (c ∷ calls) st last

-- A play whose `init` gave the function's word r, whose arguments are of type s, and whose invocations so far all ended
-- with a word: the last one left this store.
pub record HasPlayed (m : PureModule) (s : GroundType) (r : ℕ) (last : Store) : Type 0 where
  pub first : Store
  pub has_instance : instantiated m ≡ Ok first
  pub init : ℕ
  pub is_init : exported m (codes "init") ≡ Some init
  pub call : ℕ
  pub is_call : exported m (codes "call") ≡ Some call
  pub units : ℕ
  pub after : Store
  pub left : ℕ
  pub began : invoked m first init [] units ≡ ended after (I64 r ∷ []) left
  pub calls : List Call
  pub are_calls : AreCalls s calls
  pub ended_all : CallsEnd m call r calls after last
