-- Cache files whose records have the emissions of their texts, and what kernel items then come to.
use Rattle.std.specs.Prelude.{ℕ, List, Bool, IsTrue, Option, IsSome}
use Rattle.mw_term.specs.Terms.{Expression, KernelType, Value}
use Rattle.mw_term.specs.Programs.{PureProgram}
use Rattle.mw_meaning.specs.declared.mode.Mode.{Mode}
use Rattle.mw_meaning.specs.Outcomes.{item_outcome, names_of_items}
use Rattle.mw_cache.specs.Gots.{CacheState}
use Rattle.mw_cache.specs.HonestFiles.{AreHonestBytes}
use Rattle.mw_tasks.specs.declared.outcome.ItemOutcome.{ItemOutcome}
use Rattle.mw_tasks.specs.Phases.{Answers, EachKernel, IfBuilt, IsPlaced}

-- Where there is a cache file, the keeper tells what it holds, and that is honest.
abbrev pub IsHonestCache : {X : Type 0} → Bool → List ℕ → Option X → Type 0
IsHonestCache tells held path = IsSome path → IsTrue tells × AreHonestBytes held

-- what a kernel item of this type and term came to: what it means, with the module of its code
pub record IsMeant (mode : Mode) (names : List Value) (fuel : ℕ) (cache : CacheState) (k : KernelType)
    (e : Expression)
    (o : ItemOutcome) : Type 0 where
  pub means : Answers o (item_outcome mode names fuel e)
  pub placed : IfBuilt o (IsPlaced mode cache k)

-- what the kernel items of a program came to, all of them, in order
abbrev pub AreMeant : Mode → PureProgram → ℕ → CacheState → List ItemOutcome → Type 0
AreMeant mode p fuel cache outcomes = EachKernel (IsMeant mode (names_of_items p.items) fuel cache) p.items outcomes
