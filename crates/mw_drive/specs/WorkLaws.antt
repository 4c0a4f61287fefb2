-- A work has exactly one meaning, and an answer is any answer of the erased program.
use Rattle.std.specs.Prelude.{◌≡◌, ℕ, List}
use Rattle.mw_term.specs.Terms.{PureGroundValue}
use Rattle.mw_drive.specs.declared.shown.Shown.{Shown}
use Rattle.mw_console.specs.Texts.{answered}
use Rattle.mw_link.specs.Linked.{Kernel}
use Rattle.mw_drive.specs.Works.{Work, running, erasing, migrating, writing, judging, Meaning, ran, erased, IsMeaning}
use Rattle.mw_store.specs.Loads.{LoadState, IsLoadOf}
use Rattle.mw_leb.specs.ReadingLaws.{AreBytes}

-- a work has one meaning at most
abbrev pub OneMeaning : Type 0
OneMeaning = (work : Work) (m n : Meaning) → IsMeaning work m → IsMeaning work n → m ≡ n

-- a module's file is bytes, and a cache file has a load
abbrev pub IsOnFile : Work → Type 0
IsOnFile (migrating held) = (load : LoadState) × IsLoadOf held load
IsOnFile (writing bytes) = AreBytes bytes
IsOnFile (judging bytes) = AreBytes bytes
IsOnFile work = Unit {0}

-- and it has one
abbrev pub SomeMeaning : Type 0
SomeMeaning = (work : Work) → IsOnFile work → (m : Meaning) × IsMeaning work m

-- where a source's run and its erased program both answer, whatever their units, the answers are equal
abbrev pub AnswersAreErased : Type 0
AnswersAreErased = (bytes : List ℕ) (fuel m : ℕ) (shown : Shown) (kernels : List Kernel) (v w : PureGroundValue)
    → IsMeaning (running bytes fuel shown) (ran shown kernels (answered v)) → IsMeaning (erasing bytes m)
    (erased (answered w)) → v ≡ w
