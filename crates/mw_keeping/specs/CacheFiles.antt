-- The cache file of a run, as it was read.
use Rattle.std.specs.Prelude.{◌≡◌, ◌⊎◌, ◌++◌, ℕ, List, [], ◌∷◌, length, take, Bool, IsTrue, Option, Some, None, Result}
use Rattle.std.specs.Prelude.{Ok, Err}
use Rattle.mw_outside.specs.Count.{Rose}
use Rattle.mw_outside.specs.declared.errors.KeepFault.{KeepFault}
use Rattle.mw_outside.specs.declared.errors.KeepFault.TheVariants.{Failed, Memory}
use Rattle.mw_store.specs.Loads.{LoadState, IsLoadOf, file_limit}
use Rattle.mw_keeping.specs.declared.opening.CacheFile.{CacheFile}
use Rattle.mw_keeping.specs.declared.opening.CacheFile.TheVariants.{Absent, Unread, Read}
use denote.Ref.{Bor}

-- so many bytes were read of a file that holds these, which have this load
pub record IsReadFile (held : List ℕ) (count : ℕ) (load : LoadState) : Type 0 where
  pub count_is : count ≡ length (take file_limit held)
  pub is_load : IsLoadOf held load

-- a file is there exactly where it has a name; where it was read, and the keeper tells, what counts of it was loaded,
-- and else nothing was
abbrev pub IsOpened : Bool → List ℕ → Option (Bor (List ℕ)) → CacheFile → LoadState → Type 0
IsOpened tells held None Absent load = load ≡ record { records = []; good = 0 }
IsOpened tells held (Some path) Unread load = load ≡ record { records = []; good = 0 }
IsOpened tells held (Some path) (Read count) load = IsTrue tells → IsReadFile held count load
IsOpened tells held _ _ load = ⊥

-- a file wasn't read only where the keeper's count of faults rose, and else the count stands
abbrev pub BlamesOpening : CacheFile → (old new : ℕ) → Type 0
BlamesOpening Unread old new = Rose old new
BlamesOpening _ old new = new ≡ old

-- a keeper was started once, with this name
abbrev pub IsStartedWith : (name : List ℕ) → (old new : List (List ℕ)) → Type 0
IsStartedWith name old new = new ≡ old ++ name ∷ []

-- it was, or it wasn't started
abbrev pub IsStartedAtMost : (name : List ℕ) → (old new : List (List ℕ)) → Type 0
IsStartedAtMost name old new = IsStartedWith name old new ⊎ (new ≡ old)

-- a keeper was started with the name of the file, if it has one: once, or at most once where the file wasn't read
abbrev pub IsStartedFor : Option (Bor (List ℕ)) → CacheFile → (old new : List (List ℕ)) → Type 0
IsStartedFor None file old new = new ≡ old
IsStartedFor (Some path) (Read count) old new = IsStartedWith path.now old new
IsStartedFor (Some path) file old new = IsStartedAtMost path.now old new

-- a keeper was started with no other name than this one, if it is one, and at most once
abbrev pub IsNoOtherStarted : Option (Bor (List ℕ)) → (old new : List (List ℕ)) → Type 0
IsNoOtherStarted None old new = new ≡ old
IsNoOtherStarted (Some path) old new = IsStartedAtMost path.now old new

-- a failure of the keeper comes only where its count of faults rose, and else the count stands
abbrev pub BlamesKeeper : {A : Type 0} → Result A KeepFault → (old new : ℕ) → Type 0
BlamesKeeper (Ok x) old new = new ≡ old
BlamesKeeper (Err Failed) old new = Rose old new
BlamesKeeper (Err (Memory error)) old new = new ≡ old
