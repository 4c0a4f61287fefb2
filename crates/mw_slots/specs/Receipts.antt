-- What receipts know of a table, which a contract sees as the list of its cells' names, one for each slot.
use Rattle.std.specs.Prelude.{◌≡◌, ◌≢◌, ℕ, ◌+◌, ◌%◌, ◌<◌, List, length, slice_get}
use Rattle.std.specs.declared.option.Option.TheVariants.{Some}

-- an entry that stands in a slot for good, and the cells that were passed over before it, with their entries
pub record Known (X : Type 0) : Type 0 where
  pub slot : ℕ
  pub cell : ℕ
  pub entry : X
  pub passed : List (ℕ × X)

-- the slot at place k of the window that begins at start
abbrev pub window : List ℕ → ℕ → ℕ → ℕ
window cells start k = (start + k) % length cells

module _ {X : Type 0} where
  -- the receipt's slot is one of the table's
  abbrev pub IsOf : List ℕ → Known X → Type 0
  IsOf cells r = slice_get cells r.slot ≡ Some r.cell

  module _ (name_of : X → List ℕ) where
    -- the cell at place k of the window has an entry of another name
    abbrev pub IsOther : List ℕ → ℕ → List ℕ → ℕ → ℕ × X → Type 0
    IsOther cells start name k p = (slice_get cells (window cells start k) ≡ Some p.0) × (name_of p.1 ≢ name)

    -- so have the cells at the first places of the window
    abbrev pub AllOther : List ℕ → ℕ → List ℕ → List (ℕ × X) → Type 0
    AllOther cells start name passed =
        (k : ℕ) (p : ℕ × X) → slice_get passed k ≡ Some p → IsOther cells start name k p

    -- fewer than sixteen were passed over, and the next cell of the window has an entry of this name
    pub record Ends (cells : List ℕ) (start : ℕ) (name : List ℕ) (passed : List (ℕ × X)) (p : ℕ × X) : Type 0 where
      pub near : length passed < 16
      pub cell : slice_get cells (window cells start (length passed)) ≡ Some p.0
      pub same : name_of p.1 ≡ name

    -- the entry has this name, and each earlier slot of the window has an entry of another name
    pub record IsFirst (cells : List ℕ) (start : ℕ) (name : List ℕ) (r : Known X) : Type 0 where
      pub table : IsOf cells r
      pub name_is : name_of r.entry ≡ name
      pub near : length r.passed < 16
      pub slot_is : r.slot ≡ window cells start (length r.passed)
      pub others : AllOther cells start name r.passed

    -- what `fetch` answers: the window is that of the entry's name
    abbrev pub IsFetched : (List ℕ → ℕ) → List ℕ → Known X → Type 0
    IsFetched home cells r = IsFirst cells (home (name_of r.entry)) (name_of r.entry) r

    -- the receipt is of the slot at place k, which has an entry of another name
    pub record IsTaken (cells : List ℕ) (start : ℕ) (name : List ℕ) (k : ℕ) (r : Known X) : Type 0 where
      pub table : IsOf cells r
      pub slot_is : r.slot ≡ window cells start k
      pub other : name_of r.entry ≢ name

    -- receipts of the first slots of the window, each of another name
    abbrev pub AllTaken : List ℕ → ℕ → List ℕ → List (Known X) → Type 0
    AllTaken cells start name rs = (k : ℕ) (r : Known X) → slice_get rs k ≡ Some r → IsTaken cells start name k r

    -- sixteen receipts, one for each slot of the window, each of another name
    pub record IsFull (cells : List ℕ) (start : ℕ) (name : List ℕ) (rs : List (Known X)) : Type 0 where
      pub sixteen : length rs ≡ 16
      pub taken : AllTaken cells start name rs
