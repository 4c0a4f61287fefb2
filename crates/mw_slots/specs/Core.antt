-- The table as a pure machine: what becomes of its slots and of its askers, in whatever order the events come.
use Rattle.std.specs.Prelude.{◌≡◌, ◌≢◌, ℕ, ◌+◌, ◌%◌, ◌<◌, ◌≤◌, ◌==◌, ◌⊎◌, List, [], ◌∷◌, length, slice_get, slice_set}
use Rattle.std.specs.Prelude.{replicate, Option, if◌then◌else◌}
use Rattle.std.specs.declared.option.Option.TheVariants.{Some, None}

abbrev pub Name : Type 0
Name = List ℕ

-- An asker goes on, or has ended: with a slot that holds its name, or with sixteen slots that hold other names.
pub data Standing : Type 0 where
  going : Standing
  has : Standing
  no_room : Standing

-- who asks for a name, and how many places of the name's window it has passed
pub record Asker : Type 0 where
  pub name : Name
  pub passed : ℕ
  pub standing : Standing

abbrev pub asker : Name → ℕ → Standing → Asker
asker x p s = record { name = x; passed = p; standing = s }

-- the slots, each empty or with the name of the entry that fills it, and the askers by their numbers
pub record State : Type 0 where
  pub slots : List (Option Name)
  pub askers : ℕ → Option Asker

-- no slot is filled, and nobody has asked
abbrev pub empty : ℕ → State
empty n = record { slots = replicate n None; askers = λ w. None }

-- An asker begins, looks at its next slot, which is filled, or fills that slot, which is empty.
pub data Event : Type 0 where
  begin : (w : ℕ) (x : Name) → Event
  look : (w : ℕ) → Event
  fill : (w : ℕ) → Event

abbrev pub with_asker : (ℕ → Option Asker) → ℕ → Asker → ℕ → Option Asker
with_asker askers w a v = if v == w then Some a else askers v

-- the slot is filled, by an entry of this name
abbrev pub HasName : List (Option Name) → ℕ → Name → Type 0
HasName slots i x = slice_get slots i ≡ Some (Some x)

module _ (home : Name → ℕ) where
  -- the slot at place k of a name's window, which goes round the end of the table
  abbrev pub place : List (Option Name) → Name → ℕ → ℕ
  place slots x k = (home x + k) % length slots

  -- the slot at an asker's next place
  abbrev pub next : List (Option Name) → Asker → ℕ
  next slots a = place slots a.name a.passed

  -- place k of a name's window holds another name
  abbrev pub IsOther : List (Option Name) → Name → ℕ → Type 0
  IsOther slots x k = (y : Name) × HasName slots (place slots x k) y × (y ≢ x)

  -- what one event does
  abbrev pub Steps : State → Event → State → Type 0
  Steps s (begin w x) s' =
      (s.askers w ≡ None)
      × (s' ≡ record { slots = s.slots; askers = with_asker s.askers w (asker x 0 going) })
  Steps s (look w) s' =
      (a : Asker) × (y : Name) × (s.askers w ≡ Some a) × (a.standing ≡ going) × HasName s.slots (next s.slots a) y
      × (((y ≡ a.name) × (s' ≡ record { slots = s.slots; askers = with_asker s.askers w (asker a.name a.passed has) }))
      ⊎ ((y ≢ a.name)
      × (s' ≡ record {
        slots = s.slots;
        askers = with_asker s.askers w (asker a.name (a.passed + 1) (if a.passed + 1 == 16 then no_room else going));
      })))
  Steps s (fill w) s' =
      (a : Asker) × (s.askers w ≡ Some a) × (a.standing ≡ going) × (slice_get s.slots (next s.slots a) ≡ Some None)
      × (s' ≡ record {
        slots = slice_set s.slots (next s.slots a) (Some a.name);
        askers = with_asker s.askers w (asker a.name a.passed has);
      })

  -- what a list of events does
  abbrev pub Follows : State → List Event → State → Type 0
  Follows s [] s' = s ≡ s'
  Follows s (e ∷ es) s' = (m : State) × Steps s e m × Follows m es s'

  -- what holds after any events, `before`, and after more of them
  pub record Core (before after : State) : Type 0 where
    -- a filled slot never changes
    pub kept : (i : ℕ) (x : Name) → HasName before.slots i x → HasName after.slots i x
    -- a name stands in one slot at most
    pub once : (i j : ℕ) (x : Name) → HasName after.slots i x → HasName after.slots j x → i ≡ j
    -- an asker that has a slot has one that holds its name
    pub has_name : (w : ℕ) (a : Asker) → after.askers w ≡ Some a → a.standing ≡ has
        → HasName after.slots (next after.slots a) a.name
    -- an asker without room has found sixteen slots that hold other names
    pub sixteen_others : (w : ℕ) (a : Asker) → after.askers w ≡ Some a → a.standing ≡ no_room
        → (k : ℕ) → k < 16 → IsOther after.slots a.name k
    -- each place that an asker has passed holds another name
    pub passed : (w : ℕ) (a : Asker) → after.askers w ≡ Some a
        → (k : ℕ) → k < a.passed → IsOther after.slots a.name k
    -- a name stands in its window, and all earlier places of the window hold other names
    pub in_window : (i : ℕ) (x : Name) → HasName after.slots i x
        → (k : ℕ) × (k < 16) × (i ≡ place after.slots x k) × ((j : ℕ) → j < k → IsOther after.slots x j)
    -- an asker that goes on can look at its next slot, or fill it
    pub goes_on : (w : ℕ) (a : Asker) → after.askers w ≡ Some a → a.standing ≡ going
        → (s : State) × (Steps after (look w) s ⊎ Steps after (fill w) s)

-- from a table of at least sixteen empty slots, whatever home each name has
abbrev pub TableCore : Type 0
TableCore =
    (home : Name → ℕ) (n : ℕ) (es fs : List Event) (before after : State)
    → 16 ≤ n → Follows home (empty n) es before → Follows home before fs after → Core home before after
