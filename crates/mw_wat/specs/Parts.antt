-- Parts of readers, under names of their own.
use Rattle.std.specs.Prelude.{ℕ, Bool, true, false, List, [], map, Option, Some, None}
use Rattle.mw_wasm.specs.declared.values.ValType.{ValType}
use Rattle.mw_wasm.specs.declared.modules.FuncType.{FuncType}
use Rattle.mw_wasm.specs.Syntax.{Instruction}
use Rattle.mw_wat.specs.Reading.{Read, got, and_then, Reader, ◌>>=◌, gives, peek, skip, closing, value_type, if_opened}
use Rattle.mw_wat.specs.Instructions.{table_behind, Opener, block_type, inside, instructions}
use Rattle.mw_wat.specs.Modules.{some_locals, with_params, as_limit, variable, Fields, next_field}
use Rattle.mw_wat.specs.Cursors.{is_word}

abbrev pub locals : Reader (List ValType)
locals = if_opened some_locals (gives [])

abbrev pub signature : Reader FuncType
signature = if_opened with_params (closing >>= λ _. gives (record { params = []; results = [] }))

-- labels that were read before, and those still read
abbrev pub branches : List ℕ → ℕ → Read (List ℕ) → Read Instruction
branches front label read = and_then read λ labels rest. got (table_behind front label labels) rest

-- behind the word of a block
abbrev pub behind_opener : ℕ → Opener → Reader Instruction
behind_opener room o = block_type >>= inside instructions room o

-- a field of this word where it comes next, and whether another is opened behind it
abbrev pub behind_word : {A : Type 0} → Reader A → Bool → Reader (Option (A × Bool))
behind_word field false = gives None
behind_word field true = do
  x ← field
  going ← next_field
  gives (Some (x, going))

abbrev pub one_field : {A : Type 0} → List ℕ → Reader A → Reader (Option (A × Bool))
one_field w field = is_word w >>= behind_word field

abbrev pub found_of : {X A : Type 0} → (X → A) → Option (X × Bool) → Option (A × Bool)
found_of view None = None
found_of view (Some x) = Some (view x.0, x.1)

abbrev pub fields_of : {X A : Type 0} → (X → A) → List X → Bool → Fields A
fields_of view list going = record { list = map view list; going = going }

-- at most one field of this word, and whether another field is opened behind it
abbrev pub single_of : {A : Type 0} → Option (A × Bool) → Option A × Bool
single_of None = (None, true)
single_of (Some x) = (Some x.0, x.1)

abbrev pub single : {A : Type 0} → List ℕ → Reader A → Bool → Reader (Option A × Bool)
single w field false = gives (None, false)
single w field true = one_field w field >>= λ o. gives (single_of o)

abbrev pub global_type : Reader (ValType × Bool)
global_type = if_opened variable (value_type >>= λ t. gives (t, false))

-- a number, where one comes next
abbrev pub maximum_by : Option ℕ → Reader (Option ℕ)
maximum_by None = gives None
maximum_by (Some n) = skip (gives (Some n))

abbrev pub maximum : Reader (Option ℕ)
maximum = peek λ t. maximum_by (as_limit t)

abbrev pub listed_fields : {A : Type 0} → List A → Bool → Fields A
listed_fields list going = record { list = list; going = going }
