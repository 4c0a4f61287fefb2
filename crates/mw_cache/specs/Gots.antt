-- Where the module of a text is.
use Rattle.std.specs.Prelude.{◌≡◌, ℕ, ◌<◌, List, [], map, length, slice_get, get_or, Some}
use Rattle.std.specs.Arc.{arc_value}
use Rattle.mw_slots.specs.Receipts.{Known, IsOf, IsFetched}
use Rattle.mw_slots.specs.Refusals.{HasNoRoom}
use Rattle.mw_wasm.specs.BinaryModules.{Spells}
use Rattle.mw_wasm.specs.Views.{module_of}
use Rattle.mw_wasm.specs.declared.modules.Module.{Module}
use Rattle.mw_key.specs.CanonicalText.{home}
use Rattle.mw_store.specs.Loads.{Loaded as LoadedRecord, LoadState}
use Rattle.mw_compile.specs.Emission.{IsEmissionOf}
use Rattle.mw_compile.specs.Entries.{Emitted}
use Rattle.mw_cache.specs.declared.got.Got.{Got}
use Rattle.mw_cache.specs.declared.got.Got.TheVariants.{Loaded, Stored, Own}

-- what contracts see of a cache: the cells of its table, one for each slot, and what was loaded
pub record CacheState : Type 0 where
  pub cells : List ℕ
  pub load : LoadState

abbrev pub entry_text : Emitted → List ℕ
entry_text e = e.text

abbrev pub texts_of : List (Known Emitted) → List (List ℕ)
texts_of receipts = map (λ r. r.entry.text) receipts

-- the texts that were loaded
abbrev pub loaded_texts : LoadState → List (List ℕ)
loaded_texts load = map (λ l. l.text) load.records

-- the text of the record at a place, and none where there is no record
abbrev pub text_at : LoadState → ℕ → List ℕ
text_at load at = get_or (loaded_texts load) at []

-- the text whose module it is
abbrev pub text_in : CacheState → Got → List ℕ
text_in cache (Loaded at) = text_at cache.load at
text_in cache (Stored r) = r.entry.text
text_in cache (Own n) = (arc_value n.own).text

-- It is of this cache: a number is that of a loaded record, and a receipt is of its table; beside the table, all slots
-- of the text's window have other texts.
abbrev pub IsHere : CacheState → Got → Type 0
IsHere cache (Loaded at) = at < length cache.load.records
IsHere cache (Stored r) = IsOf cache.cells r
IsHere cache (Own n) = HasNoRoom entry_text cache.cells (home (arc_value n.own).text) (arc_value n.own).text n

-- a receipt is one that the table answered, or a copy of one
abbrev pub IsAnswered : CacheState → Got → Type 0
IsAnswered cache (Loaded at) = Unit {0}
IsAnswered cache (Stored r) = IsFetched entry_text home cache.cells r
IsAnswered cache (Own n) = Unit {0}

-- where both are in the table and are of one text, they are in one slot
abbrev pub HaveOneSlot : Got → Got → Type 0
HaveOneSlot (Stored r) (Stored s) = r.entry.text ≡ s.entry.text → r.slot ≡ s.slot
HaveOneSlot _ _ = Unit {0}

-- it is a record that was loaded
abbrev pub IsLoadedGot : Got → Type 0
IsLoadedGot (Loaded at) = Unit {0}
IsLoadedGot _ = ⊥

-- a record of the text was loaded
abbrev pub IsLoadedText : LoadState → List ℕ → Type 0
IsLoadedText load text = (at : ℕ) × (l : LoadedRecord) × (slice_get load.records at ≡ Some l) × (l.text ≡ text)

-- no record of the text was loaded, or the bytes of its module are the emission of the text
abbrev pub IsRight : LoadState → List ℕ → Type 0
IsRight load text = (at : ℕ) (l : LoadedRecord) → slice_get load.records at ≡ Some l → l.text ≡ text
    → IsEmissionOf l.bytes text

-- the bytes of the module
abbrev pub HasBytes : CacheState → Got → List ℕ → Type 0
HasBytes cache (Loaded at) bytes = (l : LoadedRecord) × (slice_get cache.load.records at ≡ Some l) × (bytes ≡ l.bytes)
HasBytes cache (Stored r) bytes = bytes ≡ r.entry.bytes
HasBytes cache (Own n) bytes = bytes ≡ (arc_value n.own).bytes

-- the module, which of a loaded record is the one that its bytes spell
abbrev pub HasWasm : CacheState → Got → Module → Type 0
HasWasm cache (Loaded at) wasm = (l : LoadedRecord) × (slice_get cache.load.records at ≡ Some l)
    × Spells l.bytes (module_of wasm)
HasWasm cache (Stored r) wasm = wasm ≡ r.entry.wasm
HasWasm cache (Own n) wasm = wasm ≡ (arc_value n.own).wasm
