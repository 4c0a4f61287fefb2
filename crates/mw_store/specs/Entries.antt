-- Loaded records as the entries of a map.
use Rattle.std.specs.Prelude.{ℕ, Vec}
use Rattle.std.specs.Global.{Global}
use Rattle.mw_store.specs.Loads.{Loaded}
use Rattle.mw_store.specs.declared.loaded.LoadedModule.{LoadedModule}

-- the record that a text and the bytes of a module are
abbrev pub record_in : Vec ℕ Global × LoadedModule → Loaded
record_in e = record { text = e.0.items; bytes = e.1.bytes.items }
