-- What the objects in memory that never fail are made of, in words.
use Rattle.std.specs.Prelude.{ℕ, List, [], cond, drop, IsTrue}
use Rattle.mw_outside.specs.declared.named.NamedFile.{NamedFile}
use Rattle.mw_outside.specs.declared.sure.SureSource.{SureSource}
use Rattle.mw_outside.specs.declared.sure.SureSink.{SureSink}
use Rattle.mw_outside.specs.declared.sure.SureKeeper.{SureKeeper}
use Rattle.mw_outside.specs.Lookup.{bytes_at}

-- the files of a source
abbrev pub sure_files : SureSource → List NamedFile
sure_files source = source.files

-- the most bytes that one of its calls moves
abbrev pub sure_source_step : SureSource → ℕ
sure_source_step source = source.step

-- a file was started
abbrev pub IsSureUnderWay : SureSource → Type 0
IsSureUnderWay source = IsTrue source.started

-- what is left of the started file
abbrev pub sure_left : SureSource → List ℕ
sure_left source = cond source.started (drop source.place (bytes_at source.files source.index)) []

-- the bytes written to a sink
abbrev pub sure_written : SureSink → List ℕ
sure_written sink = sink.content

-- the most bytes that one of its calls moves
abbrev pub sure_sink_step : SureSink → ℕ
sure_sink_step sink = sink.step

-- the bytes that a keeper holds
abbrev pub sure_held : SureKeeper → List ℕ
sure_held keeper = keeper.bytes

-- the names with which a keeper was started
abbrev pub sure_opened : SureKeeper → List (List ℕ)
sure_opened keeper = keeper.opened
