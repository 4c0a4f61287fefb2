-- What the objects in memory whose calls fail by plan are made of, in words.
use Rattle.std.specs.Prelude.{ℕ, List}
use Rattle.mw_outside.specs.declared.named.NamedFile.{NamedFile}
use Rattle.mw_outside.specs.declared.plan.Plan.{Plan}
use Rattle.mw_outside.specs.declared.scripted.MemSource.{MemSource}
use Rattle.mw_outside.specs.declared.scripted.MemSink.{MemSink}
use Rattle.mw_outside.specs.declared.scripted.MemKeeper.{MemKeeper}
use Rattle.mw_outside.specs.Sure.{sure_files, sure_source_step, IsSureUnderWay, sure_left}
use Rattle.mw_outside.specs.Sure.{sure_written, sure_sink_step, sure_held, sure_opened}

-- the files of a source
abbrev pub files_of : MemSource → List NamedFile
files_of source = sure_files source.source

-- which of its calls fail
abbrev pub source_plan : MemSource → Plan
source_plan source = source.plan

-- the most bytes that one of its calls moves
abbrev pub source_step : MemSource → ℕ
source_step source = sure_source_step source.source

-- a file was started
abbrev pub IsUnderWay : MemSource → Type 0
IsUnderWay source = IsSureUnderWay source.source

-- what is left of the started file
abbrev pub left_of : MemSource → List ℕ
left_of source = sure_left source.source

-- the bytes written to a sink
abbrev pub written_of : MemSink → List ℕ
written_of sink = sure_written sink.sink

-- which of its calls fail
abbrev pub sink_plan : MemSink → Plan
sink_plan sink = sink.plan

-- the most bytes that one of its calls moves
abbrev pub sink_step : MemSink → ℕ
sink_step sink = sure_sink_step sink.sink

-- the bytes that a keeper holds
abbrev pub held_of : MemKeeper → List ℕ
held_of keeper = sure_held keeper.keeper

-- the names with which it was started
abbrev pub opened_of : MemKeeper → List (List ℕ)
opened_of keeper = sure_opened keeper.keeper

-- which of its calls fail
abbrev pub keeper_plan : MemKeeper → Plan
keeper_plan keeper = keeper.plan
