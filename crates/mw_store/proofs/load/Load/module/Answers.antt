use Rattle.std.proofs.Common.{◌≡◌, ℕ, Vec, Global, subst, Some}
use Rattle.std.specs.Prelude.{slice_get}
use Rattle.mw_store.specs.declared.loaded.LoadedModule.{LoadedModule}
use Rattle.mw_store.specs.Loads.{IsLoaded}
use Rattle.mw_store.specs.Entries.{record_in}
use Rattle.mw_store.proofs.MapEntries.{at_place, loaded_at}
use Rattle.mw_store.proofs.ModuleShapes.{kernel_module_in, sound_module}
use Rattle.mw_store.proofs.load.Load.module.Goals as goal

pub module-requires-clause-limit : goal.module-requires-clause-limit
module-requires-clause-limit c =
    let e : Vec ℕ Global × LoadedModule = (c.in-Some.field-0-0.now, c.in-Some.loaded.now) in
    (loaded_at c.self.inside.records.entries c.args.at e c.self.invariant.0 c.in-Some.ensures.entry).within

pub module-requires-clause-sound : goal.module-requires-clause-sound
module-requires-clause-sound c =
    let e : Vec ℕ Global × LoadedModule = (c.in-Some.field-0-0.now, c.in-Some.loaded.now) in
    sound_module (record_in e)
    (loaded_at c.self.inside.records.entries c.args.at e c.self.invariant.0 c.in-Some.ensures.entry)

pub returns : goal.returns
returns c =
    let es = c.self.inside.records.entries in
    let e : Vec ℕ Global × LoadedModule = (c.in-Some.field-0-0.now, c.in-Some.loaded.now) in
    let is : IsLoaded (record_in e) = loaded_at es c.args.at e c.self.invariant.0 c.in-Some.ensures.entry in (
      record_in e,
      subst (λ s. slice_get s.records c.args.at ≡ Some (record_in e)) c.self.view_is
          (at_place es c.args.at e c.in-Some.ensures.entry),
      kernel_module_in (record_in e) c.module.result is c.module.ensures,
    )
