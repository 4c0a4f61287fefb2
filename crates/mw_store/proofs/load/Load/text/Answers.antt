use Rattle.std.proofs.Common.{◌≡◌, ℕ, Vec, Global, subst, Some}
use Rattle.std.specs.Prelude.{slice_get}
use Rattle.mw_store.specs.declared.loaded.LoadedModule.{LoadedModule}
use Rattle.mw_store.specs.Entries.{record_in}
use Rattle.mw_store.proofs.MapEntries.{at_place}
use Rattle.mw_store.proofs.load.Load.text.Goals as goal

pub returns : goal.returns
returns c =
    let e : Vec ℕ Global × LoadedModule = (c.in-Some.text.now, c.in-Some.field-0-1.now) in (
      record_in e,
      subst (λ s. slice_get s.records c.args.at ≡ Some (record_in e)) c.self.view_is
          (at_place c.self.inside.records.entries c.args.at e c.in-Some.ensures.entry),
      c.as_slice.ensures.value,
    )
