use Rattle.std.proofs.Common.{◌≡◌, ℕ, Vec, Global, subst, Some}
use Rattle.std.specs.Prelude.{slice_get}
use Rattle.mw_term.specs.Terms.{expression_of, kernel_type_of}
use Rattle.mw_key.specs.CanonicalText.{IsTextOf}
use Rattle.mw_store.specs.declared.loaded.LoadedModule.{LoadedModule}
use Rattle.mw_store.specs.Entries.{record_in}
use Rattle.mw_store.proofs.MapEntries.{at_place}
use Rattle.mw_store.proofs.load.Load.kernel.Goals as goal

pub returns-in-Ok : goal.returns-in-Ok
returns-in-Ok c =
    let e : Vec ℕ Global × LoadedModule = (c.in-Some.text.now, c.in-Some.field-0-1.now) in
    let k = c.in-Ok.kernel in (
      record_in e,
      subst (λ s. slice_get s.records c.args.at ≡ Some (record_in e)) c.self.view_is
          (at_place c.self.inside.records.entries c.args.at e c.in-Some.ensures.entry),
      subst (λ t. IsTextOf t k.0 (expression_of k.1) (kernel_type_of k.2)) c.as_slice.ensures.value
          c.in-Ok.ensures.read,
    )

pub returns-in-Err-Memory : goal.returns-in-Err-Memory
returns-in-Err-Memory c =
    let e : Vec ℕ Global × LoadedModule = (c.in-Some.text.now, c.in-Some.field-0-1.now) in (
      record_in e,
      subst (λ s. slice_get s.records c.args.at ≡ Some (record_in e)) c.self.view_is
          (at_place c.self.inside.records.entries c.args.at e c.in-Some.ensures.entry),
      tt,
    )
