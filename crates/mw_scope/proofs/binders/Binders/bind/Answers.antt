use Rattle.std.proofs.Common.{◌≡◌, Bool, true, false, cond, Option, Some, refl, sym, ◌∙◌, bytes_eq}
use mathlib.Core.Path.{fun_ext}
use Rattle.std.specs.Option.{IsSome, option_flatten}
use Rattle.indexmap.specs.IndexMap.{get_by}
use Rattle.mw_scope.proofs.Places.{lookup-insert, lookup-write}
use Rattle.mw_scope.proofs.binders.Binders.bind.Goals as goal

flatten-cond : {A : Type 0} (t : Bool) (b : Option A) (o : Option (Option A)) → option_flatten (cond t (Some b) o)
    ≡ cond t b (option_flatten o)
flatten-cond true b o = refl
flatten-cond false b o = refl

pub returns-in-Some-clause-bound : goal.returns-in-Some-clause-bound
returns-in-Some-clause-bound c = fun_ext (λ x.
    let name = c.args.name.now in
    let here : IsSome (get_by (λ k. bytes_eq name k.items) c.args.self.now.nearest) =
    rw (sym c.as_slice.ensures, sym c.get_mut.ensures.value, c.in-Some.is) refl in
    let written = rw c.as_slice.ensures at (c.get_mut.follows.holds c.args.bound).0 in
    rw (
      written,
      lookup-write (λ k. k.items) c.args.self.now.nearest.entries name c.args.bound x here,
    ) (flatten-cond (bytes_eq x name) c.args.bound _))

pub returns-clause-bound : goal.returns-clause-bound
returns-clause-bound c = fun_ext (λ x.
    let key : c.in_ok-key.key.items ≡ c.args.name.now = c.in_ok-key.ensures.items ∙ c.as_slice-2.ensures in
    rw (
      c.in_ok-insert.ensures.entries,
      lookup-insert _ (λ k. k.items) (λ a b. refl) c.get_mut.follows.lender-at-none.entries
          c.in_ok-key.key c.args.bound x,
      key,
      c.get_mut.follows.holds-at-none,
    ) (flatten-cond (bytes_eq x c.args.name.now) c.args.bound _))
