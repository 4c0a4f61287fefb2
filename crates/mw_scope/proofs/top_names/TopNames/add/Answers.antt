use Rattle.std.proofs.Common.{bytes_eq, ◌≡◌, ℕ, false, Option, None, Some, cond, ap, refl, sym, ◌∙◌}
use Rattle.std.proofs.lemmas.Slice.Eq.{bytes_eq-Decides}
use Rattle.std.specs.Prelude.{is_some}
use Rattle.mw_scope.specs.Views.{place_at}
use Rattle.mw_scope.proofs.Places.{lookup-insert, place_added}
use Rattle.mw_scope.proofs.top_names.TopNames.add.Goals as goal

none_there : (o : Option ℕ) → is_some o ≡ false → o ≡ None
none_there None e = refl
none_there (Some i) e = absurd (cc e)

pub returns : goal.returns
returns c = λ x.
    let key : c.in_ok-key.key.items ≡ c.args.name.now = c.in_ok-key.ensures.items ∙ c.as_slice.ensures in
    let none : place_at c.args.self.now c.args.name.now ≡ None = sym c.find.ensures
    ∙ none_there _ (sym c.is_some.ensures ∙ c.if-is_some.false) in
    let here : place_at (record { places = c.insert.new.self }) x ≡ cond (bytes_eq x c.args.name.now) (Some c.args.at)
    (place_at c.args.self.now x) =
    rw (c.in_ok-insert.ensures.entries, sym key)
    (lookup-insert _ (λ k. k.items) (λ a b. refl) c.args.self.now.places.entries c.in_ok-key.key c.args.at x)
    in
    place_added (place_at c.args.self.now x) _ (bytes_eq x c.args.name.now) c.args.at
    (λ e. ap (λ y. place_at c.args.self.now y) ((bytes_eq-Decides x c.args.name.now).0 e) ∙ none) here
