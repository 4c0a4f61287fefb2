use Rattle.std.proofs.Common.{map, All, Contains, ap, ◌∙◌, refl, sym, subst}
use Rattle.std.proofs.lemmas.List.Elements.{Contains-append_right}
use Rattle.mw_cache.specs.Gots.{IsHere, text_in}
use Rattle.mw_drive.specs.HeldFiles.{texts_built}
use Rattle.mw_keeping.proofs.KeptFiles.{front_stays}
use Rattle.mw_drive.proofs.kept.keep_run.Goals as goal

pub returns-in_err-receipts-in-Read-clause-front : goal.returns-in_err-receipts-in-Read-clause-front
returns-in_err-receipts-in-Read-clause-front g c = λ count is tells. front_stays _ _ refl

pub returns-in_err-gots-in-Read-clause-front : goal.returns-in_err-gots-in-Read-clause-front
returns-in_err-gots-in-Read-clause-front g c = λ count is tells. front_stays _ _ refl

pub keep-requires-clause-here : goal.keep-requires-clause-here
keep-requires-clause-here g c =
    subst (λ gs. All (λ g. IsHere c.args.cache.now g.now) gs) (sym c.as_slice-in-Read-2.ensures.value)
    (c.in_ok-gots-in-Read.ensures.here c.args.cache.now (rw (← c.as_slice.ensures.value) at c.requires.built))

pub returns-in-Ok-clause-kept : goal.returns-in-Ok-clause-kept
returns-in-Ok-clause-kept g c = λ count is own tells.
    let cache = c.args.cache.now in
    let texts =
    ap (λ gs. map (λ g. text_in cache g.now) gs) c.as_slice-in-Read-2.ensures.value
    ∙ c.in_ok-gots-in-Read.ensures.texts cache ∙ ap (texts_built cache) c.as_slice.ensures.value in
    record {
      wanted = _;
      among = λ text inside. Contains-append_right _ _ text (subst (λ ts. Contains ts text) (sym texts) inside);
      keeps = c.in-Ok.ensures.kept tells;
    }
