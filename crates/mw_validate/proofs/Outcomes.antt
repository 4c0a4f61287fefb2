-- What comes of a body.
use Rattle.std.proofs.Common.{◌≡◌, ℕ, true, false, ◌++◌, [], Option, Some, None, sym, ap, ◌∙◌}
use Rattle.std.specs.Prelude.{slice_get, is_none}
use Rattle.std.proofs.lemmas.Option.{same_Some}
use Rattle.mw_wasm.specs.declared.modules.FuncType.{FuncType}
use Rattle.mw_wasm.specs.Syntax.{Function, PureModule}
use Rattle.mw_wasm.specs.Validity.{context_of}
use Rattle.mw_validate.specs.Checks.{PassesBody}
use Rattle.mw_validate.specs.Deciding.{NoneWhere}
use Rattle.mw_validate.specs.Turns.{body_passes}

pub placed : (m : PureModule) (f : Function) (t : FuncType) (at : Option ℕ) → slice_get m.types f.kind ≡ Some t
    → is_none at ≡ body_passes
    (record (context_of m) { locals = t.params ++ f.locals; labels = []; results = t.results }) f.body
    → NoneWhere at (PassesBody m f)
placed m f t None here e = (t, here, sym e)
placed m f t (Some at) here e = λ p.
    never (e ∙
    (ap (λ (t : FuncType).
    body_passes (record (context_of m) { locals = t.params ++ f.locals; labels = []; results = t.results }) f.body)
    (same_Some t p.0 (sym here ∙ p.1)) ∙ p.2))
  where
    never : false ≡ true → ⊥
    never e = cc
