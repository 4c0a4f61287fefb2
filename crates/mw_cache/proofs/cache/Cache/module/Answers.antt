use Rattle.std.proofs.Common.{sym, ap, ◌∙◌, subst}
use Rattle.std.specs.Arc.{arc_value}
use Rattle.mw_cache.specs.Gots.{text_in}
use Rattle.mw_cache.proofs.Modules.{IsAt, wasm_at, shape_at, stands_at, entry_shape_in, entry_stands_in}
use Rattle.mw_cache.proofs.cache.Cache.module.Goals as goal

pub returns-in-Loaded-clause-wasm : goal.returns-in-Loaded-clause-wasm
returns-in-Loaded-clause-wasm c =
    wasm_at c.module.result c.args.self.now c.args.got.now c.in-Loaded.at c.in-Loaded.is
    (subst (λ s. IsAt s.load c.in-Loaded.at c.module.result) c.self.view_is c.module.ensures)

pub returns-in-Loaded-clause-shape : goal.returns-in-Loaded-clause-shape
returns-in-Loaded-clause-shape c =
    shape_at c.module.result c.args.self.now.load c.in-Loaded.at _ (ap (λ g. text_in c.args.self.now g) c.in-Loaded.is)
    (subst (λ s. IsAt s.load c.in-Loaded.at c.module.result) c.self.view_is c.module.ensures)

pub returns-in-Loaded-clause-stands : goal.returns-in-Loaded-clause-stands
returns-in-Loaded-clause-stands c =
    stands_at c.module.result c.args.self.now.load c.in-Loaded.at _ (ap (λ g. text_in c.args.self.now g) c.in-Loaded.is)
    (subst (λ s. IsAt s.load c.in-Loaded.at c.module.result) c.self.view_is c.module.ensures)

pub returns-in-Stored-clause-shape : goal.returns-in-Stored-clause-shape
returns-in-Stored-clause-shape c =
    entry_shape_in c.try_clone.result c.read.result.now (arc_value c.module-in-Stored.result.now) c.try_clone.ensures _
    (ap (λ g. text_in c.args.self.now g) c.in-Stored.is ∙ sym (ap (λ e. e.text) c.read.ensures))
    c.module-in-Stored.ensures.wasm c.module-in-Stored.ensures.kept

pub returns-in-Stored-clause-stands : goal.returns-in-Stored-clause-stands
returns-in-Stored-clause-stands c =
    entry_stands_in c.try_clone.result c.read.result.now (arc_value c.module-in-Stored.result.now) c.try_clone.ensures
    c.args.self.now.load _
    (ap (λ g. text_in c.args.self.now g) c.in-Stored.is ∙ sym (ap (λ e. e.text) c.read.ensures))
    c.module-in-Stored.ensures.wasm c.module-in-Stored.ensures.kept

pub returns-in-Own-clause-shape : goal.returns-in-Own-clause-shape
returns-in-Own-clause-shape c =
    entry_shape_in c.try_clone-in-Own.result c.deref.result.now (arc_value c.module-in-Own.result.now)
    c.try_clone-in-Own.ensures _
    (ap (λ g. text_in c.args.self.now g) c.in-Own.is ∙ sym (ap (λ e. e.text) c.deref.ensures))
    c.module-in-Own.ensures.wasm c.module-in-Own.ensures.kept

pub returns-in-Own-clause-stands : goal.returns-in-Own-clause-stands
returns-in-Own-clause-stands c =
    entry_stands_in c.try_clone-in-Own.result c.deref.result.now (arc_value c.module-in-Own.result.now)
    c.try_clone-in-Own.ensures c.args.self.now.load _
    (ap (λ g. text_in c.args.self.now g) c.in-Own.is ∙ sym (ap (λ e. e.text) c.deref.ensures))
    c.module-in-Own.ensures.wasm c.module-in-Own.ensures.kept
