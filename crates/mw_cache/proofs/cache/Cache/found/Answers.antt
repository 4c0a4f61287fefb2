use Rattle.std.proofs.Common.{position, ap, ◌∙◌}
use Rattle.std.specs.Str.{bytes_eq}
use Rattle.mw_cache.proofs.LoadedTexts.{text_found, is_loaded, nowhere, unloaded_got}
use Rattle.mw_cache.proofs.cache.Cache.found.Goals as goal

pub returns-in-Some-clause-text : goal.returns-in-Some-clause-text
returns-in-Some-clause-text g c =
    text_found c.args.self.now.load c.args.text.now c.in-Some.at
    (c.in-Some.ensures ∙ ap (λ s. position (λ l. bytes_eq c.args.text.now l.text) s.load.records) c.self.view_is)

pub returns-in-Some-clause-loaded : goal.returns-in-Some-clause-loaded
returns-in-Some-clause-loaded g c = (
  (λ _.
      is_loaded c.args.self.now.load c.args.text.now c.in-Some.at
      (c.in-Some.ensures ∙ ap (λ s. position (λ l. bytes_eq c.args.text.now l.text) s.load.records) c.self.view_is)),
  λ _. tt,
)

pub returns-then-eq-clause-loaded : goal.returns-then-eq-clause-loaded
returns-then-eq-clause-loaded g c = (
  (λ h. absurd h),
  nowhere c.args.self.now.load c.args.text.now
      (c.in_default.ensures ∙ ap (λ s. position (λ l. bytes_eq c.args.text.now l.text) s.load.records) c.self.view_is),
)

pub returns-clause-loaded : goal.returns-clause-loaded
returns-clause-loaded g c =
    unloaded_got c.args.self.now c.args.text.now c.fetch.result c.fetch.ensures.unloaded
    (nowhere c.args.self.now.load c.args.text.now
    (c.in_default.ensures ∙ ap (λ s. position (λ l. bytes_eq c.args.text.now l.text) s.load.records) c.self.view_is))

pub returns-clause-free : goal.returns-clause-free
returns-clause-free g c = λ h. absurd (
    nowhere c.args.self.now.load c.args.text.now
    (c.in_default.ensures ∙ ap (λ s. position (λ l. bytes_eq c.args.text.now l.text) s.load.records) c.self.view_is) h)
