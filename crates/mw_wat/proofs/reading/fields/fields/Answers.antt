use Rattle.std.proofs.Common.{◌<◌, ap, subst, ◌∙◌}
use Rattle.std.specs.Prelude.{IfSome}
use Rattle.mw_wat.specs.Reading.{count, got}
use Rattle.mw_wat.specs.Cursors.{tokens_at}
use Rattle.mw_wat.specs.Parts.{found_of}
use Rattle.mw_wat.proofs.FieldLoops.{fields_fail, fields_more, fields_none}
use Rattle.mw_wat.proofs.reading.fields.fields.Goals as goal

pub returns-in-Err : goal.returns-in-Err
returns-in-Err g c =
    fields_fail g.T.TextField.seen c.args.word.now g.T.TextField.reader c.loop-going.list c.loop-going.going
    (tokens_at c.loop-going.left) _ c.loop-going.invariant c.in-Err.e c.in-Err.ensures.gives c.loop-going-test.true

pub returns-in-None : goal.returns-in-None
returns-in-None g c =
    fields_none g.T.TextField.seen c.args.word.now g.T.TextField.reader c.loop-going.list c.loop-going.going
    (tokens_at c.loop-going.left) _ c.loop-going.invariant (tokens_at c.in-Ok.rest)
    (c.in-Ok.ensures.gives ∙ ap (λ f. got (found_of g.T.TextField.seen f) (tokens_at c.in-Ok.rest)) c.in-None.is)
    c.loop-going-test.true

pub loop-going-preserved : goal.loop-going-preserved
loop-going-preserved g c =
    fields_more g.T.TextField.seen c.args.word.now g.T.TextField.reader c.loop-going.list c.loop-going.going
    (tokens_at c.loop-going.left) _ c.loop-going.invariant c.in-Some.field c.push.new.self c.in-Some.more
    (tokens_at c.in-Ok.rest)
    (c.in-Ok.ensures.gives ∙ ap (λ f. got (found_of g.T.TextField.seen f) (tokens_at c.in-Ok.rest)) c.in-Some.is)
    (subst (λ f. IfSome f (λ _. count (tokens_at c.in-Ok.rest) < count (tokens_at c.loop-going.left))) c.in-Some.is
    c.in-Ok.ensures.shorter) c.loop-going-test.true c.in_ok-push-in-Some.ensures.ok
