use Rattle.std.proofs.Common.{◌≡◌, length, refl, subst, take, arith}
use Rattle.mw_types.specs.Answering.{Ready}
use Rattle.mw_types.specs.Equations.{equations_of}
use Rattle.mw_types.proofs.Halving.{blank_front}
use Rattle.mw_types.proofs.Steps.{if_ok}
use Rattle.std.proofs.lemmas.List.{take_all}
use Rattle.mw_types.proofs.judging.judge.Goals as goal

pub judge_longer-requires-clause-stated : goal.judge_longer-requires-clause-stated
judge_longer-requires-clause-stated c =
    let e : length c.args.state.now.parent.items ≡ c.len-unknowns.result = omega (arith, c.len-unknowns.ensures) in
    blank_front c.len-unknowns.result (length c.args.state.now.classifier.items) c.args.equations.now c.args.state.now
    (record {
      sound = c.requires.sound;
      node_count = e;
      classifier_count = refl;
      settled = c.requires.settled;
      means = c.requires.blank;
    })

pub returns-clause-ready : goal.returns-clause-ready
returns-clause-ready c =
    let xs = c.args.equations.now in
    let m = length c.args.state.now.classifier.items in
    let e : c.len-unknowns.result ≡ length c.args.state.now.parent.items = omega (arith, c.len-unknowns.ensures) in
    if_ok c.judge_longer.result
    (λ front r f. subst
    (λ es. Ready (length c.args.state.now.parent.items) m (equations_of es) c.judge_longer.new.state)
    (take_all (length xs) xs (omega arith))
    (subst (λ n. Ready n m (equations_of (take (length xs) xs)) c.judge_longer.new.state) e (r f)))
    c.judge_longer.ensures.ready
