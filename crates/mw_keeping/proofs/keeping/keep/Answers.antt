use Rattle.std.proofs.Common.{◌∙◌, [], sym, ap, arith}
use Rattle.std.proofs.lemmas.List.{append-nil}
use Rattle.mw_store.specs.Loads.{LoadState}
use Rattle.mw_keeping.proofs.GrownFiles.{grown_stays, grown_then, front_of, no_part, no_emissions}
use Rattle.mw_keeping.proofs.KeptFiles.{good_within, front_stays, front_then, kept_file, answer_says}
use Rattle.mw_keeping.proofs.keeping.keep.Goals as goal

pub cut_back-requires : goal.cut_back-requires
cut_back-requires g c = λ tells.
    let within = good_within _ c.args.cache.now.load (c.requires.read tells).is_load in
    let same = c.good-good.ensures.good ∙ ap (λ (l : LoadState). l.good) c.load.ensures in
    omega (arith, within, same)

pub returns-in_err-cut_back-clause-front : goal.returns-in_err-cut_back-clause-front
returns-in_err-cut_back-clause-front g c = λ tells. front_stays _ _ (c.in_err-cut_back.ensures.same tells)

pub returns-in_err-records-clause-front : goal.returns-in_err-records-clause-front
returns-in_err-records-clause-front g c = λ tells.
    let load = c.args.cache.now.load in
    let same = c.good-good.ensures.good ∙ ap (λ (l : LoadState). l.good) c.load.ensures in
    let read = c.requires.read tells in
    let cut = c.in_ok-cut_back.ensures.cut tells load (sym same) read in
    front_then _ _ _ [] load read.is_load (rw same at cut) (sym (append-nil _))

pub returns-clause-kept : goal.returns-clause-kept
returns-clause-kept g c =
    let load = c.args.cache.now.load in
    let same = c.good-good.ensures.good ∙ ap (λ (l : LoadState). l.good) c.load.ensures in
    let are = c.in_ok-records.ensures in
    answer_says c.append_fitting.result c.append_fitting.ensures.fitting
    (λ fit tells.
    let read = c.requires.read tells in
    let cut = c.in_ok-cut_back.ensures.cut tells load (sym same) read in
    kept_file _ _ _ load _ are.0 read.is_load (omega (arith, same, c.good-good.ensures.limit)) (rw same at cut) are.1
    (rw same at fit are.0 are.2 tells))

pub returns-clause-front : goal.returns-clause-front
returns-clause-front g c = λ tells.
    let load = c.args.cache.now.load in
    let same = c.good-good.ensures.good ∙ ap (λ (l : LoadState). l.good) c.load.ensures in
    let read = c.requires.read tells in
    let cut = c.in_ok-cut_back.ensures.cut tells load (sym same) read in
    let are = c.in_ok-records.ensures in
    let added = c.append_fitting.ensures.front are.0 are.2 tells in
    front_of _ _ _ load read.is_load (rw same at cut) are.0 added

pub returns-in_err-cut_back-clause-right : goal.returns-in_err-cut_back-clause-right
returns-in_err-cut_back-clause-right g c = λ tells. grown_stays _ _ (c.in_err-cut_back.ensures.same tells)

pub returns-in_err-records-clause-right : goal.returns-in_err-records-clause-right
returns-in_err-records-clause-right g c = λ tells.
    let load = c.args.cache.now.load in
    let same = c.good-good.ensures.good ∙ ap (λ (l : LoadState). l.good) c.load.ensures in
    let read = c.requires.read tells in
    let cut = c.in_ok-cut_back.ensures.cut tells load (sym same) read in
    grown_then _ _ _ load read.is_load (rw same at cut) [] no_emissions (no_part _)

pub returns-clause-right : goal.returns-clause-right
returns-clause-right g c = λ tells.
    let load = c.args.cache.now.load in
    let same = c.good-good.ensures.good ∙ ap (λ (l : LoadState). l.good) c.load.ensures in
    let read = c.requires.read tells in
    let cut = c.in_ok-cut_back.ensures.cut tells load (sym same) read in
    let are = c.in_ok-records.ensures in
    let added = c.append_fitting.ensures.front are.0 are.2 tells in
    grown_then _ _ _ load read.is_load (rw same at cut) are.0 are.1.emission added
