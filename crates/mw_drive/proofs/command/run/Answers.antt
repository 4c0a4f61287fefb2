use Rattle.std.proofs.Common.{inl, inr, map, ap, ◌∙◌, refl, subst, arith, rules}
use Rattle.std.proofs.lemmas.Grind.{common_steps}
use Rattle.std.specs.String.{string_bytes}
use Rattle.mw_outside.specs.Count.{Rose}
use Rattle.mw_drive.specs.HeldFiles.{IsKeptWith}
use Rattle.mw_drive.specs.Works.{ran, mode_of, run_text, status_of}
use Rattle.mw_drive.proofs.OneMeaning.{one_meaning}
use Rattle.mw_drive.specs.Extents.{extent}
use Rattle.mw_drive.specs.Running.{kind_of, path_of, outside}
use Rattle.mw_words.specs.Words.{command_in}
use Rattle.mw_keeping.proofs.KeptFiles.{front_stays}
use Rattle.mw_keeping.proofs.GrownFiles.{grown_stays}
use Rattle.mw_drive.proofs.CommandLemmas.{IsCalled, sample_range, run_workers, link_workers, asked_text}
use Rattle.mw_drive.proofs.CommandLemmas.{asked_status, asked_complete, asked_faults, asked_of}
use Rattle.mw_drive.specs.CommandStatuses.{IsStatusFor}
use Rattle.mw_drive.proofs.CommandStatuses.{never_for}
use Rattle.mw_drive.proofs.CommandLemmas.{asked_missing, asked_lacking, asked_no_file, asked_no_cache, asked_last}
use Rattle.mw_drive.proofs.CommandLemmas.{asked_verdict, asked_certificate, asked_typing, asked_kept, asked_bad}
use Rattle.mw_drive.proofs.CommandLemmas.{asked_read, has_on, asked_erased, asked_simplified}
use Rattle.mw_drive.proofs.HeldFiles.{front_of, kept_ending}
use Rattle.mw_drive.proofs.ModuleLemmas.{meaning_modules}
use Rattle.mw_drive.proofs.command.run.Given.{Over}
use Rattle.mw_drive.proofs.command.run.Goals.{After-carry_out}
use Rattle.mw_drive.proofs.command.run.Goals as goal

-- what is known of the command that was carried out
called : (g : Over) (c : After-carry_out g) → IsCalled (map string_bytes c.args.words.now)
    (outside g.S.Source.tells (g.S.Source.told c.args.source.now) g.C.Keeper.tells
    (g.C.Keeper.held c.args.keeper.now)) (command_in c.in-Ok.command) c.carry_out.result g.K.Sink.tells
    (g.K.Sink.written c.args.sink.now) (g.K.Sink.written c.carry_out.new.sink)
    (Rose (g.S.Source.faults c.args.source.now) (g.S.Source.faults c.carry_out.new.source))
    (Rose (g.K.Sink.faults c.args.sink.now) (g.K.Sink.faults c.carry_out.new.sink))
called g c = record {
  means = c.in-Ok.ensures.some;
  carried = c.carry_out.ensures.work;
  reads = c.carry_out.ensures.read;
  writes = c.carry_out.ensures.write;
  possible = never_for (command_in c.in-Ok.command) c.carry_out.result c.carry_out.ensures.possible;
}

pub carry_out-requires-clause-range : goal.carry_out-requires-clause-range
carry_out-requires-clause-range g c = λ κs live n e. sample_range
    (command_in c.in-Ok.command) n c.in-Ok.ensures.some e

pub carry_out-requires-clause-workers : goal.carry_out-requires-clause-workers
carry_out-requires-clause-workers g c = λ κs live w fuel simplify cache file e.
    run_workers (command_in c.in-Ok.command) w fuel simplify cache file c.in-Ok.ensures.some e

pub carry_out-requires-clause-linkers : goal.carry_out-requires-clause-linkers
carry_out-requires-clause-linkers g c = λ κs live w fuel file e.
    link_workers (command_in c.in-Ok.command) w fuel file c.in-Ok.ensures.some e

pub returns-in-Ok : goal.returns-in-Ok
returns-in-Ok g c =
    let known = called g (goal.at.returns-in-Ok g c).After-carry_out in
    let carried = c.carry_out.ensures in
    let command = command_in c.in-Ok.command in
    let held = g.C.Keeper.held c.args.keeper.now in
    let after = g.C.Keeper.held c.carry_out.new.keeper in
    record {
      text = asked_text known;
      status = asked_status known;
      complete = asked_complete known;
      modules = λ work asked. meaning_modules work;
      erasure = asked_erased known;
      simplified = asked_simplified known;
      faults = asked_faults known;
      possible = asked_of known (λ other. IsStatusFor other c.carry_out.result) carried.possible;
      unfailed = asked_of known _ carried.unfailed;
      memory = carried.memory;
      judged = asked_verdict known;
      certificate = asked_certificate known;
      typed = asked_typing known;
      left = λ other contents file bytes on last. carried.left contents file bytes (has_on known other contents on)
          (asked_last known other contents file bytes on last);
      usage = first_of (search rules, grind (arith, common_steps));
      read = asked_read known;
      write = carried.write;
      missing = λ asked. carried.missing (asked_missing known asked);
      lacking = λ asked. carried.lacking (asked_lacking known asked);
      nothing = first_of (search rules, grind (arith, common_steps));
      unread = λ none. elim none [
        | inl usage ↦ absurd (known.possible (ap (extent (kind_of command)) usage))
        | inr asked ↦ carried.unread (asked_no_file known asked)
      ];
      files = carried.files;
      untouched = λ none. elim none [
        | inl usage ↦ absurd (known.possible (ap (extent (kind_of command)) usage))
        | inr (inl read) ↦ carried.untouched (inl read)
        | inr (inr asked) ↦ carried.untouched (inr (asked_no_cache known asked))
      ];
      unkept_refusal = carried.refused;
      opened = asked_of known _ carried.opened;
      front = λ tells. front_of (path_of command) (kind_of command) c.carry_out.result held after
          (λ none. ap g.C.Keeper.held (carried.untouched (inr none))) (λ some. carried.held some tells);
      right = carried.right;
      held = asked_of known _ carried.held;
      kept = λ work asked some written shown kernels e is.
          let m = asked_complete known work asked written in
          let own = m.2 ∙ ap status_of (one_meaning work m.0 (ran shown kernels e) m.1 is) in
          let texts = map (run_text (mode_of shown)) kernels in
          kept_ending e texts held after (subst (λ s. IsKeptWith texts s held after) own
          (asked_kept known (λ texts s. IsKeptWith texts s held after) carried.kept work asked some shown kernels e
          is));
      printed = asked_of known _ carried.printed;
      cache = carried.cache;
      sound = asked_of known _ carried.sound;
      bad = λ digest work told asked.
          asked_bad known _ (λ contents work has works. carried.bad digest contents work told has works) work asked;
      source_count = carried.source_count;
      sink_count = carried.sink_count;
      keeper_count = carried.keeper_count;
    }

pub returns-in-Err-clause-front : goal.returns-in-Err-clause-front
returns-in-Err-clause-front g c = λ tells. front_stays _ _ refl

pub returns-in-Err-clause-right : goal.returns-in-Err-clause-right
returns-in-Err-clause-right g c = λ tells. grown_stays _ _ refl
