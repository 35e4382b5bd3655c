use Rattle.std.proofs.Common.{◌≤◌, ◌∙◌, length, refl, sym, subst, arith}
use Rattle.definitions.specs.believed.Limits.{ModelFile, most_bytes}
use Rattle.made_models.proofs.Lengths.{made_text_is_short}
use Rattle.pict_cli.specs.believed.Ends.{moment}
use Rattle.pict_cli.specs.Options.{settings_seen}
use Rattle.pict_cli.proofs.MadeRuns.{ran_on_made, ran_unmade}
use Rattle.pict_cli.proofs.run.run_making.Goals as goal

pub run_on_text-requires-clause-within : goal.run_on_text-requires-clause-within
run_on_text-requires-clause-within g c = λ lifetimes outlived.
    subst (λ text. length text ≤ most_bytes ModelFile) (sym (c.as_str.ensures.value ∙ c.in-Ok.ensures.text)) (omega (arith, made_text_is_short c.args.number))

pub returns-in-Ok : goal.returns-in-Ok
returns-in-Ok g c =
    ran_on_made (settings_seen c.args.opts.now) c.args.seed_word c.args.opts.now.model.now c.args.number c.requires.number _
    (moment (g.F.Folder.seen c.args.files.now) (g.O.Sink.seen c.args.out.now)) (moment (g.F.Folder.seen c.write_made.new.files) (g.O.Sink.seen c.args.out.now)) (moment (g.F.Folder.seen c.run_on_text.new.files) (g.O.Sink.seen c.run_on_text.new.out)) _ _ _
    (c.as_str.ensures.value ∙ c.in-Ok.ensures.text)
    (record {
      held = c.in-Ok.ensures.written;
      others = c.write_made.ensures.others;
      reads = c.write_made.ensures.reads;
      writes = c.in-Ok.ensures.no_fault;
      out = refl;
    })
    c.run_on_text.ensures

pub returns-in-Err : goal.returns-in-Err
returns-in-Err g c =
    ran_unmade (settings_seen c.args.opts.now) c.args.seed_word c.args.opts.now.model.now c.args.number c.requires.number _ _ _ _ _ c.in-Err.stop
    c.stopped.ensures.notes c.stopped.ensures.row_notes c.stopped.ensures.end c.write_made.ensures.others c.write_made.ensures.reads refl c.in-Err.ensures.stops
