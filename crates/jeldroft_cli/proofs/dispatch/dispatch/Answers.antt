use Rattle.std.proofs.Common.{subst, sym}
use Rattle.jeldroft_files.specs.believed.Runs.{moment}
use Rattle.jeldroft_cli.specs.believed.Promises.{Keeps}
use Rattle.jeldroft_cli.proofs.dispatch.dispatch.Goals as goal

pub returns-in-Generate : goal.returns-in-Generate
returns-in-Generate g c =
    subst (λ command. Keeps command c.args.terminal (moment (g.F.Folder.seen c.args.files.now) (g.O.Sink.seen c.args.out.now))
    (moment (g.F.Folder.seen c.run_generate.new.files) (g.O.Sink.seen c.run_generate.new.out)) (g.E.Sink.seen c.run_generate.new.diag)
    c.run_generate.result) (sym c.in-Generate.is)
    (record {
      headline = c.run_generate.ensures.headline;
      sums = c.run_generate.ensures.told;
      runs = c.run_generate.ensures.runs;
      leaves = c.run_generate.ensures.leaves;
    })

pub returns-in-Shrink : goal.returns-in-Shrink
returns-in-Shrink g c =
    subst (λ command. Keeps command c.args.terminal (moment (g.F.Folder.seen c.args.files.now) (g.O.Sink.seen c.args.out.now))
    (moment (g.F.Folder.seen c.run_shrink.new.files) (g.O.Sink.seen c.run_shrink.new.out)) (g.E.Sink.seen c.run_shrink.new.diag)
    c.run_shrink.result) (sym c.in-Shrink.is)
    (record {
      shorter = c.run_shrink.ensures.shorter;
      sums = c.run_shrink.ensures.told;
      runs = c.run_shrink.ensures.runs;
      leaves = c.run_shrink.ensures.leaves;
      answered = c.run_shrink.ensures.answered;
    })

pub returns-in-Sequence : goal.returns-in-Sequence
returns-in-Sequence g c =
    subst (λ command. Keeps command c.args.terminal (moment (g.F.Folder.seen c.args.files.now) (g.O.Sink.seen c.args.out.now))
    (moment (g.F.Folder.seen c.run_sequence.new.files) (g.O.Sink.seen c.run_sequence.new.out)) (g.E.Sink.seen c.run_sequence.new.diag)
    c.run_sequence.result) (sym c.in-Sequence.is)
    (record {
      orders = c.run_sequence.ensures.orders;
      covers = c.run_sequence.ensures.covers;
      verdict = c.run_sequence.ensures.verdict;
      accepts = c.run_sequence.ensures.accepts;
      refuses = c.run_sequence.ensures.refuses;
      leaves = c.run_sequence.ensures.leaves;
    })
