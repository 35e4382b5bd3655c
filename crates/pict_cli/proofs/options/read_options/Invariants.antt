use Rattle.std.proofs.Common.{◌≡◌, ◌+◌, [], take, drop}
use Rattle.definitions.specs.believed.Words.{first_faulty}
use Rattle.pict_cli.specs.Options.{IsReading}
use Rattle.command_line.specs.believed.Words.{texts}
use Rattle.pict_cli.proofs.options.read_options.Given as goal

abbrev pub invariant-loop-place : goal.invariant-loop-place
invariant-loop-place l =
    let words = texts l.options in
    record {
      reads : IsReading l.reading.opts l.reading.kinds (take l.place words);
      model : l.reading.opts.model.now ≡ l.model;
      so_far : first_faulty 2 [] words ≡ first_faulty (l.place + 2) (take l.place words) (drop l.place words);
    }
