use Rattle.std.proofs.Common.{◌≡◌, ◌+◌, [], take, drop}
use Rattle.definitions.specs.believed.Words.{first_faulty_for_checker}
use Rattle.command_line.specs.believed.Words.{texts}
use Rattle.check_cli.specs.WordSteps.{IsReading}
use Rattle.check_cli.specs.Words.{names_seen}
use Rattle.check_cli.proofs.words.read_options.Given as goal

abbrev pub invariant-loop-place : goal.invariant-loop-place
invariant-loop-place l =
    let words = texts l.options in
    record {
      reads : IsReading l.opts (take l.place words);
      names : names_seen l.opts ≡ names_seen l.names;
      so_far : first_faulty_for_checker 4 [] words ≡ first_faulty_for_checker (l.place + 4) (take l.place words) (drop l.place words);
    }
