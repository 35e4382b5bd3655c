use Rattle.std.proofs.Common.{◌≡◌, drop}
use Rattle.std.specs.Prelude.{find}
use Rattle.jeldroft_args.specs.Readings.{rows_given}
use Rattle.jeldroft_args.specs.believed.Rules.{are_both_used, excluded_pair}
use Rattle.jeldroft_args.proofs.rules.excluded_pair.Given as goal

abbrev pub invariant-loop-pair : goal.invariant-loop-pair
invariant-loop-pair l = find (are_both_used (rows_given l.matches)) (drop l.pair-index l.pair-items) ≡ excluded_pair l.fn.command (rows_given l.matches)
