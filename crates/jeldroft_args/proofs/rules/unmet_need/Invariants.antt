use Rattle.std.proofs.Common.{◌≡◌, drop}
use Rattle.std.specs.Prelude.{find}
use Rattle.jeldroft_args.specs.Readings.{rows_given}
use Rattle.jeldroft_args.specs.believed.Rules.{is_unmet, unmet_need}
use Rattle.jeldroft_args.proofs.rules.unmet_need.Given as goal

abbrev pub invariant-loop-pair : goal.invariant-loop-pair
invariant-loop-pair l = find (is_unmet (rows_given l.matches)) (drop l.pair-index l.pair-items) ≡ unmet_need l.fn.command (rows_given l.matches)
