use Rattle.std.proofs.Common.{◌≡◌, drop, not}
use Rattle.std.specs.Prelude.{find}
use Rattle.jeldroft_args.specs.Readings.{rows_given}
use Rattle.jeldroft_args.specs.believed.Rules.{is_read, unread}
use Rattle.jeldroft_args.proofs.rules.unread.Given as goal

abbrev pub invariant-loop-argument : goal.invariant-loop-argument
invariant-loop-argument l = find (λ argument. not (is_read (rows_given l.matches) argument)) (drop l.argument-index l.argument-items) ≡ unread l.fn.command (rows_given l.matches)
