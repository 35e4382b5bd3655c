use Rattle.std.proofs.Common.{◌≡◌, ◌++◌, drop, map}
use Rattle.jeldroft_args.specs.Readings.{rows_given}
use Rattle.jeldroft_args.specs.believed.Rules.{names_in}
use Rattle.jeldroft_args.proofs.rules.names_in.Given as goal

abbrev pub invariant-loop-argument : goal.invariant-loop-argument
invariant-loop-argument l = map (λ n. n.now) l.names.items ++ names_in (drop l.argument-index l.arguments) (rows_given l.matches)
    ≡ names_in l.arguments (rows_given l.matches)
