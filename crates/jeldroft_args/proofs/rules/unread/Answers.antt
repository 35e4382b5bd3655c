use Rattle.std.proofs.Common.{rules, not}
use Rattle.jeldroft_args.specs.Readings.{rows_given}
use Rattle.jeldroft_args.proofs.ListLemmas.{found, none_left, passed}
use Rattle.jeldroft_args.specs.believed.Rules.{is_read}
use Rattle.jeldroft_args.specs.declared.argument.Argument.TheVariants.{Model}
use Rattle.jeldroft_args.proofs.rules.unread.Goals as goal

pub returns-then-not-is_read : goal.returns-then-not-is_read
returns-then-not-is_read c = found (λ argument. not (is_read (rows_given c.args.matches.now) argument)) c.arguments-argument-items.result.now c.loop-argument.argument-index Model _
    (search rules) c.loop-argument.invariant (search rules)

pub loop-argument-preserved : goal.loop-argument-preserved
loop-argument-preserved c = passed (λ argument. not (is_read (rows_given c.args.matches.now) argument)) c.arguments-argument-items.result.now c.loop-argument.argument-index Model _
    (search rules) c.loop-argument.invariant (search rules)

pub returns : goal.returns
returns c = none_left (λ argument. not (is_read (rows_given c.args.matches.now) argument)) c.arguments-argument-items.result.now c.loop-argument.argument-index _
    (search rules) c.loop-argument.invariant
