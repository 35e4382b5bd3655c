use Rattle.std.proofs.Common.{rules}
use Rattle.jeldroft_args.specs.Readings.{rows_given}
use Rattle.jeldroft_args.proofs.ListLemmas.{found, none_left, passed}
use Rattle.jeldroft_args.specs.believed.Rules.{is_unmet}
use Rattle.jeldroft_args.specs.declared.argument.Argument.TheVariants.{Model}
use Rattle.jeldroft_args.proofs.rules.unmet_need.Goals as goal

pub returns-then-is_unmet : goal.returns-then-is_unmet
returns-then-is_unmet c = found (is_unmet (rows_given c.args.matches.now)) c.needs_of-pair-items.result.now c.loop-pair.pair-index (Model, Model) _
    (search rules) c.loop-pair.invariant (search rules)

pub loop-pair-preserved : goal.loop-pair-preserved
loop-pair-preserved c = passed (is_unmet (rows_given c.args.matches.now)) c.needs_of-pair-items.result.now c.loop-pair.pair-index (Model, Model) _
    (search rules) c.loop-pair.invariant (search rules)

pub returns : goal.returns
returns c = none_left (is_unmet (rows_given c.args.matches.now)) c.needs_of-pair-items.result.now c.loop-pair.pair-index _
    (search rules) c.loop-pair.invariant
