use Rattle.std.proofs.Common.{rules}
use Rattle.jeldroft_args.specs.Readings.{rows_given}
use Rattle.jeldroft_args.proofs.ListLemmas.{found, none_left, passed}
use Rattle.jeldroft_args.specs.believed.Rules.{are_both_used}
use Rattle.jeldroft_args.specs.declared.argument.Argument.TheVariants.{Model}
use Rattle.jeldroft_args.proofs.rules.excluded_pair.Goals as goal

pub returns-then-are_both_used : goal.returns-then-are_both_used
returns-then-are_both_used c = found (are_both_used (rows_given c.args.matches.now)) c.exclusions_of-pair-items.result.now c.loop-pair.pair-index (Model, Model) _
    (search rules) c.loop-pair.invariant (search rules)

pub loop-pair-preserved : goal.loop-pair-preserved
loop-pair-preserved c = passed (are_both_used (rows_given c.args.matches.now)) c.exclusions_of-pair-items.result.now c.loop-pair.pair-index (Model, Model) _
    (search rules) c.loop-pair.invariant (search rules)

pub returns : goal.returns
returns c = none_left (are_both_used (rows_given c.args.matches.now)) c.exclusions_of-pair-items.result.now c.loop-pair.pair-index _
    (search rules) c.loop-pair.invariant
