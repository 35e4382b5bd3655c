use Rattle.std.proofs.Common.{◌*◌, ◌+◌, min, ap, ◌∙◌}
use Rattle.model_parse.proofs.Weights.{weight_more}
use Rattle.model_parse.proofs.piece.weight_value.Goals as goal

pub loop-digit-preserved : goal.loop-digit-preserved
loop-digit-preserved c =
    c.min-value.ensures ∙ ap (λ d. min (c.loop-digit.value * 10 + d) 4294967296) c.from.ensures
    ∙ weight_more c.args.digits.now c.loop-digit.digit-index c.loop-digit.value c.requires c.loop-digit-test.true c.loop-digit.invariant
