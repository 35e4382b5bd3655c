use Rattle.std.proofs.Common.{◌∙◌}
use Rattle.model_parse.proofs.Weights.{all_prefixes}
use Rattle.model_parse.proofs.piece.without_prefixes.Goals as goal

pub returns : goal.returns
returns c = c.loop-part.invariant ∙ all_prefixes c.args.prefix c.args.parts.now c.loop-part.part-index c.loop-part-test.false
