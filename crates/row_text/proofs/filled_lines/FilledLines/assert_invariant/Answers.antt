use Rattle.std.proofs.Common.{◌+◌, length, ap, arith}
use Rattle.row_text.proofs.LineSteps.{few_lines}
use Rattle.row_text.proofs.filled_lines.FilledLines.assert_invariant.Goals as goal

pub returns : goal.returns
returns c = omega (arith, few_lines (c.self.inside.taken + 1) c.self.inside.rest.now, ap length c.self.view_is, c.self.invariant)
