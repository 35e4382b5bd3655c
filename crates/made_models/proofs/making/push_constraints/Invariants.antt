use Rattle.std.specs.String.{string_bytes}
use Rattle.made_models.proofs.Drawing.{PushedConstraints}
use Rattle.made_models.proofs.making.push_constraints.Given as goal

abbrev pub invariant-loop-number : goal.invariant-loop-number
invariant-loop-number l = PushedConstraints l.n l.number (string_bytes l.fn.text) (string_bytes l.text) l.words
