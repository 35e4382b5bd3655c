use Rattle.std.proofs.Common.{◌∙◌, Some, sym, ap, arith}
use Rattle.std.specs.Prelude.{nat_eq}
use Rattle.std.specs.Option.{option_eq}
use Rattle.cov_model.proofs.TupleLemmas.{contains-past, contains-value}
use Rattle.cov_model.proofs.cells.Cells.gives.Goals as goal

pub returns-then-pair-len : goal.returns-then-pair-len
returns-then-pair-len c = sym (contains-past c.args.self.now c.args.pair.0 c.args.pair.1 (omega arith))

pub returns : goal.returns
returns c =
    c.eq.ensures ∙ ap (λ cell. option_eq nat_eq cell (Some c.args.pair.1)) c.get.ensures
    ∙ contains-value c.args.self.now c.args.pair.0 c.args.pair.1 (omega arith)
