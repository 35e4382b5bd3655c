use Rattle.std.proofs.Common.{◌≡◌, length, arith}
use Rattle.test_models.proofs.RowLemmas.{positive_row}
use Rattle.test_models.proofs.rows.is_positive_row.Goals as goal

pub returns : goal.returns
returns c =
    let long : length c.args.row.now ≡ length c.args.model.now.params = grind (arith, c.len.ensures, c.len-count.ensures, c.params.ensures.value) in
    λ _. positive_row c.args.model.now c.args.row.now long (λ p within. c.loop-p.invariant p (omega (arith, within, long)))
