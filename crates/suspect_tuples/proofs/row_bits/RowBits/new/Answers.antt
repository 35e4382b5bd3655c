use Rattle.std.proofs.Common.{◌∙◌}
use Rattle.suspect_tuples.proofs.RowBitLemmas.{all_have, sets_given}
use Rattle.suspect_tuples.proofs.row_bits.RowBits.new.Goals as goal

pub invariant_of-result : goal.invariant_of-result
invariant_of-result c = record {
  every = λ at. c.in_ok-all.ensures at ∙ all_have c.args.rows.now c.len.result at c.len.ensures;
  given = sets_given c.args.model.now c.args.rows.now c.in_ok-giving.giving c.requires.fit c.in_ok-giving.ensures;
}
