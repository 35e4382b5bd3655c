use Rattle.std.proofs.Common.{◌∙◌, ap}
use Rattle.suspect_tuples.specs.Edges.{is_had}
use Rattle.suspect_tuples.proofs.RowBitLemmas.{without_one}
use Rattle.suspect_tuples.proofs.row_bits.RowBits.has_without.Goals as goal

pub returns : goal.returns
returns c = c.has_both.ensures ∙ ap (is_had c.args.self.now) (without_one c.args.tuple.now c.args.left_out)
