use Rattle.std.proofs.Common.{◌∙◌, sym}
use Rattle.std.proofs.lemmas.Bool.{and_parts}
use Rattle.suspect_tuples.specs.RowBits.{has_at}
use Rattle.suspect_tuples.proofs.RowBitLemmas.{has_both_at}
use Rattle.suspect_tuples.proofs.row_bits.RowBits.has_both.Goals as goal

pub has_among-requires : goal.has_among-requires
has_among-requires c at has =
    let rows = c.self.inside.rows.now in
    let first = c.args.first.now in
    let second = c.args.second.now in
    c.in-Some.ensures.few rows at c.self.invariant.given (and_parts (has_at rows first at) (has_at rows second at) (sym (has_both_at rows first second at) ∙ has)).0

pub has_among-requires-in-Some-few_rows : goal.has_among-requires-in-Some-few_rows
has_among-requires-in-Some-few_rows c at has =
    let rows = c.self.inside.rows.now in
    let first = c.args.first.now in
    let second = c.args.second.now in
    c.in-Some-few_rows.ensures.few rows at c.self.invariant.given (and_parts (has_at rows first at) (has_at rows second at) (sym (has_both_at rows first second at) ∙ has)).1
