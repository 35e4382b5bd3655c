use Rattle.std.proofs.Common.{◌++◌, ◌∙◌, ap, sym}
use Rattle.std.specs.Prelude.{◌&&◌}
use Rattle.std.specs.List.{list_any}
use Rattle.std.proofs.lemmas.Bool.{and_from}
use Rattle.std.proofs.lemmas.List.{take_all}
use Rattle.suspect_tuples.specs.RowBits.{has_at}
use Rattle.suspect_tuples.proofs.RowBitLemmas.{had_at, has_both_at, none_among}
use Rattle.suspect_tuples.proofs.row_bits.has_among.Goals as goal

pub returns-then-has_at-2 : goal.returns-then-has_at-2
returns-then-has_at-2 c =
    let rows = c.args.rows.now in
    let first = c.args.first.now in
    let second = c.args.second.now in
    sym (had_at rows (first ++ second) _ (has_both_at rows first second _
    ∙ and_from (has_at rows first _) (has_at rows second _) (sym c.has_at.ensures ∙ c.if-has_at.true) (sym c.has_at-then-has_at.ensures ∙ c.if-has_at-2.true)))

pub returns : goal.returns
returns c =
    let rows = c.args.rows.now in
    let first = c.args.first.now in
    let second = c.args.second.now in
    sym (none_among rows first second c.args.numbers.now c.requires
    (ap (list_any (λ n. has_at rows first n && has_at rows second n)) (sym (take_all c.loop-number.number-index c.args.numbers.now c.loop-number-test.false))
    ∙ c.loop-number.invariant))
