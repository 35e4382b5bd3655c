use Rattle.std.proofs.Common.{◌∙◌, ap, arith, sum_by}
use Rattle.std.proofs.lemmas.List.{take_all}
use Rattle.uncovered_table.specs.Bits.{held_count}
use Rattle.uncovered_table.specs.Digits.{cell_digit, own_values, with_digit}
use Rattle.uncovered_table.proofs.ReadyLemmas.{left-count}
use Rattle.uncovered_table.proofs.held.count_held.Goals as goal

pub returns : goal.returns
returns c =
    let v = c.args.sets.now in
    let walked = c.walked-walked.result.now in
    c.loop-k.invariant.counted
    ∙ ap (sum_by (held_count v.model v.slice c.args.bits.now (with_digit (cell_digit (own_values v.model v.slice) c.args.cells.now) c.args.column c.args.digit)))
    (take_all c.loop-k.k walked (omega (arith, c.loop-k-test.false)))
    ∙ left-count v.model v.slice c.args.bits.now c.args.cells.now c.args.column c.args.digit walked c.assert_invariant.ensures.kept c.requires.digit
    c.walked-walked.ensures.left
