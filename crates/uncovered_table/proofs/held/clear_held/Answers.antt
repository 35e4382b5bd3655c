use Rattle.std.proofs.Common.{◌∙◌, ap, arith, sym}
use Rattle.std.proofs.lemmas.List.{drop_all}
use Rattle.uncovered_table.specs.Bits.{all_cleared}
use Rattle.uncovered_table.specs.Digits.{cell_digit, own_values, with_digit}
use Rattle.uncovered_table.proofs.ReadyLemmas.{left-cleared}
use Rattle.uncovered_table.proofs.held.clear_held.Goals as goal

pub returns : goal.returns
returns c =
    let v = c.args.sets.now in
    let walked = c.walked-walked.result.now in
    sym (ap (all_cleared v.model v.slice (with_digit (cell_digit (own_values v.model v.slice) c.args.cells.now) c.args.column c.args.digit) c.loop-k.bits)
    (drop_all c.loop-k.k walked (omega (arith, c.loop-k-test.false))))
    ∙ c.loop-k.invariant.left
    ∙ left-cleared v.model v.slice c.args.bits.now c.args.cells.now c.args.column c.args.digit walked c.assert_invariant.ensures.kept c.requires.digit
    c.walked-walked.ensures.left
