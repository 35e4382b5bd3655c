use Rattle.std.proofs.Common.{◌-◌, arith}
use Rattle.model_lint.proofs.SliceTests.{test_extends}
use Rattle.model_lint.proofs.ThinMarks.{false_unmarked, one_fewer}
use Rattle.model_lint.proofs.conflict.Gathering.gather.Goals as goal

pub returns-in-None-clause-none : goal.returns-in-None-clause-none
returns-in-None-clause-none g c q =
    let test = c.marking.invariant.3 c.marking-test.true in
    test_extends c.args.self.now.model.now c.args.self.now.slice c.args.self.now.cells.now c.marking.row (c.false_rule.ensures.none c.in-None.is) test.contained test.own

pub marking-smaller : goal.marking-smaller
marking-smaller g c =
    let fails = c.in-Some.ensures.some in
    let test = c.marking.invariant.3 c.marking-test.true in
    one_fewer c.marking.marks (c.in-Some.number - 1) (omega (arith, fails.most, fails.least, c.marking.invariant.1))
    (false_unmarked c.args.self.now.model.now c.marking.marks c.args.self.now.slice c.args.self.now.cells.now c.marking.row c.in-Some.number c.assert_invariant.ensures test fails)
