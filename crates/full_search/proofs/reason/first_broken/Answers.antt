use Rattle.std.proofs.Common.{◌≡◌, ◌∙◌, false, get_or, sym, subst, arith}
use Rattle.feasibility.specs.Live.{AreRules, no_on}
use Rattle.feasibility.proofs.Leaves.{item_passed}
use Rattle.feasibility.proofs.Naming.{undecided_exist}
use Rattle.full_search.proofs.Parts.{some_undecided}
use Rattle.full_search.proofs.reason.first_broken.Goals as goal

pub is_no-requires-clause-first : goal.is_no-requires-clause-first
is_no-requires-clause-first c =
    (subst (AreRules c.args.tree.now.model) (sym c.undecided-rule-items.ensures)
    (undecided_exist c.args.tree.now.model c.args.p c.args.v c.assert_invariant.ensures.sound) c.loop-rule.rule-index 0 c.loop-rule-test.true).0

pub is_no-requires-clause-last : goal.is_no-requires-clause-last
is_no-requires-clause-last c =
    (subst (AreRules c.args.tree.now.model) (sym c.undecided-rule-items.ensures)
    (undecided_exist c.args.tree.now.model c.args.p c.args.v c.assert_invariant.ensures.sound) c.loop-rule.rule-index 0 c.loop-rule-test.true).1

pub returns-then-is_no-clause-first : goal.returns-then-is_no-clause-first
returns-then-is_no-clause-first c =
    (subst (AreRules c.args.tree.now.model) (sym c.undecided-rule-items.ensures)
    (undecided_exist c.args.tree.now.model c.args.p c.args.v c.assert_invariant.ensures.sound) c.loop-rule.rule-index 0 c.loop-rule-test.true).0

pub returns-then-is_no-clause-last : goal.returns-then-is_no-clause-last
returns-then-is_no-clause-last c =
    (subst (AreRules c.args.tree.now.model) (sym c.undecided-rule-items.ensures)
    (undecided_exist c.args.tree.now.model c.args.p c.args.v c.assert_invariant.ensures.sound) c.loop-rule.rule-index 0 c.loop-rule-test.true).1

pub loop-rule-preserved : goal.loop-rule-preserved
loop-rule-preserved c =
    let no : no_on c.args.tree.now.model c.args.cells.now (get_or c.undecided-rule-items.result.now c.loop-rule.rule-index 0) ≡ false =
    sym c.is_no.ensures ∙ c.if-is_no.false in
    item_passed (no_on c.args.tree.now.model c.args.cells.now) c.undecided-rule-items.result.now c.loop-rule.rule-index c.loop-rule-test.true c.loop-rule.invariant no

pub returns-clause-first : goal.returns-clause-first
returns-clause-first c = omega arith

pub returns-clause-last : goal.returns-clause-last
returns-clause-last c =
    absurd (some_undecided c.args.tree.now.model c.args.cells.now c.args.p c.args.v c.undecided-rule-items.result.now c.loop-rule.rule-index
    c.assert_invariant.ensures.sound c.requires.fits.as_long c.requires.parameter c.requires.given c.requires.before c.requires.broken
    c.undecided-rule-items.ensures c.loop-rule-test.false c.loop-rule.invariant)

pub returns-clause-broken : goal.returns-clause-broken
returns-clause-broken c =
    absurd (some_undecided c.args.tree.now.model c.args.cells.now c.args.p c.args.v c.undecided-rule-items.result.now c.loop-rule.rule-index
    c.assert_invariant.ensures.sound c.requires.fits.as_long c.requires.parameter c.requires.given c.requires.before c.requires.broken
    c.undecided-rule-items.ensures c.loop-rule-test.false c.loop-rule.invariant)
