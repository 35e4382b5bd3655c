use Rattle.std.proofs.Common.{◌≡◌, ◌∙◌, None, find, sym, subst}
use Rattle.std.proofs.lemmas.List.{take_all}
use Rattle.definitions.specs.believed.Refutation.{is_omission_leaf}
use Rattle.feasibility.proofs.Citing.{lowers_end, lowers_none, lowers_to}
use Rattle.feasibility.proofs.Leaves.{item_passed}
use Rattle.feasibility.proofs.refuter.Refuter.lesser_citation.Goals as goal

pub returns-then-not-is_less : goal.returns-then-not-is_less
returns-then-not-is_less c =
    let r = c.args.self.now in
    lowers_none (is_omission_leaf r.model r.format r.earlier r.tuple c.args.cells.now) c.args.numbers.now c.loop-number.number-index c.args.least
    c.loop-number-test.true c.requires.rising c.loop-number.invariant (sym c.is_less.ensures ∙ c.if-not-is_less.true)

pub returns-then-is_citation : goal.returns-then-is_citation
returns-then-is_citation c =
    let r = c.args.self.now in
    lowers_to (is_omission_leaf r.model r.format r.earlier r.tuple c.args.cells.now) c.args.numbers.now c.loop-number.number-index c.args.least
    c.loop-number-test.true c.requires.rising c.loop-number.invariant (sym c.is_less.ensures ∙ c.if-not-is_less.false)
    (sym c.is_citation.ensures ∙ c.if-is_citation.true)

pub loop-number-preserved : goal.loop-number-preserved
loop-number-preserved c =
    let r = c.args.self.now in
    item_passed (is_omission_leaf r.model r.format r.earlier r.tuple c.args.cells.now) c.args.numbers.now c.loop-number.number-index
    c.loop-number-test.true c.loop-number.invariant (sym c.is_citation.ensures ∙ c.if-is_citation.false)

pub returns : goal.returns
returns c =
    let r = c.args.self.now in
    let none : find (is_omission_leaf r.model r.format r.earlier r.tuple c.args.cells.now) c.args.numbers.now ≡ None =
    subst (λ numbers. find (is_omission_leaf r.model r.format r.earlier r.tuple c.args.cells.now) numbers ≡ None)
    (take_all c.loop-number.number-index c.args.numbers.now c.loop-number-test.false) c.loop-number.invariant in
    lowers_end (is_omission_leaf r.model r.format r.earlier r.tuple c.args.cells.now) c.args.numbers.now c.args.least none
