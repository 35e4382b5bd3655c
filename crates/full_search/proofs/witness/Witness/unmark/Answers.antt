use Rattle.std.proofs.Common.{◌+◌, false, take, sym, subst, refl}
use Rattle.full_search.specs.Witnesses.{MarksAnew}
use Rattle.full_search.proofs.MarkLemmas.{marks_more, marks_none}
use Rattle.full_search.proofs.witness.Witness.unmark.Goals as goal

pub loop-rule-init : goal.loop-rule-init
loop-rule-init c = record { row = refl; marks = marks_none (λ _. false) c.args.self.now.broken }

pub loop-rule-preserved : goal.loop-rule-preserved
loop-rule-preserved c =
    let i = c.loop-rule.rule-index in
    record {
      row = c.loop-rule.invariant.row;
      marks = subst (MarksAnew (take (i + 1) c.args.rules.now) (λ _. false) c.args.self.now.broken) (sym c.clear.ensures)
          (marks_more c.args.rules.now i (λ _. false) c.args.self.now.broken c.loop-rule.self.broken false c.loop-rule-test.true
          (c.requires.within i 0 c.loop-rule-test.true) refl c.loop-rule.invariant.marks);
    }
