use Rattle.std.proofs.Common.{◌∙◌, ◌+◌, take, get_or, sym, ap, subst, arith, refl}
use Rattle.full_search.specs.Witnesses.{MarksAnew, is_broken_on}
use Rattle.full_search.proofs.MarkLemmas.{marks_more, marks_none}
use Rattle.full_search.proofs.witness.Witness.mark.Goals as goal

pub loop-rule-init : goal.loop-rule-init
loop-rule-init c = record { row = refl; marks = marks_none (is_broken_on c.args.tree.now.model c.args.self.now.row) c.args.self.now.broken }

pub loop-rule-preserved : goal.loop-rule-preserved
loop-rule-preserved c =
    let i = c.loop-rule.rule-index in
    let k = get_or c.args.rules.now i 0 in
    let test = is_broken_on c.args.tree.now.model c.args.self.now.row in
    let exists = c.requires.exist i 0 c.loop-rule-test.true in
    record {
      row = c.mark_rule.ensures.row ∙ c.loop-rule.invariant.row;
      marks = subst (MarksAnew (take (i + 1) c.args.rules.now) test c.args.self.now.broken) (sym c.mark_rule.ensures.broken)
          (marks_more c.args.rules.now i test c.args.self.now.broken c.loop-rule.self.broken (is_broken_on c.args.tree.now.model c.loop-rule.self.row k)
          c.loop-rule-test.true (omega (arith, exists.1, c.requires.long)) (ap (λ row. is_broken_on c.args.tree.now.model row k) c.loop-rule.invariant.row)
          c.loop-rule.invariant.marks);
    }
