use Rattle.std.proofs.Common.{sym, ◌∙◌}
use Rattle.model_lex.proofs.Quoting.{closes, steps_one, steps_two}
use Rattle.model_lex.proofs.scan.quoted_len.Goals as goal
use Rattle.model_lex.proofs.scan.quoted_len.Goals.{then-quotes, else-quotes}

pub returns-then-text-at-clause-value : goal.returns-then-text-at-clause-value
returns-then-text-at-clause-value c = sym (closes c.args.close c.args.text.now c.loop-at.at c.loop-at.invariant c.loop-at-test.true c.if-text-at.true)

pub loop-at-preserved : goal.loop-at-preserved
loop-at-preserved c =
    elim c.if-quotes.branch [
      | then-quotes w ↦ rw w.at-is (steps_two c.args.close c.args.text.now c.loop-at.at c.loop-at.invariant c.loop-at-test.true c.if-text-at.false (sym c.quotes.ensures ∙ w.if-quotes.true))
      | else-quotes w ↦ rw w.at-is (steps_one c.args.close c.args.text.now c.loop-at.at c.loop-at.invariant c.loop-at-test.true c.if-text-at.false (sym c.quotes.ensures ∙ w.if-quotes.false))
    ]
