use Rattle.std.proofs.Common.{◌∙◌, [], sym}
use Rattle.acts_front.proofs.Repeated.{none_here, repeated_here}
use Rattle.acts_front.proofs.name_set.is_one_known.Goals as goal

pub returns-then-branch : goal.returns-then-branch
returns-then-branch c =
    sym (repeated_here (λ text. text.now) c.args.fold c.args.texts.now c.loop-text.earlier c.loop-text.text-index
    (record { ref_ptr = (0, 0); now = [] }) c.loop-text.invariant c.loop-text-test.true (sym c.in_ok-holds.ensures ∙ c.if-branch.true))

pub loop-text-preserved : goal.loop-text-preserved
loop-text-preserved c =
    none_here (λ text. text.now) c.args.fold c.args.texts.now c.loop-text.earlier c.loop-text.text-index (record { ref_ptr = (0, 0); now = [] })
    c.loop-text.invariant c.loop-text-test.true c.add.new.self c.in_ok-add.ensures.added (sym c.in_ok-holds.ensures ∙ c.if-branch.false)
