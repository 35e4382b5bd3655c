use Rattle.std.proofs.Common.{◌∙◌, sym, arith}
use Rattle.suite_shrink.proofs.ContainLemmas.{contains_all, contains_not, differ}
use Rattle.suite_shrink.proofs.seeds.contains.Goals as goal

pub returns-then-ne : goal.returns-then-ne
returns-then-ne c =
    sym (contains_not c.args.row.now c.args.part.now c.loop-p.p (sym c.if-is_some.ensures) (λ same.
    differ c.value_at.result _ c.if-ne.ensures (c.value_at.ensures ∙ same)))

pub returns : goal.returns
returns c =
    sym (contains_all c.args.row.now c.args.part.now (λ p within. c.loop-p.invariant p (omega (arith, within, c.loop-p-test.false, c.loop-p.auto.p-end))))
