use Rattle.std.proofs.Common.{◌∙◌, sym, subst, arith}
use Rattle.cov_model.specs.Tuples.{IsRising}
use Rattle.proof_check.proofs.TupleSteps.{pairs_rise, so_far-all}
use Rattle.proof_check.proofs.uncovered.tuple_of.Goals as goal

pub of-requires : goal.of-requires
of-requires c =
    subst IsRising (sym (c.deref.ensures.value ∙ so_far-all c.args.members.now c.args.values.now c.loop-i.i c.loop-i.pairs.items (omega (arith, c.loop-i-test.false)) c.loop-i.invariant))
    (pairs_rise 0 256 c.args.members.now c.args.values.now c.requires.rising c.requires.as_long)
