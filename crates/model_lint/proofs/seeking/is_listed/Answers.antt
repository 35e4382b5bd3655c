use Rattle.std.proofs.Common.{sym, arith}
use Rattle.std.proofs.lemmas.Grind.{common_steps}
use Rattle.model_lint.proofs.seeking.is_listed.Goals as goal
use Rattle.definitions.proofs.SliceValues.{slice_fixed, slice_other, slice_positive}

pub returns-in-Positive : goal.returns-in-Positive
returns-in-Positive c =
    let e = slice_positive c.args.model.now c.args.p c.args.v c.requires.parameter c.requires.value in
    first_of (cc, grind (arith, common_steps))

pub returns-then-p-q : goal.returns-then-p-q
returns-then-p-q c =
    let e = slice_fixed c.args.model.now c.in-Negative.q c.in-Negative.w c.args.p c.args.v (sym c.if-p-q.true) c.requires.parameter in
    first_of (cc, grind (arith, common_steps))

pub returns-else-p-q : goal.returns-else-p-q
returns-else-p-q c =
    let e = slice_other c.args.model.now c.in-Negative.q c.in-Negative.w c.args.p c.args.v (λ e. c.if-p-q.false (sym e)) c.requires.parameter c.requires.value in
    first_of (cc, grind (arith, common_steps))
