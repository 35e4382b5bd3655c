use Rattle.std.proofs.Common.{◌<◌, [], length, All, arith, subst}
use Rattle.std.proofs.lemmas.List.{take_all}
use Rattle.std.proofs.lemmas.List.Elements.{All-more}
use Rattle.suite_shrink.specs.Coverage.{Stays}
use Rattle.suite_shrink.proofs.seeds.keep_seeds.Goals as goal

pub loop-i-preserved : goal.loop-i-preserved
loop-i-preserved c =
    let within : c.loop-i.i < length c.args.seeds.now = omega (arith, c.loop-i-test.true, c.loop-i.auto.i-end, c.len-i-end.ensures) in
    All-more (Stays c.args.given.now c.args.rows.now) c.args.seeds.now c.loop-i.i [] within c.loop-i.invariant
    (subst (Stays c.args.given.now c.args.rows.now) c.row.ensures (c.stays.ensures c.if-not-stays.false))

pub returns : goal.returns
returns c =
    λ _. subst (All (Stays c.args.given.now c.args.rows.now)) (take_all c.loop-i.i c.args.seeds.now (omega (arith, c.loop-i-test.false, c.len-i-end.ensures)))
    c.loop-i.invariant
