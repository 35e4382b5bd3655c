use Rattle.std.proofs.Common.{All, ap, arith, length, subst, sym}
use Rattle.std.specs.Prelude.{IfSome}
use Rattle.uncovered_table.specs.Bits.{InPlay, sets_in_play}
use Rattle.uncovered_table.specs.Prepared.{AreReady, IsComplete, IsLeft}
use Rattle.uncovered_table.proofs.GainLemmas.{all_in_play}
use Rattle.uncovered_table.proofs.ReadyLemmas.{left-all, left-each, left-long}
use Rattle.uncovered_table.proofs.sets.SliceSets.walked.Goals as goal

pub returns-in-Some-clause-few : goal.returns-in-Some-clause-few
returns-in-Some-clause-few c =
    let v = c.args.self.now in
    let ready = subst (λ o. IfSome o (λ made. AreReady v.model v.slice c.args.bits.now c.args.column made.now)) c.in-Some.is c.requires.lines in
    let shorter = left-long (IsComplete v.model v.slice c.args.bits.now) (sets_in_play v.model v.slice c.args.column) c.in-Some.lines.now.sets.items ready.left in
    omega (arith, shorter, ap length c.as_slice.ensures.value, ap length c.in_play-in_play.ensures.value, c.in_play-in_play.ensures.few)

pub returns-in-Some-clause-each : goal.returns-in-Some-clause-each
returns-in-Some-clause-each c =
    let v = c.args.self.now in
    let ready = subst (λ o. IfSome o (λ made. AreReady v.model v.slice c.args.bits.now c.args.column made.now)) c.in-Some.is c.requires.lines in
    subst (All (InPlay v.model v.slice c.args.column)) (sym c.as_slice.ensures.value)
    (left-each (IsComplete v.model v.slice c.args.bits.now) (InPlay v.model v.slice c.args.column) (sets_in_play v.model v.slice c.args.column)
    c.in-Some.lines.now.sets.items (all_in_play v.model v.slice c.args.column) ready.left)

pub returns-in-None-clause-left : goal.returns-in-None-clause-left
returns-in-None-clause-left c =
    let v = c.args.self.now in
    subst (IsLeft (IsComplete v.model v.slice c.args.bits.now) (sets_in_play v.model v.slice c.args.column)) (sym c.in_play-in_play.ensures.value)
    (left-all (IsComplete v.model v.slice c.args.bits.now) (sets_in_play v.model v.slice c.args.column))
