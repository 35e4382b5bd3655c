use Rattle.std.proofs.Common.{◌+◌, ◌∙◌, subst}
use Rattle.std.specs.Prelude.{IfSome}
use Rattle.uncovered_table.specs.Prepared.{AreReady}
use Rattle.uncovered_table.proofs.ReadyLemmas.{left-value}
use Rattle.uncovered_table.proofs.counts.put_ready.Goals as goal

pub returns-in-Some-clause-each : goal.returns-in-Some-clause-each
returns-in-Some-clause-each c =
    let v = c.args.sets.now in
    let made = c.in-Some.lines.now in
    let ready : AreReady v.model v.slice c.args.bits.now c.args.column made =
    subst (λ o. IfSome o (λ made. AreReady v.model v.slice c.args.bits.now c.args.column made.now)) c.in-Some.is c.requires.lines in
    λ done i within.
    c.put_few.ensures.each done i within
    ∙ left-value v.model v.slice c.args.bits.now c.args.cells.now c.args.column (c.args.from + i) made.sets.items c.assert_invariant.ensures.kept ready.left
