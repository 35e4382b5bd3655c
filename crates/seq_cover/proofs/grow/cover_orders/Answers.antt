use Rattle.std.proofs.Common.{◌≡◌, length, subst, sym}
use Rattle.seq_check.specs.believed.Verdicts.{verdict}
use Rattle.seq_check.specs.declared.verdict.OrderVerdict.TheVariants.{Accepted}
use Rattle.seq_cover.specs.Covering.{Covers}
use Rattle.seq_cover.specs.believed.ReportText.{report_text}
use Rattle.seq_cover.specs.declared.suite.OrderSuite.{OrderSuite}
use Rattle.seq_cover.proofs.AcceptedLaws.{grown_accepted}
use Rattle.seq_cover.proofs.CoverLaws.{grown_covers}
use Rattle.seq_cover.proofs.grow.cover_orders.Goals as goal

pub returns-clause-covers : goal.returns-clause-covers
returns-clause-covers c =
    let e = c.args.events.now in
    subst (Covers e) (sym c.in_ok-suite.ensures) (grown_covers e c.assert_invariant.ensures)

pub returns-clause-accepted : goal.returns-clause-accepted
returns-clause-accepted c =
    let e = c.args.events.now in
    let IsSo : OrderSuite → Type 0 = λ suite. verdict e (report_text e suite) ≡ Accepted (length suite.rows) (length suite.never) in
    subst IsSo (sym c.in_ok-suite.ensures) (grown_accepted e c.assert_invariant.ensures)
