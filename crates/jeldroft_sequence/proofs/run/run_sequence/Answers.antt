use Rattle.std.proofs.Common.{◌≡◌, Some, subst}
use Rattle.jeldroft_sequence.proofs.RunEnds.{accepts, refuses}
use Rattle.jeldroft_sequence.proofs.run.run_sequence.Goals as goal

pub returns-in-Some-clause-accepts : goal.returns-in-Some-clause-accepts
returns-in-Some-clause-accepts g c = λ zero name held report named at at_report.
    let files = (g.F.Folder.seen c.args.files.now).files in
    let same : name ≡ c.as_str.result.now = cc in
    accepts c.args.args.now.length held report (g.O.Sink.seen c.args.out.now) (g.O.Sink.seen c.run_check.new.out) c.run_check.result
    (c.run_check.ensures.judges held report at (subst (λ n. files n ≡ Some report) same at_report)) zero

pub returns-in-Some-clause-refuses : goal.returns-in-Some-clause-refuses
returns-in-Some-clause-refuses g c = λ one name held report named at at_report.
    let files = (g.F.Folder.seen c.args.files.now).files in
    let same : name ≡ c.as_str.result.now = cc in
    refuses c.args.args.now.length held report (g.O.Sink.seen c.args.out.now) (g.O.Sink.seen c.run_check.new.out) c.run_check.result
    (c.run_check.ensures.judges held report at (subst (λ n. files n ≡ Some report) same at_report)) one
