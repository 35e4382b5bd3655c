use Rattle.jeldroft_files.specs.believed.Runs.{moment}
use Rattle.jeldroft_check.proofs.Ending.{certified_end, checks_as}
use Rattle.jeldroft_check.proofs.run.run_check.Goals as goal

pub returns-clause-certified : goal.returns-clause-certified
returns-clause-certified g c = λ zero held holds.
    certified_end c.args.args.now held (g.O.Sink.seen c.args.out.now) (g.O.Sink.seen c.check-end.new.out) c.status_of_end.result c.check-end.result
    c.status_of_end.ensures zero (c.check-end.ensures.ends held holds)

pub returns-clause-checks : goal.returns-clause-checks
returns-clause-checks g c = λ held holds.
    checks_as c.args.args.now held (moment (g.F.Folder.seen c.args.files.now) (g.O.Sink.seen c.args.out.now))
    (moment (g.F.Folder.seen c.check-end.new.files) (g.O.Sink.seen c.check-end.new.out)) c.status_of_end.result c.check-end.result
    c.status_of_end.ensures (c.check-end.ensures.ends held holds)
