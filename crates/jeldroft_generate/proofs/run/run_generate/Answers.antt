use Rattle.std.proofs.Common.{sym, subst, ◌∙◌}
use Rattle.jeldroft_files.specs.Runs.{end_status}
use Rattle.jeldroft_files.specs.believed.Runs.{moment}
use Rattle.jeldroft_generate.specs.believed.Runs.{Generates, Leaves}
use Rattle.jeldroft_generate.proofs.Headline.{covers_zero}
use Rattle.jeldroft_generate.proofs.Runs.{generates, leaves}
use Rattle.jeldroft_generate.proofs.Told.{told_sum}
use Rattle.jeldroft_generate.proofs.run.run_generate.Goals as goal

pub returns-clause-headline : goal.returns-clause-headline
returns-clause-headline g c = λ zero.
    covers_zero c.args.args.now (g.F.Folder.seen c.args.files.now) (g.F.Folder.seen c.answer-made.new.files) (g.O.Sink.seen c.args.out.now)
    (moment (g.F.Folder.seen c.finish-end.new.files) (g.O.Sink.seen c.finish-end.new.out)) (end_status c.finish-end.result) c.answer-made.result
    c.answer-made.ensures.answers c.finish-end.ensures.finishes (sym c.status_of.ensures ∙ zero)

pub returns-clause-told : goal.returns-clause-told
returns-clause-told g c = λ zero asked terminal loud held is.
    told_sum c.args.args.now (g.F.Folder.seen c.args.files.now) (g.F.Folder.seen c.answer-made.new.files) (g.O.Sink.seen c.args.out.now)
    (g.E.Sink.seen c.tell.new.diag) (moment (g.F.Folder.seen c.finish-end.new.files) (g.O.Sink.seen c.finish-end.new.out)) held
    c.answer-made.result c.finish-end.result (c.answer-made.ensures.answers held is) c.finish-end.ensures.finishes c.finish-end.ensures.same
    (c.tell.ensures terminal loud) (sym c.status_of.ensures ∙ zero) asked

pub returns-clause-runs : goal.returns-clause-runs
returns-clause-runs g c = λ held is.
    let folder = g.F.Folder.seen c.args.files.now in
    let out = g.O.Sink.seen c.args.out.now in
    let after = moment (g.F.Folder.seen c.finish-end.new.files) (g.O.Sink.seen c.finish-end.new.out) in
    subst (Generates c.args.args.now held (moment folder out) after) (sym c.status_of.ensures)
    (generates c.args.args.now folder (g.F.Folder.seen c.answer-made.new.files) out after (end_status c.finish-end.result) c.answer-made.ensures.files held c.answer-made.result
    (c.answer-made.ensures.answers held is) c.finish-end.ensures.finishes)

pub returns-clause-leaves : goal.returns-clause-leaves
returns-clause-leaves g c =
    let folder = g.F.Folder.seen c.args.files.now in
    let out = g.O.Sink.seen c.args.out.now in
    let after = moment (g.F.Folder.seen c.finish-end.new.files) (g.O.Sink.seen c.finish-end.new.out) in
    subst (Leaves c.args.args.now (moment folder out) after) (sym c.status_of.ensures)
    (leaves c.args.args.now folder (g.F.Folder.seen c.answer-made.new.files) out after (end_status c.finish-end.result) c.answer-made.ensures.files c.answer-made.result
    c.finish-end.ensures.finishes)
