use Rattle.std.proofs.Common.{refl, subst, sym}
use Rattle.jeldroft_files.specs.Runs.{Ends, end_status}
use Rattle.jeldroft_files.specs.believed.Runs.{moment}
use Rattle.jeldroft_show.specs.believed.Due.{Due, form_of}
use Rattle.jeldroft_show.specs.believed.Shows.{LeavesShown, ShowsAs}
use Rattle.jeldroft_show.specs.Steps.{IsCalledFor, answer_seen}
use Rattle.jeldroft_show.proofs.CertifiedLemmas.{certified_by}
use Rattle.jeldroft_show.proofs.DueLemmas.{due_once}
use Rattle.jeldroft_show.proofs.ShowEnds.{leaves_shown, shows}
use Rattle.jeldroft_show.proofs.run.run_show.Goals as goal

pub returns-clause-shows : goal.returns-clause-shows
returns-clause-shows g c = λ held holds.
    let args = c.args.args.now in
    let form = form_of args.format in
    let first = moment (g.F.Folder.seen c.args.files.now) (g.O.Sink.seen c.args.out.now) in
    let before = moment (g.F.Folder.seen c.make_answer-answer.new.files) (g.O.Sink.seen c.args.out.now) in
    let after = moment (g.F.Folder.seen c.write_answer-end.new.files) (g.O.Sink.seen c.write_answer-end.new.out) in
    let answer = c.make_answer-answer.result in
    let end = c.write_answer-end.result in
    subst (ShowsAs (Due form args held) args.output first after) (sym c.status_of.ensures)
    (shows (Due form args held) args.output first before after refl (due_once form args held) answer end
    (subst (λ given. IsCalledFor (Due given args held) answer) c.form_of-form.ensures (c.make_answer-answer.ensures.due held holds))
    (subst (λ output. Ends (answer_seen answer) output before after (end_status end)) c.output_name.ensures c.write_answer-end.ensures.ends) c.write_answer-end.ensures.same)

pub returns-clause-certified : goal.returns-clause-certified
returns-clause-certified g c = λ zero held no_form holds.
    certified_by c.args.args.now held c.args.args.now.output _ _ c.status_of.result no_form zero (returns-clause-shows g c held holds)

pub returns-clause-leaves : goal.returns-clause-leaves
returns-clause-leaves g c =
    let args = c.args.args.now in
    let first = moment (g.F.Folder.seen c.args.files.now) (g.O.Sink.seen c.args.out.now) in
    let before = moment (g.F.Folder.seen c.make_answer-answer.new.files) (g.O.Sink.seen c.args.out.now) in
    let after = moment (g.F.Folder.seen c.write_answer-end.new.files) (g.O.Sink.seen c.write_answer-end.new.out) in
    let answer = c.make_answer-answer.result in
    let end = c.write_answer-end.result in
    subst (LeavesShown args.output first after) (sym c.status_of.ensures)
    (leaves_shown args.output (g.F.Folder.seen c.args.files.now) (g.F.Folder.seen c.make_answer-answer.new.files) (g.O.Sink.seen c.args.out.now) after answer end
    c.make_answer-answer.ensures.files
    (subst (λ output. Ends (answer_seen answer) output before after (end_status end)) c.output_name.ensures c.write_answer-end.ensures.ends))
