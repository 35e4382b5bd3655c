use Rattle.std.proofs.Common.{Some, refl, subst, sym}
use Rattle.model_parse.specs.RawModels.{AreOpts}
use Rattle.command_line.specs.believed.Loading.{IsLoaded, StopsReading}
use Rattle.pict_cli.specs.believed.Ends.{moment}
use Rattle.pict_cli.specs.Options.{settings_seen}
use Rattle.pict_cli.proofs.Early.{leaves_early, reads_stopped, stopped_answered, stopped_early}
use Rattle.pict_cli.proofs.Reading.{ran_loaded, ran_unread}
use Rattle.command_line.proofs.OptsLemmas.{same_opts}
use Rattle.pict_cli.proofs.run.run_on_text.Goals as goal

pub read_made-requires-clause-opts : goal.read_made-requires-clause-opts
read_made-requires-clause-opts g c = subst AreOpts (sym (same_opts c.args.opts.now.opts)) c.requires.fit.fit.opts

pub returns-in-Ok : goal.returns-in-Ok
returns-in-Ok g c =
    let name = c.args.opts.now.model.now in
    let opts = c.args.opts.now.opts in
    let model = c.in-Ok.model in
    let notes = c.in-Ok.notes in
    ran_loaded (Some (Some c.args.text.now)) opts (settings_seen c.args.opts.now) c.args.seed_word name model notes _ _
    (moment (g.F.Folder.seen c.args.files.now) (g.O.Sink.seen c.args.out.now)) (moment (g.F.Folder.seen c.args.files.now) (g.O.Sink.seen c.args.out.now)) (moment (g.F.Folder.seen c.go_on.new.files) (g.O.Sink.seen c.go_on.new.out)) _
    (same_opts c.args.opts.now.opts) c.go_on.ensures.notes (λ file. refl) (λ file. refl) (λ file. refl) refl
    (subst (λ bytes. IsLoaded opts (Some bytes) model notes) c.as_bytes.ensures.value c.in-Ok.ensures.model.1) c.go_on.ensures.runs (c.go_on.ensures.leaves name)

pub returns-in-Err : goal.returns-in-Err
returns-in-Err g c =
    let s = settings_seen c.args.opts.now in
    let name = c.args.opts.now.model.now in
    let opts = c.args.opts.now.opts in
    let stop = c.in-Err.stop in
    ran_unread (Some (Some c.args.text.now)) opts s c.args.seed_word name _ _ _ _ _ stop
    (same_opts c.args.opts.now.opts) c.stopped.ensures.end c.stopped.ensures.notes c.stopped.ensures.row_notes refl (λ file. refl)
    (subst (λ bytes. StopsReading opts (Some bytes) stop) c.as_bytes.ensures.value c.in-Err.ensures.stops)
    (leaves_early s name _ _ _ (stopped_early _ c.in-Err.ensures.early) (stopped_answered s.effort _ c.in-Err.ensures.early) (λ file. refl)
    (reads_stopped s name _ (g.F.Folder.seen c.args.files.now) (g.F.Folder.seen c.args.files.now) c.in-Err.ensures.early (λ file. refl)) (λ file. refl) refl)
