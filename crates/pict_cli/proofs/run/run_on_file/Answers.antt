use Rattle.std.proofs.Common.{◌≡◌, Err, ap, refl, subst, sym}
use Rattle.model_parse.specs.RawModels.{AreOpts}
use Rattle.command_line.specs.declared.files.FileKind.TheVariants as kinds
use Rattle.command_line.specs.declared.stop.Stop.TheVariants.{CannotRead}
use Rattle.pict_cli.specs.believed.Ends.{moment}
use Rattle.pict_cli.specs.Options.{settings_seen}
use Rattle.pict_cli.proofs.Reading.{leaves_unread, ran_loaded, ran_unread}
use Rattle.command_line.proofs.OptsLemmas.{same_opts}
use Rattle.pict_cli.proofs.run.run_on_file.Goals as goal

pub load_model-requires : goal.load_model-requires
load_model-requires g c = subst AreOpts (sym (same_opts c.args.opts.now.opts)) c.requires.fit.fit.opts

pub returns-in-Ok : goal.returns-in-Ok
returns-in-Ok g c =
    let name = c.args.opts.now.model.now in
    ran_loaded ((g.F.Folder.seen c.args.files.now).files name) c.args.opts.now.opts (settings_seen c.args.opts.now) c.args.seed_word name c.in-Ok.model c.in-Ok.notes _ _
    (moment (g.F.Folder.seen c.args.files.now) (g.O.Sink.seen c.args.out.now)) (moment (g.F.Folder.seen c.load_model.new.files) (g.O.Sink.seen c.args.out.now)) (moment (g.F.Folder.seen c.go_on.new.files) (g.O.Sink.seen c.go_on.new.out)) _
    (same_opts c.args.opts.now.opts) c.go_on.ensures.notes c.load_model.ensures.files (c.in-Ok.ensures.no_fault (λ is. cc)) c.load_model.ensures.write_faults refl
    c.in-Ok.ensures.model.1 c.go_on.ensures.runs (c.go_on.ensures.leaves name)

pub returns-in-Err : goal.returns-in-Err
returns-in-Err g c =
    let s = settings_seen c.args.opts.now in
    let name = c.args.opts.now.model.now in
    let stop = c.in-Err.stop in
    let keeps = c.load_model.ensures.files in
    ran_unread ((g.F.Folder.seen c.args.files.now).files name) c.args.opts.now.opts s c.args.seed_word name _ _ _ _ _ stop
    (same_opts c.args.opts.now.opts) c.stopped.ensures.end c.stopped.ensures.notes c.stopped.ensures.row_notes refl keeps c.in-Err.ensures.stops
    (leaves_unread s name _ _ stop c.requires.unmade c.in-Err.ensures.other keeps (λ is. c.in-Err.ensures.cannot_read (ap Err is))
    (λ other. c.in-Err.ensures.no_fault (λ is. other (let same : stop ≡ (CannotRead kinds.Model) = cc in same))) c.load_model.ensures.write_faults refl)
