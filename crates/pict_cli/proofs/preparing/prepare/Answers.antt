use Rattle.std.proofs.Common.{◌≡◌, ℕ, List, [], Some, Err, inr, ap, refl, subst, sym}
use Rattle.std.specs.Prelude.{IsSomeAnd}
use Rattle.outside_io.specs.believed.Seen.{ReadFaultsRose}
use Rattle.command_line.specs.believed.Stops.{stop_of_plan}
use Rattle.command_line.specs.declared.files.FileKind.TheVariants as kinds
use Rattle.command_line.specs.declared.stop.Stop.TheVariants.{CannotRead}
use Rattle.pict_cli.specs.believed.Ends.{CountsReads, end_of}
use Rattle.pict_cli.specs.believed.Modes.{RowSource, row_source, source_in}
use Rattle.pict_cli.specs.Options.{settings_seen}
use Rattle.pict_cli.specs.believed.RowSources.{read_row_bytes}
use Rattle.pict_cli.specs.believed.Runs.{EndsBehind}
use Rattle.pict_cli.specs.Steps.{HoldsRows, IsOfRows, StopsRows}
use Rattle.pict_cli.proofs.Behind.{limited, plan_stopped, rows_counted, rows_stopped, stops_rows, within_due}
use Rattle.pict_cli.proofs.Early.{reads_stopped}
use Rattle.pict_cli.proofs.Suites.{if_err_of}
use Rattle.pict_cli.proofs.preparing.prepare.Goals as goal

pub returns-in_err-plan-clause-stops : goal.returns-in_err-plan-clause-stops
returns-in_err-plan-clause-stops g c =
    let s = settings_seen c.args.opts.now in
    let m = c.args.model.now in
    let fault = c.in_err-plan.field-0.0 in
    if_err_of (λ stop. (seed : ℕ) (source : RowSource) → row_source s (g.F.Folder.seen c.args.files.now).files ≡ Some source → EndsBehind s seed m source [] (Err stop)) c.from_residual.result
    (stop_of_plan fault) c.from_residual.ensures.1 (λ seed source told. limited s seed m source fault (Err (stop_of_plan fault)) c.requires.plans refl c.in_err-plan.ensures.refused)

pub returns-in_err-plan-clause-other : goal.returns-in_err-plan-clause-other
returns-in_err-plan-clause-other g c =
    let fault = c.in_err-plan.field-0.0 in
    if_err_of IsOfRows c.from_residual.result (stop_of_plan fault) c.from_residual.ensures.1 (inr (plan_stopped fault))

pub returns-in_err-plan-clause-reads : goal.returns-in_err-plan-clause-reads
returns-in_err-plan-clause-reads g c =
    let s = settings_seen c.args.opts.now in
    let fault = c.in_err-plan.field-0.0 in
    let before = g.F.Folder.seen c.args.files.now in
    if_err_of (λ stop. (name : List ℕ) → CountsReads s name (end_of (Err stop)) before before) c.from_residual.result (stop_of_plan fault) c.from_residual.ensures.1
    (λ name. reads_stopped s name (end_of (Err (stop_of_plan fault))) before before (plan_stopped fault) (λ file. refl))

pub returns-in_err-file-clause-stops : goal.returns-in_err-file-clause-stops
returns-in_err-file-clause-stops g c =
    let s = settings_seen c.args.opts.now in
    let m = c.args.model.now in
    let stop = c.in_err-file.field-0.0 in
    let files = (g.F.Folder.seen c.args.files.now).files in
    if_err_of (λ other. (seed : ℕ) (source : RowSource) → row_source s files ≡ Some source → EndsBehind s seed m source [] (Err other)) c.from_residual-in_err-file.result
    stop c.from_residual-in_err-file.ensures.1 (λ seed source told.
    rows_stopped s seed m source stop (Err stop) refl (within_due s m c.requires.plans c.in_ok-plan.ensures.within)
    (stops_rows s m source stop c.requires.plans (subst (λ mode. StopsRows (read_row_bytes m mode) source stop) c.requires.mode
    (c.in_err-file.ensures.stops source (subst (λ file. source_in file files ≡ Some source) (sym c.row_file.ensures) told)))))

pub returns-in_err-file-clause-other : goal.returns-in_err-file-clause-other
returns-in_err-file-clause-other g c =
    if_err_of IsOfRows c.from_residual-in_err-file.result c.in_err-file.field-0.0 c.from_residual-in_err-file.ensures.1 c.in_err-file.ensures.other

pub returns-in_err-file-clause-reads : goal.returns-in_err-file-clause-reads
returns-in_err-file-clause-reads g c =
    let s = settings_seen c.args.opts.now in
    let stop = c.in_err-file.field-0.0 in
    let before = g.F.Folder.seen c.args.files.now in
    let after = g.F.Folder.seen c.load_rows.new.files in
    if_err_of (λ other. (name : List ℕ) → CountsReads s name (end_of (Err other)) before after) c.from_residual-in_err-file.result stop c.from_residual-in_err-file.ensures.1
    (λ name. rows_counted s name stop before after c.in_err-file.ensures.other
    (λ is. subst (λ file. IsSomeAnd file (λ given. ReadFaultsRose given before after)) c.row_file.ensures (c.in_err-file.ensures.cannot_read (ap Err is)))
    (λ other. c.in_err-file.ensures.no_fault (λ is. other (let same : stop ≡ (CannotRead kinds.Rows) = cc in same))))

pub returns-clause-rows : goal.returns-clause-rows
returns-clause-rows g c = λ source told.
    let files = (g.F.Folder.seen c.args.files.now).files in
    subst (λ mode. HoldsRows c.args.model.now mode source c.in_ok-file.file) c.requires.mode
    (c.in_ok-file.ensures.rows source (subst (λ file. source_in file files ≡ Some source) (sym c.row_file.ensures) told))
