use Rattle.std.proofs.Common.{◌≡◌, Some, subst}
use Rattle.std.specs.Prelude.{option_map}
use Rattle.row_text.specs.Readings.{mode_seen}
use Rattle.pict_cli.specs.believed.Modes.{source_in}
use Rattle.pict_cli.specs.believed.RowSources.{read_row_bytes}
use Rattle.pict_cli.specs.Steps.{StopsRows}
use Rattle.pict_cli.proofs.RowFiles.{if_err_then, no_file, source_held}
use Rattle.pict_cli.proofs.rows.load_rows.Goals as goal

pub returns-in-Some-clause-stops : goal.returns-in-Some-clause-stops
returns-in-Some-clause-stops g c =
    let files = (g.F.Folder.seen c.args.files.now).files in
    if_err_then c.read_row_file.result
    (λ stop stops source told. source_held (files c.in-Some.name.now) source (λ found. StopsRows (read_row_bytes c.args.model.now (mode_seen c.args.mode)) found stop)
    (subst (λ name. source_in (option_map (λ file. file.now) name) files ≡ Some source) c.in-Some.is told) stops)
    c.read_row_file.ensures.stops

pub returns-in-None-clause-rows : goal.returns-in-None-clause-rows
returns-in-None-clause-rows g c = λ source told.
    no_file c.args.model.now (mode_seen c.args.mode) _ source c.new.ensures c.new-in-None.ensures
    (subst (λ name. source_in (option_map (λ file. file.now) name) (g.F.Folder.seen c.args.files.now).files ≡ Some source) c.in-None.is told)
