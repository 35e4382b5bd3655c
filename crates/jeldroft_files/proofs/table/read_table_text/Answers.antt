use Rattle.jeldroft_files.specs.believed.Tables.{is_comma}
use Rattle.jeldroft_files.proofs.Reading.{stops_table}
use Rattle.jeldroft_files.proofs.table.read_table_text.Goals as goal

pub returns-clause-stops : goal.returns-clause-stops
returns-clause-stops g c =
    stops_table (is_comma c.args.delimiter c.args.name.now) c.is_comma.result ((g.F.Folder.seen c.args.files.now).files c.args.name.now)
    c.in-Ok.bytes.items c.as_slice.result.now c.in-Err-tabbed.error c.failure_of.result.cause c.if-not-is_comma.false c.is_comma.ensures
    c.as_slice.ensures.value c.in-Ok.ensures.whole c.in-Ok.ensures.within c.in-Err-tabbed.ensures.table c.failure_of.ensures
