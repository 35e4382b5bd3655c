use Rattle.std.proofs.Common.{◌≡◌, length, Err, sym, ◌∙◌, ap, rules, arith}
use Rattle.value_text.proofs.ListLemmas.{option_or_parts}
use Rattle.definitions.specs.believed.RowFile.{cells_of_line}
use Rattle.definitions.specs.believed.RowReading.{count_fault, missing_fault, twice_fault, width_fault}
use Rattle.row_text.specs.Readings.{mode_seen}
use Rattle.row_text.specs.RowFiles.{seeds_seen}
use Rattle.row_text.specs.RowLines.{line_seen}
use Rattle.row_text.proofs.ReadingSteps.{accepted, few_from_fault, file_keeps, narrow_from_fault, notes_under_names, once_from_fault, refused_above, refused_under, rows_under, under_header}
use Rattle.row_text.proofs.reading.read_under.Goals as goal

pub returns-in_err-check_columns-clause-reads : goal.returns-in_err-check_columns-clause-reads
returns-in_err-check_columns-clause-reads c =
    let m = c.args.names.now in
    let read = under_header m c.args.first c.in_ok-header.header.columns c.as_slice-columns.result.now c.in_ok-header.ensures.columns c.as_slice-columns.ensures in
    let is : c.from_residual-in_err-check_columns.result ≡ Err c.in_err-check_columns.field-0.0 = search rules in
    let count = ap (λ n. length n.params) (sym c.in_ok-header.ensures.same) ∙ sym c.param_count.ensures.count in
    rw is
    (refused_above m (mode_seen c.args.mode) (line_seen c.args.first) c.args.lines c.in_err-check_columns.field-0.0
    (c.in_err-check_columns.ensures m (cells_of_line c.args.first.text.now) count read.lent_named))

pub returns-in_err-check_lines-clause-reads : goal.returns-in_err-check_lines-clause-reads
returns-in_err-check_lines-clause-reads c =
    let m = c.args.names.now in
    let cells = cells_of_line c.args.first.text.now in
    let read = under_header m c.args.first c.in_ok-header.header.columns c.as_slice-columns.result.now c.in_ok-header.ensures.columns c.as_slice-columns.ensures in
    let count = ap (λ n. length n.params) (sym c.in_ok-header.ensures.same) ∙ sym c.param_count.ensures.count in
    let above = c.in_ok-check_columns.ensures m cells count read.lent_named in
    let is : c.from_residual-in_err-check_lines.result ≡ Err c.in_err-check_lines.field-0.0 = search rules in
    rw is
    (refused_under m (mode_seen c.args.mode) (line_seen c.args.first) c.args.lines c.in_err-check_lines.field-0.0 above (c.in_err-check_lines.ensures cells read.size))

pub read_lines-requires-clause-narrow : goal.read_lines-requires-clause-narrow
read_lines-requires-clause-narrow c = λ k d within.
    let cells = cells_of_line c.args.first.text.now in
    let read =
    under_header c.args.names.now c.args.first c.in_ok-header.header.columns c.as_slice-columns.result.now c.in_ok-header.ensures.columns c.as_slice-columns.ensures in
    let under = option_or_parts (count_fault (length c.args.lines)) (width_fault cells c.args.lines) (c.in_ok-check_lines.ensures cells read.size) in
    omega (arith, narrow_from_fault cells c.args.lines under.1 k d within, read.size, ap length c.as_slice-columns.ensures)

pub returns-clause-reads : goal.returns-clause-reads
returns-clause-reads c =
    let m = c.args.names.now in
    let cells = cells_of_line c.args.first.text.now in
    let names = c.in_ok-header.ensures.same in
    let read = under_header m c.args.first c.in_ok-header.header.columns c.as_slice-columns.result.now c.in_ok-header.ensures.columns c.as_slice-columns.ensures in
    let count = ap (λ n. length n.params) (sym names) ∙ sym c.param_count.ensures.count in
    let above = c.in_ok-check_columns.ensures m cells count read.lent_named in
    let once = once_from_fault m c.args.first.number cells (option_or_parts (twice_fault m c.args.first.number cells) (missing_fault m (mode_seen c.args.mode) cells) above).0 in
    let rows =
    rows_under m c.read_header.new.names cells c.in_ok-header.header.columns (seeds_seen c.in_ok-file.file) c.args.lines names read.named once c.in_ok-file.ensures.rows in
    accepted m (mode_seen c.args.mode) (line_seen c.args.first) c.args.lines c.in_ok-file.file c.in_ok-header.header.notes above
    (c.in_ok-check_lines.ensures cells read.size) rows c.in_ok-header.ensures.notes
    (notes_under_names m c.read_header.new.names cells c.in_ok-header.header.columns c.in_ok-header.header.notes c.in_ok-file.file.notes c.args.lines names read.named
    c.in_ok-file.ensures.notes)

pub returns-clause-file : goal.returns-clause-file
returns-clause-file c = λ bytes all.
    let m = c.args.names.now in
    let cells = cells_of_line c.args.first.text.now in
    let names = c.in_ok-header.ensures.same in
    let read = under_header m c.args.first c.in_ok-header.header.columns c.as_slice-columns.result.now c.in_ok-header.ensures.columns c.as_slice-columns.ensures in
    let count = ap (λ n. length n.params) (sym names) ∙ sym c.param_count.ensures.count in
    let above = c.in_ok-check_columns.ensures m cells count read.lent_named in
    let once = once_from_fault m c.args.first.number cells (option_or_parts (twice_fault m c.args.first.number cells) (missing_fault m (mode_seen c.args.mode) cells) above).0 in
    let rows =
    rows_under m c.read_header.new.names cells c.in_ok-header.header.columns (seeds_seen c.in_ok-file.file) c.args.lines names read.named once c.in_ok-file.ensures.rows in
    let under = option_or_parts (count_fault (length c.args.lines)) (width_fault cells c.args.lines) (c.in_ok-check_lines.ensures cells read.size) in
    file_keeps m cells c.in_ok-file.file bytes (line_seen c.args.first) c.args.lines all rows (few_from_fault (length c.args.lines) under.0)
