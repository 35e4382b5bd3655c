use Rattle.std.proofs.Common.{◌≡◌, ℕ, List, Err, None, Some, false, drop, length, position, ap, sym, ◌∙◌, rules, arith}
use Rattle.std.specs.Prelude.{codes, unwrap_or}
use Rattle.std.proofs.lemmas.List.{length-map}
use Rattle.value_text.specs.believed.Texts.{is_same_text}
use Rattle.definitions.specs.believed.RowFile.{cells_of_line}
use Rattle.row_text.specs.RowFiles.{row_seen}
use Rattle.row_text.specs.RowLines.{line_seen}
use Rattle.suspect_tuples.specs.believed.ResultReading.{result_column, result_fault, result_of_line, results_beside, results_under, unless_bad}
use Rattle.suspect_tuples.specs.Results.{result_fault_of}
use Rattle.suspect_tuples.proofs.ResultSteps.{bad_told, notes_read, results_opened, rows_read}
use Rattle.suspect_tuples.proofs.reading.read_results.Goals as goal

pub returns-in_default-result_column-clause-reads : goal.returns-in_default-result_column-clause-reads
returns-in_default-result_column-clause-reads c =
    let m = c.args.model.now in
    let first = line_seen c.in-Some.header in
    let cells = cells_of_line first.1 in
    let reads = c.in_ok-file.ensures.reads in
    let opened = sym c.new-lines.ensures ∙ c.in-Some.ensures in
    let column : result_column m cells ≡ None =
    sym (c.in_default-result_column.ensures ∙ ap (λ fold. position (λ cell. is_same_text fold (codes ":result") cell) cells) c.fold.ensures.value) in
    results_opened m c.args.bytes.now first c.take_line.new.self reads.0 opened reads.1
    ∙ ap (λ column. results_under m column first.0 cells c.take_line.new.self reads.0) column

pub returns-in_err-failed-clause-reads : goal.returns-in_err-failed-clause-reads
returns-in_err-failed-clause-reads c =
    let m = c.args.model.now in
    let first = line_seen c.in-Some.header in
    let cells = cells_of_line first.1 in
    let lines = c.take_line.new.self in
    let reads = c.in_ok-file.ensures.reads in
    let opened = sym c.new-lines.ensures ∙ c.in-Some.ensures in
    let column : result_column m cells ≡ Some c.in-Some-result_column.column =
    sym (c.in-Some-result_column.ensures ∙ ap (λ fold. position (λ cell. is_same_text fold (codes ":result") cell) cells) c.fold.ensures.value) in
    let whole = results_opened m c.args.bytes.now first lines reads.0 opened reads.1 ∙ ap (λ column. results_under m column first.0 cells lines reads.0) column in
    let is : c.from_residual-in_err-failed.result ≡ Err c.in_err-failed.field-0.0 = search rules in
    rw is
    (bad_told (result_fault_of c.in_err-failed.field-0.0) (result_fault c.in-Some-result_column.column lines)
    (results_beside m c.in-Some-result_column.column first.0 cells lines reads.0) _ whole c.in_err-failed.ensures.bad)

pub later_notes-requires : goal.later_notes-requires
later_notes-requires c =
    let m = c.args.model.now in
    let first = line_seen c.in-Some.header in
    let cells = cells_of_line first.1 in
    let reads = c.in_ok-file.ensures.reads in
    let opened = sym c.new-lines.ensures ∙ c.in-Some.ensures in
    let column : result_column m cells ≡ Some c.in-Some-result_column.column =
    sym (c.in-Some-result_column.ensures ∙ ap (λ fold. position (λ cell. is_same_text fold (codes ":result") cell) cells) c.fold.ensures.value) in
    let notes = reads.2.notes ∙ notes_read m c.args.bytes.now first c.take_line.new.self reads.0 c.in-Some-result_column.column c.fold.ensures.sound opened reads.1 column in
    omega (arith, ap length (c.as_slice.ensures ∙ notes))

pub returns-clause-reads : goal.returns-clause-reads
returns-clause-reads c =
    let m = c.args.model.now in
    let first = line_seen c.in-Some.header in
    let cells = cells_of_line first.1 in
    let lines = c.take_line.new.self in
    let reads = c.in_ok-file.ensures.reads in
    let opened = sym c.new-lines.ensures ∙ c.in-Some.ensures in
    let at = c.in-Some-result_column.column in
    let column : result_column m cells ≡ Some at =
    sym (c.in-Some-result_column.ensures ∙ ap (λ fold. position (λ cell. is_same_text fold (codes ":result") cell) cells) c.fold.ensures.value) in
    let notes = reads.2.notes ∙ notes_read m c.args.bytes.now first lines reads.0 at c.fold.ensures.sound opened reads.1 column in (
      results_beside m at first.0 cells lines reads.0,
      results_opened m c.args.bytes.now first lines reads.0 opened reads.1 ∙ ap (λ column. results_under m column first.0 cells lines reads.0) column
          ∙ ap (λ fault. unless_bad fault (results_beside m at first.0 cells lines reads.0)) c.in_ok-failed.ensures.good,
      record {
        rows = record { rows = reads.2.rows; notes = c.in_ok-notes.ensures ∙ ap (drop 1) (c.as_slice.ensures ∙ notes) };
        failed = c.in_ok-failed.ensures.flags;
      },
    )

pub returns-clause-file : goal.returns-clause-file
returns-clause-file c =
    let m = c.args.model.now in
    let lines = c.take_line.new.self in
    let reads = c.in_ok-file.ensures.reads in
    let opened = sym c.new-lines.ensures ∙ c.in-Some.ensures in
    let many = rows_read m c.args.bytes.now (line_seen c.in-Some.header) lines reads.0 opened reads.1 in
    let flags = ap length c.in_ok-failed.ensures.flags ∙ length-map lines (λ (line : ℕ × List ℕ). unwrap_or (result_of_line c.in-Some-result_column.column line.1) false) in
    let rows = sym (length-map c.in_ok-file.file.rows row_seen) ∙ ap length reads.2.rows in
    record {
      rows = record { fit = c.in_ok-file.ensures.file.fit; few = c.in_ok-file.ensures.file.few; rising = c.in_ok-file.ensures.file.rising };
      failed = flags ∙ sym (rows ∙ many);
    }
