use Rattle.std.proofs.Common.{◌≡◌, Err, None, Some, length, map, position, inr, ap, sym, ◌∙◌, rules}
use Rattle.std.proofs.lemmas.List.{length-map}
use Rattle.value_text.specs.believed.Texts.{is_same_text}
use Rattle.definitions.specs.believed.RowFile.{cells_of_line}
use Rattle.row_text.specs.RowFiles.{row_seen}
use Rattle.row_text.specs.RowLines.{line_seen}
use Rattle.suspect_tuples.proofs.ResultSteps.{rows_read}
use Rattle.jeldroft_suspect.specs.Due.{stop_of_fault}
use Rattle.jeldroft_suspect.specs.believed.Results.{outcome_in, result_column}
use Rattle.jeldroft_suspect.proofs.RanLemmas.{as_many, ran_file}
use Rattle.jeldroft_suspect.proofs.ResultLemmas.{with_words, without_column, without_word}
use Rattle.jeldroft_suspect.proofs.reading.read_results.Goals as goal

pub returns-in_default-2-clause-refused : goal.returns-in_default-2-clause-refused
returns-in_default-2-clause-refused c =
    let m = c.args.model.now in
    let name = c.args.name.now in
    let first = line_seen c.in-Some.header in
    let reads = c.in_ok-file.ensures.reads in
    let opened = sym c.new-lines.ensures ∙ c.in-Some.ensures in
    let column : result_column m name (cells_of_line first.1) ≡ None =
    ap (λ fold. position (λ cell. is_same_text fold name cell) (cells_of_line first.1)) (sym c.fold.ensures.value) ∙ sym c.in_ok-column.ensures ∙ c.in_default-2.is in
    inr (without_column m name c.args.bytes.now reads.0 reads.1 first c.take_line.new.self opened column)

pub returns-in_err-outcomes-clause-refused : goal.returns-in_err-outcomes-clause-refused
returns-in_err-outcomes-clause-refused c =
    let m = c.args.model.now in
    let name = c.args.name.now in
    let first = line_seen c.in-Some.header in
    let reads = c.in_ok-file.ensures.reads in
    let opened = sym c.new-lines.ensures ∙ c.in-Some.ensures in
    let column : result_column m name (cells_of_line first.1) ≡ Some c.in-Some-2.column =
    ap (λ fold. position (λ cell. is_same_text fold name cell) (cells_of_line first.1)) (sym c.fold.ensures.value) ∙ sym c.in_ok-column.ensures ∙ c.in-Some-2.is in
    let is : c.from_residual-in_err-outcomes.result ≡ Err c.in_err-outcomes.field-0.0 = search rules in
    rw is
    (without_word m name c.args.bytes.now reads.0 reads.1 first c.take_line.new.self opened c.in-Some-2.column column (stop_of_fault c.in_err-outcomes.field-0.0) c.in_err-outcomes.ensures.bad)

pub results_with-requires : goal.results_with-requires
results_with-requires c =
    let lines = c.take_line.new.self in
    let reads = c.in_ok-file.ensures.reads in
    let opened = sym c.new-lines.ensures ∙ c.in-Some.ensures in
    let many = rows_read c.args.model.now c.args.bytes.now (line_seen c.in-Some.header) lines reads.0 opened reads.1 in
    sym (length-map c.in_ok-file.file.rows row_seen) ∙ ap length reads.2.rows ∙ many
    ∙ sym (length-map lines (outcome_in c.in-Some-2.column)) ∙ sym (ap length c.in_ok-outcomes.ensures.outcomes) ∙ sym (ap length c.as_slice.ensures)

pub returns-clause-results : goal.returns-clause-results
returns-clause-results c =
    let m = c.args.model.now in
    let name = c.args.name.now in
    let first = line_seen c.in-Some.header in
    let reads = c.in_ok-file.ensures.reads in
    let opened = sym c.new-lines.ensures ∙ c.in-Some.ensures in
    let column : result_column m name (cells_of_line first.1) ≡ Some c.in-Some-2.column =
    ap (λ fold. position (λ cell. is_same_text fold name cell) (cells_of_line first.1)) (sym c.fold.ensures.value) ∙ sym c.in_ok-column.ensures ∙ c.in-Some-2.is in
    with_words m name c.args.bytes.now reads.0 reads.1 first c.take_line.new.self opened c.in-Some-2.column column c.in_ok-file.file.rows c.as_slice.result.now c.in_ok-results.results
    reads.2.rows (c.as_slice.ensures ∙ c.in_ok-outcomes.ensures.outcomes) c.in_ok-outcomes.ensures.good c.in_ok-results.ensures.0 c.in_ok-results.ensures.1

pub returns-clause-fit : goal.returns-clause-fit
returns-clause-fit c =
    let lines = c.take_line.new.self in
    let reads = c.in_ok-file.ensures.reads in
    let opened = sym c.new-lines.ensures ∙ c.in-Some.ensures in
    let many = rows_read c.args.model.now c.args.bytes.now (line_seen c.in-Some.header) lines reads.0 opened reads.1 in
    let same : length c.in_ok-file.file.rows ≡ length c.as_slice.result.now =
    sym (length-map c.in_ok-file.file.rows row_seen) ∙ ap length reads.2.rows ∙ many
    ∙ sym (length-map lines (outcome_in c.in-Some-2.column)) ∙ sym (ap length c.in_ok-outcomes.ensures.outcomes) ∙ sym (ap length c.as_slice.ensures) in
    let results = c.in_ok-results.results in
    let kept = c.in_ok-results.ensures.0 in
    record {
      rows = ran_file c.args.model.now c.in_ok-file.file results.rows c.as_slice.result.now kept c.in_ok-file.ensures.file;
      failed = ap length c.in_ok-results.ensures.1 ∙ as_many c.in_ok-file.file.rows c.as_slice.result.now same ∙ sym (ap length kept);
    }
