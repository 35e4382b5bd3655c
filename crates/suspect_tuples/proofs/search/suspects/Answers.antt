use Rattle.std.proofs.Common.{◌≡◌, ◌<◌, ◌^◌, length, All, ap, sym, subst, ◌∙◌, arith}
use Rattle.std.specs.Prelude.{◌&&◌, not}
use Rattle.std.proofs.lemmas.List.{length-map}
use Rattle.std.proofs.lemmas.List.FromFn.{length-range_with_len}
use Rattle.std.proofs.lemmas.List.Elements.{All-same}
use Rattle.cov_model.specs.Fits.{FitsModel}
use Rattle.cov_model.specs.believed.Rows.{is_complete}
use Rattle.cov_model.specs.believed.Valid.{param_numbers}
use Rattle.cov_model.specs.declared.demand.Demand.{Demand}
use Rattle.row_text.specs.declared.row_file.FileRow.{FileRow}
use Rattle.tuple_index.specs.believed.PlanFault.{saturated}
use Rattle.suspect_tuples.specs.SetCounts.{ways_up_to}
use Rattle.suspect_tuples.specs.believed.Suspects.{failing_rows, passing_rows}
use Rattle.suspect_tuples.proofs.CountingSteps.{cells_seen}
use Rattle.suspect_tuples.proofs.SearchLemmas.{few_kept, fit_kept, fit_rows, short_rows, told_candidates, wide_rows}
use Rattle.suspect_tuples.proofs.search.suspects.Goals as goal

pub counted_rows-requires-clause-short : goal.counted_rows-requires-clause-short
counted_rows-requires-clause-short c =
    subst (λ rows. All (λ (row : FileRow). length row.cells < 2 ^ 16) rows) (sym c.as_slice-rows.ensures)
    (short_rows c.args.model.now c.args.results.now.rows.rows c.params.ensures.sound c.requires.rows.fit)

pub returns-then-candidates-gt-MOST_CANDIDATES-clause-refused : goal.returns-then-candidates-gt-MOST_CANDIDATES-clause-refused
returns-then-candidates-gt-MOST_CANDIDATES-clause-refused c =
    let m = c.args.model.now in
    let results = c.args.results.now in
    let failing = failing_rows (cells_seen results.rows.rows) results.failed in
    let many : c.len-failing.result ≡ length failing =
    c.len-failing.ensures ∙ ap length (c.in_ok-counted.ensures.failing ∙ ap (λ rows. failing_rows (cells_seen rows) c.as_slice.result.now) c.as_slice-rows.ensures
    ∙ ap (failing_rows (cells_seen results.rows.rows)) c.as_slice.ensures) in
    let sets = c.in_ok-sets.ensures (param_numbers m) (length-range_with_len 0 (length m.params) ∙ sym (c.len-params.ensures ∙ ap length c.params.ensures.value))
    ∙ ap (λ (demand : Demand). saturated (ways_up_to demand.order (param_numbers m))) c.demand.ensures.value in
    let told_number = told_candidates m failing c.len-failing.result c.in_ok-sets.sets c.saturating_mul-candidates.result many sets c.saturating_mul-candidates.ensures in
    (omega (arith, c.if-candidates-gt-MOST_CANDIDATES.true, told_number), told_number)

pub find_all-requires-clause-passing : goal.find_all-requires-clause-passing
find_all-requires-clause-passing c =
    let m = c.args.model.now in
    let rows = c.as_slice-rows.result.now in
    let fit : All (λ row. FitsModel m row.cells) rows = subst (λ rows. All (λ (row : FileRow). FitsModel m row.cells) rows) (sym c.as_slice-rows.ensures) c.requires.rows.fit in
    All-same (λ row. FitsModel m row) c.in_ok-counted.counted.passing (passing_rows (cells_seen rows) c.as_slice.result.now) c.in_ok-counted.ensures.passing
    (fit_kept m (cells_seen rows) c.as_slice.result.now (λ row. is_complete row.0 && not row.1) (fit_rows m rows fit))

pub find_all-requires-clause-few : goal.find_all-requires-clause-few
find_all-requires-clause-few c =
    let rows = c.as_slice-rows.result.now in
    let long = ap length c.in_ok-counted.ensures.passing in
    omega (
      arith,
      long,
      few_kept (cells_seen rows) c.as_slice.result.now (λ row. is_complete row.0 && not row.1),
      length-map rows (λ (row : FileRow). row.cells),
      ap length c.as_slice-rows.ensures,
      c.requires.rows.few,
    )

pub find_all-requires-clause-failing : goal.find_all-requires-clause-failing
find_all-requires-clause-failing c =
    let m = c.args.model.now in
    let rows = c.as_slice-rows.result.now in
    let fit : All (λ row. FitsModel m row.cells) rows = subst (λ rows. All (λ (row : FileRow). FitsModel m row.cells) rows) (sym c.as_slice-rows.ensures) c.requires.rows.fit in
    All-same (λ row. length row ≡ length m.params) c.in_ok-counted.counted.failing (failing_rows (cells_seen rows) c.as_slice.result.now) c.in_ok-counted.ensures.failing
    (wide_rows m _ (fit_kept m (cells_seen rows) c.as_slice.result.now (λ row. is_complete row.0 && row.1) (fit_rows m rows fit)))

pub returns-clause-within : goal.returns-clause-within
returns-clause-within c =
    let m = c.args.model.now in
    let results = c.args.results.now in
    let failing = failing_rows (cells_seen results.rows.rows) results.failed in
    let many : c.len-failing.result ≡ length failing =
    c.len-failing.ensures ∙ ap length (c.in_ok-counted.ensures.failing ∙ ap (λ rows. failing_rows (cells_seen rows) c.as_slice.result.now) c.as_slice-rows.ensures
    ∙ ap (failing_rows (cells_seen results.rows.rows)) c.as_slice.ensures) in
    let sets = c.in_ok-sets.ensures (param_numbers m) (length-range_with_len 0 (length m.params) ∙ sym (c.len-params.ensures ∙ ap length c.params.ensures.value))
    ∙ ap (λ (demand : Demand). saturated (ways_up_to demand.order (param_numbers m))) c.demand.ensures.value in
    let told_number = told_candidates m failing c.len-failing.result c.in_ok-sets.sets c.saturating_mul-candidates.result many sets c.saturating_mul-candidates.ensures in
    omega (arith, c.if-candidates-gt-MOST_CANDIDATES.false, told_number)
