use Rattle.std.proofs.Common.{◌≤◌, All, ◌∙◌, ap, length, map, sym, subst}
use Rattle.std.proofs.lemmas.List.{length-map}
use Rattle.row_text.specs.RowFiles.{suite_seen}
use Rattle.row_text.specs.declared.row_file.FileRow.{FileRow}
use Rattle.suite_facts.specs.believed.Coverages.{point_of}
use Rattle.model_page.specs.Seen.{point_seen}
use Rattle.model_page.specs.believed.Curves.{curve_counts}
use Rattle.model_page.proofs.Curving.{counts_rise, counts_within, points_are}
use Rattle.model_page.proofs.curve.curve_points.Goals as goal

pub covered_after-requires-clause-rising : goal.covered_after-requires-clause-rising
covered_after-requires-clause-rising c = counts_rise c.len.result c.as_slice.result.now (c.as_slice.ensures.value ∙ c.in_ok-counts.ensures)

pub covered_after-requires-clause-within : goal.covered_after-requires-clause-within
covered_after-requires-clause-within c =
    subst (λ k. All (λ n. n ≤ k) c.as_slice.result.now) c.len.ensures (counts_within c.len.result c.as_slice.result.now (c.as_slice.ensures.value ∙ c.in_ok-counts.ensures))

pub returns : goal.returns
returns c =
    let m = c.args.model.now in
    let rows = suite_seen c.args.file.now in
    let long = c.len.ensures ∙ sym (length-map c.args.file.now.rows (λ (one : FileRow). one.cells)) in
    c.in_ok-places.ensures
    ∙ ap (map point_seen) (c.as_slice-2.ensures.value ∙ c.in_ok-points.ensures
    ∙ ap (map (point_of m rows)) (c.as_slice.ensures.value ∙ c.in_ok-counts.ensures ∙ ap curve_counts long))
    ∙ points_are m rows (curve_counts (length rows))
