use Rattle.std.proofs.Common.{◌≡◌, ◌||◌, List, map, ◌∙◌, ap, arith}
use Rattle.std.specs.Prelude.{slice_range}
use Rattle.row_text.specs.RowFiles.{suite_seen}
use Rattle.row_text.specs.declared.row_file.FileRow.{FileRow}
use Rattle.shared_marks.specs.Served.{is_served_at}
use Rattle.shared_marks.proofs.AddingLemmas.{adds_then}
use Rattle.shared_marks.proofs.PlaceLemmas.{served_append}
use Rattle.shared_marks.proofs.RowLemmas.{range_joined, range_map}
use Rattle.shared_marks.proofs.many_rows.mark_open.Goals as goal

pub loop-marked-preserved : goal.loop-marked-preserved
loop-marked-preserved c =
    let m = c.args.model.now in
    let seen = suite_seen c.args.file.now in
    let from = c.args.from in
    let marked = c.loop-marked.marked in
    let next = c.min-next.result in
    let part : map (λ (row : FileRow). row.cells) (slice_range c.as_slice.result.now marked next) ≡ slice_range seen marked next =
    range_map (λ (row : FileRow). row.cells) c.as_slice.result.now marked next
    ∙ ap (λ (rows : List FileRow). slice_range (map (λ (row : FileRow). row.cells) rows) marked next) c.as_slice.ensures in (
      omega (arith, c.loop-marked.invariant.0, c.min-next.ensures, c.loop-marked-test.true),
      omega (arith, c.min-next.ensures),
      adds_then _ _ _ _ _ _ c.loop-marked.invariant.2 c.in_ok-mark_many.ensures (λ place.
          ap (λ rows. is_served_at m (slice_range seen from marked) place || is_served_at m rows place) part
          ∙ served_append m (slice_range seen from marked) (slice_range seen marked next) place
          ∙ ap (λ rows. is_served_at m rows place) (range_joined seen from marked next c.loop-marked.invariant.0 (omega (arith, c.min-next.ensures, c.loop-marked-test.true)))),
    )
