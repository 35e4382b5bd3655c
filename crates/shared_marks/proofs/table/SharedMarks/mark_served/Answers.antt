use Rattle.std.proofs.Common.{◌-◌, List, [], ◌∷◌, ◌++◌, map, take, drop, ◌∙◌, sym, ap}
use Rattle.std.specs.Prelude.{slice_range}
use Rattle.std.proofs.lemmas.List.{map-append, take_all, take_more}
use Rattle.row_text.specs.declared.row_file.FileRow.{FileRow}
use Rattle.shared_marks.specs.Served.{is_served_at}
use Rattle.shared_marks.proofs.AddingLemmas.{marks_same, marks_then}
use Rattle.shared_marks.proofs.PlaceLemmas.{served_append}
use Rattle.shared_marks.proofs.RowLemmas.{range_map}
use Rattle.shared_marks.proofs.table.SharedMarks.mark_served.Goals as goal

pub loop-row-preserved : goal.loop-row-preserved
loop-row-preserved c =
    let m = c.args.model.now in
    let part = take (c.args.to - c.args.from) (drop c.args.from c.as_slice.result.now) in
    let i = c.loop-row.row-index in
    let row = c.row-item.result in
    let more =
    ap (map (λ (r : FileRow). r.cells)) (take_more part i row c.loop-row-test.true)
    ∙ map-append (λ (r : FileRow). r.cells) (take i part) (_ ∷ []) ∙ ap (λ (r : FileRow). map (λ (s : FileRow). s.cells) (take i part) ++ r.cells ∷ []) (sym c.row-item.is) in
    marks_then _ _ _ _ _ _ c.loop-row.invariant c.mark_row.ensures (λ place.
    served_append m (map (λ (r : FileRow). r.cells) (take i part)) (row.cells ∷ []) place ∙ ap (λ rows. is_served_at m rows place) (sym more))

pub returns : goal.returns
returns c =
    let m = c.args.model.now in
    let part = take (c.args.to - c.args.from) (drop c.args.from c.as_slice.result.now) in
    let whole =
    ap (map (λ (r : FileRow). r.cells)) (take_all c.loop-row.row-index part c.loop-row-test.false)
    ∙ range_map (λ (r : FileRow). r.cells) c.as_slice.result.now c.args.from c.args.to
    ∙ ap (λ (rows : List FileRow). slice_range (map (λ (r : FileRow). r.cells) rows) c.args.from c.args.to) c.as_slice.ensures in
    marks_same _ _ _ _ c.loop-row.invariant (λ place. ap (λ rows. is_served_at m rows place) whole)
