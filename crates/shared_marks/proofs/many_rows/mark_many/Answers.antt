use Rattle.std.proofs.Common.{◌≡◌, [], ◌&&◌, map, ap, refl, subst}
use Rattle.std.specs.List.{filter}
use Rattle.row_text.specs.declared.row_file.FileRow.{FileRow}
use Rattle.shared_marks.specs.Adding.{Marks}
use Rattle.shared_marks.specs.TestColumns.{is_plain}
use Rattle.shared_marks.specs.OpenSets.{is_of_some}
use Rattle.shared_marks.specs.Served.{is_served_at}
use Rattle.shared_marks.proofs.AddingLemmas.{marks_none}
use Rattle.shared_marks.proofs.OpenLemmas.{block_adds}
use Rattle.shared_marks.proofs.many_rows.mark_many.Goals as goal

pub returns-then-are_none : goal.returns-then-are_none
returns-then-are_none c =
    let m = c.args.model.now in
    let plan = c.args.plan.now in
    let rows = map (λ (row : FileRow). row.cells) c.args.rows.now in
    let tests = filter (is_plain m) rows in
    let lines = c.args.in_play.now.lines.items in
    let none : lines ≡ [] = (c.are_none.ensures c.if-are_none.true).0 in
    block_adds m plan rows tests lines c.args.in_play.now.upto c.args.seat.now c.mark_negatives.new.seat c.mark_negatives.new.seat c.requires.plan c.requires.in_play
    c.requires.all refl c.mark_negatives.ensures
    (marks_none (λ place. is_of_some plan lines place && is_served_at m tests place) c.mark_negatives.new.seat
    (λ place. ap (λ ls. is_of_some plan ls place && is_served_at m tests place) none))

pub returns : goal.returns
returns c =
    let m = c.args.model.now in
    let plan = c.args.plan.now in
    let rows = map (λ (row : FileRow). row.cells) c.args.rows.now in
    let tests = c.in_ok-columns.columns.tests in
    block_adds m plan rows tests c.args.in_play.now.lines.items c.args.in_play.now.upto c.args.seat.now c.mark_negatives.new.seat c.mark_lines.new.seat c.requires.plan
    c.requires.in_play c.requires.all c.in_ok-columns.ensures.tests c.mark_negatives.ensures
    (subst (λ lines. Marks (λ place. is_of_some plan lines place && is_served_at m tests place) c.mark_negatives.new.seat c.mark_lines.new.seat) c.as_slice-lines.ensures.value
    c.in_ok-mark_lines.ensures)
