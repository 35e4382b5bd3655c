use Rattle.std.proofs.Common.{◌≡◌, ◌-◌, ◌<◌, ◌&&◌, map, take, length, get_or}
use Rattle.tuple_index.specs.Plan.{set_at}
use Rattle.shared_marks.specs.declared.open_sets.Line.{Line}
use Rattle.shared_marks.specs.Adding.{Marks}
use Rattle.shared_marks.specs.TestColumns.{AreColumns, place_in}
use Rattle.shared_marks.specs.OpenSets.{front, is_of_some}
use Rattle.shared_marks.specs.Served.{is_served_at}
use Rattle.shared_marks.proofs.many_rows.mark_lines.Given as goal

abbrev pub invariant-loop-line : goal.invariant-loop-line
invariant-loop-line l =
    Marks (λ place. is_of_some l.plan (take l.line-index l.lines) place && is_served_at l.model l.initial.columns.tests place) l.initial.seat l.seat
    × (length l.fronts ≡ length l.initial.columns.tests)
    × (0 < l.line-index → (other : Line) → l.fronts ≡ map (place_in l.model (front (set_at l.plan (get_or l.lines (l.line-index - 1) other).set))) l.initial.columns.tests)
    × (length l.ranks ≡ length l.initial.columns.tests)
    × (l.columns.tests ≡ l.initial.columns.tests) × AreColumns l.model l.columns
