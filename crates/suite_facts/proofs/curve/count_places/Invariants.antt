use Rattle.std.proofs.Common.{◌≡◌, ◌≤◌, length}
use Rattle.std.specs.List.{filter, range_with_len}
use Rattle.definitions.specs.believed.Demand.{is_among}
use Rattle.suite_facts.specs.Marked.{KeepsMarked}
use Rattle.suite_facts.proofs.curve.count_places.Given as goal

-- the places before this one
abbrev pub invariant-loop-place : goal.invariant-loop-place
invariant-loop-place l = record {
  few : l.marked ≤ l.place;
  counted : l.marked ≡ length (filter (is_among l.initial.seat.holds.marked) (range_with_len 0 l.place));
  kept : KeepsMarked l.initial.seat l.seat;
}
