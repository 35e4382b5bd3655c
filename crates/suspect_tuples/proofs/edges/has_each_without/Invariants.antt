use Rattle.std.proofs.Common.{◌≡◌, true}
use Rattle.std.specs.Prelude.{remove}
use Rattle.std.specs.List.{list_all, range_with_len}
use Rattle.suspect_tuples.specs.Edges.{is_had}
use Rattle.suspect_tuples.proofs.edges.has_each_without.Given as goal

abbrev pub invariant-loop-left_out : goal.invariant-loop-left_out
invariant-loop-left_out l = list_all (λ i. is_had l.rows (remove l.tuple i)) (range_with_len 0 l.left_out) ≡ true
