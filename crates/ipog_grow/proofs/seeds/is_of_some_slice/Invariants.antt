use Rattle.std.proofs.Common.{◌≡◌, ◌≤◌, ◌&&◌, length}
use Rattle.std.specs.List.{filter, range_with_len}
use Rattle.cov_model.specs.believed.Meaning.{given_value}
use Rattle.cov_model.specs.believed.Rows.{is_assigned}
use Rattle.ipog_grow.proofs.seeds.is_of_some_slice.Given as goal

-- how many parameters before this one have a negative value
abbrev pub invariant-loop-p : goal.invariant-loop-p
invariant-loop-p l =
    (l.count ≡ length l.model.params) × (l.found ≤ l.p)
    × (l.found ≡ length (filter (λ p. is_assigned l.cells p && (given_value l.model l.cells p).negative) (range_with_len 0 l.p)))
