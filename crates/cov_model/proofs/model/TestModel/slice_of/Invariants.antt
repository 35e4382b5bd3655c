use Rattle.std.proofs.Common.{◌≡◌, ◌-◌, ◌&&◌, length}
use Rattle.std.specs.List.{filter, range_with_len}
use Rattle.cov_model.specs.believed.Rows.{is_assigned}
use Rattle.cov_model.specs.believed.Meaning.{given_value}
use Rattle.cov_model.specs.believed.Valid.{negatives}
use Rattle.cov_model.proofs.model.TestModel.slice_of.Given as goal

-- the negatives are those from here on
abbrev pub invariant-loop-p : goal.invariant-loop-p
invariant-loop-p l =
    (l.count ≡ length l.self.params)
    × (negatives l.self l.cells ≡ filter (λ p. is_assigned l.cells p && (given_value l.self l.cells p).negative) (range_with_len l.p (l.count - l.p)))
