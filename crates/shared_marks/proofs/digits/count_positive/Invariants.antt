use Rattle.std.proofs.Common.{◌≡◌, ◌≤◌, length, get_or, not}
use Rattle.std.specs.List.{filter, range_with_len}
use Rattle.cov_model.specs.believed.Meaning.{no_value}
use Rattle.shared_marks.proofs.digits.count_positive.Given as goal

abbrev pub invariant-loop-w : goal.invariant-loop-w
invariant-loop-w l =
    (l.count ≡ length (filter (λ w. not (get_or l.values w no_value).negative) (range_with_len 0 l.w))) × (l.count ≤ l.w)
