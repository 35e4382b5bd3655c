-- The values of a parameter by their signs. (PICT's guide.)
use Rattle.std.specs.Prelude.{ℕ, Bool, not, List, length, slice_index_or, if◌then◌else◌}
use Rattle.std.specs.List.{filter, range_with_len}
use Rattle.cov_model.specs.declared.parameter.Value.{Value}
use Rattle.cov_model.specs.believed.Meaning.{no_value}

-- whether a value has the sign
abbrev pub has_sign : Bool → List Value → ℕ → Bool
has_sign negative values v =
    if negative then (slice_index_or values v no_value).negative else not (slice_index_or values v no_value).negative

-- the numbers of the values with the sign
abbrev pub values_of_sign : Bool → List Value → List ℕ
values_of_sign negative values = filter (has_sign negative values) (range_with_len 0 (length values))
