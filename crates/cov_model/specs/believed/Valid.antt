-- Which rows are valid, and which tuples a row serves. (The rule on negative values is PICT's guide's;
-- that a tuple without one needs a row without one is this project's rule.)
use Rattle.std.specs.Prelude.{ℕ, Bool, ◌&&◌, List, length, Option, ◌==◌, nat_lt, nat_le}
use Rattle.std.specs.List.{list_all, filter, range_with_len}
use Rattle.cov_model.specs.believed.Sound.{ModelView, param_at}
use Rattle.cov_model.specs.believed.Rows.{contains, is_assigned, value_in}
use Rattle.cov_model.specs.believed.Meaning.{given_value, body_holds}

-- the numbers of the parameters
abbrev pub param_numbers : ModelView → List ℕ
param_numbers m = range_with_len 0 (length m.params)

-- the parameter has a value, and this value exists
abbrev pub has_value : ModelView → List (Option ℕ) → ℕ → Bool
has_value m cells p = is_assigned cells p && nat_lt (value_in cells p) (length (param_at m.params p).values)

-- a row gives each parameter a value that exists
abbrev pub is_row : ModelView → List (Option ℕ) → Bool
is_row m row = (length row == length m.params) && list_all (has_value m row) (param_numbers m)

-- the parameters to which a partial row gives a negative value
abbrev pub negatives : ModelView → List (Option ℕ) → List ℕ
negatives m cells = filter (λ p. is_assigned cells p && (given_value m cells p).negative) (param_numbers m)

-- a row is valid if every constraint holds on it and at most one of its values is negative
abbrev pub is_valid : ModelView → List (Option ℕ) → Bool
is_valid m row = is_row m row && list_all (λ rule. body_holds m rule.body row) m.rules && nat_le (length (negatives m row)) 1

-- a row serves a tuple if it is valid, contains the tuple, and each of its negative values is in the tuple
abbrev pub serves : ModelView → List (Option ℕ) → List (Option ℕ) → Bool
serves m row tuple = is_valid m row && contains row tuple && list_all (is_assigned tuple) (negatives m row)
