-- The made model of a number: sixty parameters of two to seven values each, and thirty constraints, each of which
-- forbids a pair of values. Each number in it is drawn by a word of its own. (This project's rule.)
use Rattle.std.specs.Prelude.{ℕ, ◌-◌, List, map}
use Rattle.std.specs.List.{range_with_len}
use Rattle.made_models.specs.believed.MadeModel.{value_count}

-- the numbers of values of the first parameters
unfoldable pub value_counts : ℕ → ℕ → List ℕ
value_counts n count = map (value_count n) (range_with_len 0 count)
