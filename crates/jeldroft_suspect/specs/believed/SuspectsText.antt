-- The text of combinations of values that only failing tests have, a line for each. (This project's rule.)
use Rattle.std.specs.Prelude.{ℕ, ◌==◌, List, [], ◌∷◌, ◌++◌, flat_map, length, codes, decimal, slice_index_or, if◌then◌else◌}
use Rattle.std.specs.List.{range_with_len}
use Rattle.cov_model.specs.believed.Meaning.{value_at}
use Rattle.cov_model.specs.believed.Preference.{by_falling_weight}
use Rattle.cov_model.specs.believed.Sound.{ModelView, first_name, param_at}
use Rattle.cov_model.specs.declared.parameter.Value.{Value}
use Rattle.definitions.specs.believed.Report.{printed}

-- the first name of a value, as it is printed
abbrev pub value_text : ModelView → Value → List ℕ
value_text m value = printed m value (first_name value)

-- `Browser = IE`
abbrev pub pair_text : ModelView → ℕ × ℕ → List ℕ
pair_text m pair = (param_at m.params pair.0).name ++ codes " = " ++ value_text m (value_at m pair.0 pair.1)

-- `Browser = IE, OS = Linux`
abbrev pub others_text : ModelView → List (ℕ × ℕ) → List ℕ
others_text m pairs = flat_map (λ pair. codes ", " ++ pair_text m pair) pairs

abbrev pub combination_text : ModelView → List (ℕ × ℕ) → List ℕ
combination_text m [] = []
combination_text m (pair ∷ pairs) = pair_text m pair ++ others_text m pairs

-- `1 failing test: `, `3 failing tests: `
abbrev pub count_text : ℕ → List ℕ
count_text n = decimal n ++ (if n == 1 then codes " failing test: " else codes " failing tests: ")

-- the line of a combination that so many failing tests have
abbrev pub line_text : ModelView → List (ℕ × ℕ) × ℕ → List ℕ
line_text m found = count_text found.1 ++ combination_text m found.0 ++ codes "\n"

-- the combination at a place
abbrev pub found_at : List (List (ℕ × ℕ) × ℕ) → ℕ → List (ℕ × ℕ) × ℕ
found_at found at = slice_index_or found at ([], 0)

-- the places of combinations by falling number of failing tests, those of one number as they were
abbrev pub falling_places : List (List (ℕ × ℕ) × ℕ) → List ℕ
falling_places found = by_falling_weight (λ at. (found_at found at).1) (range_with_len 0 (length found))

-- the lines of combinations, in this order
abbrev pub suspects_text : ModelView → List (List (ℕ × ℕ) × ℕ) → List ℕ
suspects_text m found = flat_map (λ at. line_text m (found_at found at)) (falling_places found)
