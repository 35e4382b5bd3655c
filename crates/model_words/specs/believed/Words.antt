-- Numbers, parameters, values and combinations in the words of a model. (This project's rule.)
use Rattle.std.specs.Prelude.{ℕ, ◌==◌, Bool, true, false, List, [], ◌∷◌, ◌++◌, codes, decimal, slice_index_or, if◌then◌else◌}
use Rattle.cov_model.specs.declared.parameter.Value.{Value}
use Rattle.cov_model.specs.believed.Meaning.{value_at}
use Rattle.cov_model.specs.believed.Sound.{ModelView, param_at}
use Rattle.definitions.specs.believed.Report.{printed}

-- a number with what it counts
abbrev pub counted : ℕ → List ℕ → List ℕ → List ℕ
counted n one many = decimal n ++ 32 ∷ (if n == 1 then one else many)

abbrev pub tests : ℕ → List ℕ
tests n = counted n (codes "test") (codes "tests")

abbrev pub combinations : ℕ → List ℕ
combinations n = counted n (codes "combination") (codes "combinations")

-- items in words, with a comma behind all but the last
abbrev pub listed_from : {X : Type 0} → (X → List ℕ) → Bool → List X → List ℕ
listed_from words is_first [] = []
listed_from words is_first (item ∷ items) = (if is_first then [] else codes ", ") ++ (words item ++ listed_from words false items)

abbrev pub listed : {X : Type 0} → (X → List ℕ) → List X → List ℕ
listed words items = listed_from words true items

-- a parameter by its name, and a value by its first name, with the mark of an invalid value
abbrev pub param_words : ModelView → ℕ → List ℕ
param_words m p = (param_at m.params p).name

abbrev pub first_printed : ModelView → Value → List ℕ
first_printed m value = printed m value (slice_index_or value.names 0 [])

abbrev pub pair_words : ModelView → ℕ × ℕ → List ℕ
pair_words m pair = param_words m pair.0 ++ (codes " = " ++ first_printed m (value_at m pair.0 pair.1))
