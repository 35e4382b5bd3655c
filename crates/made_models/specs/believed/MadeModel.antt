-- The made model of a number: sixty parameters of two to seven values each, and thirty constraints, each of which
-- forbids a pair of values. Each number in it is drawn by a word of its own. (This project's rule.)
use Rattle.std.specs.Prelude.{ℕ, zero, suc, ◌+◌, ◌*◌, ◌-◌, ◌%◌, List, ◌++◌, codes, decimal}
use Rattle.std.specs.List.{flat_map, range_with_len}
use Rattle.made_models.specs.believed.Words.{made_generator, word_of}

-- the word of a number n behind so many others
abbrev pub word : ℕ → ℕ → ℕ
word n k = word_of (made_generator n) k

-- how many values a word gives a parameter
abbrev pub count_by_word : ℕ → ℕ
count_by_word w = 2 + w % 6

-- the number of values of parameter i, by word i
abbrev pub value_count : ℕ → ℕ → ℕ
value_count n i = count_by_word (word n i)

-- a value's name in its parameter's line, behind a comma unless it is the first
abbrev pub value_behind : ℕ → List ℕ
value_behind zero = codes "v0"
value_behind (suc v) = codes ", v" ++ decimal (suc v)

-- `Pi: v0, v1, ..`, of so many values
abbrev pub parameter_line : ℕ → ℕ → List ℕ
parameter_line i count = codes "P" ++ decimal i ++ codes ": " ++ flat_map value_behind (range_with_len 0 count) ++ codes "\n"

-- a pair of values of two parameters
pub record Forbidden : Type 0 where
  pub first : ℕ
  pub first_value : ℕ
  pub second : ℕ
  pub second_value : ℕ

-- the pair that four words give, where the parameters have these numbers of values: two distinct parameters, and
-- of each a value that isn't its first
abbrev pub forbidden_by : (ℕ → ℕ) → ℕ → ℕ → ℕ → ℕ → Forbidden
forbidden_by counts w x y z =
    let i = w % 60 in
    let j = (i + 1 + x % 59) % 60 in
    record { first = i; first_value = 1 + y % (counts i - 1); second = j; second_value = 1 + z % (counts j - 1) }

-- the pair that constraint k forbids, by the four words from 60 + 4 k on
abbrev pub forbidden : ℕ → ℕ → Forbidden
forbidden n k =
    let at = 60 + 4 * k in
    forbidden_by (value_count n) (word n at) (word n (at + 1)) (word n (at + 2)) (word n (at + 3))

-- `IF [Pi] = "va" THEN [Pj] <> "vb";`
abbrev pub constraint_line : Forbidden → List ℕ
constraint_line pair =
    codes "IF [P" ++ decimal pair.first ++ codes "] = \"v" ++ decimal pair.first_value ++ codes "\" THEN [P" ++ decimal pair.second
    ++ codes "] <> \"v" ++ decimal pair.second_value ++ codes "\";\n"

-- the lines of the first parameters, and those of the first constraints
unfoldable pub parameter_lines : ℕ → ℕ → List ℕ
parameter_lines n count = flat_map (λ i. parameter_line i (value_count n i)) (range_with_len 0 count)

unfoldable pub constraint_lines : ℕ → ℕ → List ℕ
constraint_lines n count = flat_map (λ k. constraint_line (forbidden n k)) (range_with_len 0 count)

-- the made model's text
abbrev pub made_text : ℕ → List ℕ
made_text n = parameter_lines n 60 ++ constraint_lines n 30
