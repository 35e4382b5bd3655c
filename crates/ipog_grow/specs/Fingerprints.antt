-- Numbers by which rows are told apart. (This project's rule.)
use Rattle.std.specs.Prelude.{ℕ, ◌+◌, ◌*◌, ◌%◌, ◌^◌, List, Option, Some, None}
use Rattle.std.specs.List.{fold}

-- a place as a number
abbrev pub code_of : Option ℕ → ℕ
code_of None = 0
code_of (Some v) = v + 1

-- a number that equal rows have in common
abbrev pub fingerprint : List (Option ℕ) → ℕ
fingerprint row = fold (λ number place. (number * 11400714819323198485 % 2 ^ 64 + code_of place) % 2 ^ 64) 0 row
