-- The small models on which growth, search and proofs are computed.
use Rattle.std.specs.Prelude.{ℕ, ◌-◌, List, [], ◌∷◌, map, Option, Some, None, ◌==◌, codes, if◌then◌else◌}
use Rattle.std.specs.List.{slice_split}
use Rattle.cov_model.specs.believed.Views.{Plain, IfThen}
use Rattle.cov_model.specs.declared.constraint.Rel.TheVariants.{Eq, Ne, Gt, Lt}
use Rattle.cov_model.specs.declared.parameter.Param.{Param}
use Rattle.cov_model.specs.believed.Sound.{ModelView}
use Rattle.definitions.proofs.Examples.{model, param, value, negative_value, with_rules, number, words, is, are}

-- a partial row written with a digit for each value and another sign where there is none
abbrev pub row : List ℕ → List (Option ℕ)
row text = map (λ byte. if byte == 95 then None else Some (byte - 48)) text

-- partial rows, parted by spaces
abbrev pub table : List ℕ → List (List (Option ℕ))
table [] = []
table (byte ∷ text) = map row (slice_split (λ b. b == 32) (byte ∷ text))

-- parameters with the values 1 and 2, x and y, u and v
abbrev pub one_or_two : List ℕ → Param
one_or_two name = param name (value (codes "1") ∷ value (codes "2") ∷ [])

abbrev pub x_or_y : Param
x_or_y = param (codes "B") (value (codes "x") ∷ value (codes "y") ∷ [])

abbrev pub u_or_v : Param
u_or_v = param (codes "C") (value (codes "u") ∷ value (codes "v") ∷ [])

-- two and three parameters without constraints
abbrev pub pair : ModelView
pair = model (one_or_two (codes "A") ∷ x_or_y ∷ []) 2 [] []

abbrev pub triple : ModelView
triple = model (one_or_two (codes "A") ∷ x_or_y ∷ u_or_v ∷ []) 2 [] []

-- where A is 1, B is x
abbrev pub bound : ModelView
bound = with_rules pair (IfThen (is 0 Eq (number 1)) (is 1 Eq (words (codes "x"))) ∷ [])

-- A is -1, which is negative, 0 or 1, and below 2; B is 0 or 1
abbrev pub signed : ModelView
signed = with_rules
    (model
    (param (codes "A") (negative_value (codes "-1") ∷ value (codes "0") ∷ value (codes "1") ∷ [])
    ∷ param (codes "B") (value (codes "0") ∷ value (codes "1") ∷ []) ∷ []) 2 [] []) (Plain (is 0 Lt (number 2)) ∷ [])

-- A has negative values alone
abbrev pub negative : ModelView
negative = model (param (codes "A") (negative_value (codes "1") ∷ negative_value (codes "2") ∷ []) ∷ x_or_y ∷ u_or_v ∷ []) 2 [] []

-- where A is 1, C is none of its values p, q and r
abbrev pub barred : ModelView
barred = with_rules
    (model (one_or_two (codes "A") ∷ x_or_y ∷ param (codes "C") (value (codes "p") ∷ value (codes "q") ∷ value (codes "r") ∷ []) ∷ []) 2 [] [])
    (IfThen (is 0 Eq (number 1)) (is 2 Ne (words (codes "p")))
    ∷ IfThen (is 0 Eq (number 1)) (is 2 Ne (words (codes "q")))
    ∷ IfThen (is 0 Eq (number 1)) (is 2 Ne (words (codes "r"))) ∷ [])

-- B has the negative value n, C the negative value m; where A is 2, C is v
abbrev pub mixed : ModelView
mixed = with_rules
    (model
    (one_or_two (codes "A") ∷ param (codes "B") (value (codes "x") ∷ negative_value (codes "n") ∷ [])
    ∷ param (codes "C") (value (codes "v") ∷ negative_value (codes "m") ∷ []) ∷ []) 2 [] [])
    (IfThen (is 0 Eq (number 2)) (is 2 Eq (words (codes "v"))) ∷ [])

-- where A is 1, B and C are equal, and where A is 1, they aren't; with these further parameters
abbrev pub twin_with : List Param → ℕ → ModelView
twin_with params order = with_rules (model (one_or_two (codes "A") ∷ one_or_two (codes "B") ∷ one_or_two (codes "C") ∷ params) order [] [])
    (IfThen (is 0 Eq (number 1)) (are 1 Eq 2) ∷ IfThen (is 0 Eq (number 1)) (are 1 Ne 2) ∷ [])

abbrev pub twin : ModelView
twin = twin_with [] 1

abbrev pub twin_and_one : ModelView
twin_and_one = twin_with (one_or_two (codes "D") ∷ []) 2

-- A is 1 or 2, and above 5
abbrev pub impossible : ModelView
impossible = with_rules (model (one_or_two (codes "A") ∷ []) 1 [] []) (Plain (is 0 Gt (number 5)) ∷ [])
