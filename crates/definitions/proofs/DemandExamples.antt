-- Demand, slices, validity and serving, computed on small models.
use Rattle.std.specs.Prelude.{◌≡◌, ℕ, true, false, List, [], ◌∷◌, length, map, Option, Some, None, codes, pos, refl}
use Rattle.cov_model.specs.believed.Views.{Leaf, Plain}
use Rattle.cov_model.specs.declared.constraint.Rel.TheVariants.{Lt}
use Rattle.cov_model.specs.declared.constraint.Literal.TheVariants.{Number}
use Rattle.cov_model.specs.declared.constraint.Term.TheVariants.{ValueIs}
use Rattle.cov_model.specs.declared.slice.Slice.TheVariants.{Positive, Negative}
use Rattle.cov_model.specs.believed.Sound.{ModelView}
use Rattle.cov_model.specs.believed.Slices.{slices, slice_values, slice_of}
use Rattle.cov_model.specs.believed.Valid.{is_valid, serves}
use Rattle.definitions.specs.believed.Demand.{demanded_sets, demanded_tuples, choices}
use Rattle.definitions.proofs.Examples.{model, two, group, param, value, negative_value}

-- five parameters at order 2, three of them a sub-model of order 2
abbrev five : ModelView
five = model (two (codes "A") ∷ two (codes "B") ∷ two (codes "C") ∷ two (codes "D") ∷ two (codes "E") ∷ []) 2
    (group 2 (0 ∷ 1 ∷ 2 ∷ []) ∷ []) []

five-sets : demanded_sets five
    ≡ (0 ∷ 1 ∷ 3 ∷ []) ∷ (0 ∷ 1 ∷ 4 ∷ []) ∷ (0 ∷ 2 ∷ 3 ∷ []) ∷ (0 ∷ 2 ∷ 4 ∷ []) ∷ (1 ∷ 2 ∷ 3 ∷ []) ∷ (1 ∷ 2 ∷ 4 ∷ []) ∷ (3 ∷ 4 ∷ []) ∷ []
five-sets = refl

five-tuples : length (demanded_tuples five) ≡ 52
five-tuples = refl

-- four parameters at order 2, with these sub-models and relations
abbrev four : List (ℕ × List ℕ) → List (ℕ × List ℕ) → ModelView
four subs relations = model (two (codes "A") ∷ two (codes "B") ∷ two (codes "C") ∷ two (codes "D") ∷ []) 2
    (map (λ g. group g.0 g.1) subs) (map (λ g. group g.0 g.1) relations)

-- a relation of strength 3
abbrev related : ModelView
related = four [] ((3, 0 ∷ 1 ∷ 2 ∷ []) ∷ [])

related-sets : length (demanded_sets related) ≡ 7
related-sets = refl

related-tuples : length (demanded_tuples related) ≡ 32
related-tuples = refl

-- the same parameters as a sub-model of order 3 besides, and the relation twice, once backwards
abbrev joined : ModelView
joined = four ((3, 0 ∷ 1 ∷ 2 ∷ []) ∷ []) ((3, 0 ∷ 1 ∷ 2 ∷ []) ∷ (3, 2 ∷ 1 ∷ 0 ∷ []) ∷ [])

joined-choices : length (choices joined) ≡ 3
joined-choices = refl

joined-sets : demanded_sets joined ≡ (0 ∷ 1 ∷ 2 ∷ []) ∷ (0 ∷ 1 ∷ 2 ∷ 3 ∷ []) ∷ []
joined-sets = refl

joined-tuples : length (demanded_tuples joined) ≡ 24
joined-tuples = refl

-- a negative value, and a constraint that A is below 2
abbrev signed : ModelView
signed = record
    (model (param (codes "A") (negative_value (codes "-1") ∷ value (codes "0") ∷ value (codes "1") ∷ [])
    ∷ param (codes "B") (value (codes "0") ∷ value (codes "1") ∷ []) ∷ []) 2 [] [])
    { rules = record { number = 1; line = 3; body = Plain (Leaf (ValueIs 0 Lt (Number (pos 2000000000)))) } ∷ [] }

signed-slices : slices signed ≡ Positive ∷ Negative 0 0 ∷ []
signed-slices = refl

signed-tuples : demanded_tuples signed
    ≡ (Some 1 ∷ Some 0 ∷ []) ∷ (Some 1 ∷ Some 1 ∷ []) ∷ (Some 2 ∷ Some 0 ∷ []) ∷ (Some 2 ∷ Some 1 ∷ []) ∷ (Some 0 ∷ Some 0 ∷ []) ∷ (Some 0 ∷ Some 1 ∷ []) ∷ []
signed-tuples = refl

signed-valid : is_valid signed (Some 0 ∷ Some 1 ∷ []) ≡ true
signed-valid = refl

-- a parameter with negative values alone: its rows are valid, and serve no tuple without it
abbrev negative : ModelView
negative = model (param (codes "A") (negative_value (codes "1") ∷ negative_value (codes "2") ∷ [])
    ∷ param (codes "B") (value (codes "x") ∷ value (codes "y") ∷ [])
    ∷ param (codes "C") (value (codes "u") ∷ value (codes "v") ∷ []) ∷ []) 2 [] []

abbrev first_row : List (Option ℕ)
first_row = Some 0 ∷ Some 0 ∷ Some 0 ∷ []

negative-values : slice_values negative (Negative 0 1) ≡ (1 ∷ []) ∷ (0 ∷ 1 ∷ []) ∷ (0 ∷ 1 ∷ []) ∷ []
negative-values = refl

negative-slice : slice_of negative first_row ≡ Negative 0 0
negative-slice = refl

negative-valid : is_valid negative first_row ≡ true
negative-valid = refl

negative-serves : serves negative first_row (Some 0 ∷ Some 0 ∷ None ∷ []) ≡ true
negative-serves = refl

negative-unserved : serves negative first_row (None ∷ Some 0 ∷ Some 0 ∷ []) ≡ false
negative-unserved = refl
