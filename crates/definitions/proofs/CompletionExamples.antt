-- Column orders, completions and extendability, computed on small models.
use Rattle.std.specs.Prelude.{◌≡◌, true, false, [], ◌∷◌, Some, None, codes, refl}
use Rattle.cov_model.specs.believed.Views.{Plain, IfThen}
use Rattle.cov_model.specs.declared.constraint.Rel.TheVariants.{Eq, Ne, Lt}
use Rattle.cov_model.specs.declared.slice.Slice.TheVariants.{Positive, Negative}
use Rattle.cov_model.specs.believed.Sound.{ModelView}
use Rattle.definitions.specs.believed.Completion.{column_order, preferred_values, completions, is_extendable, first_completion, can_be_served, meets_rules}
use Rattle.definitions.proofs.Examples.{model, two, param, value, negative_value, with_rules, number, is}

-- four parameters with 2, 1, 3 and 2 values, of which C's third and D's second are negative
abbrev sized : ModelView
sized = model
    (two (codes "A") ∷ param (codes "B") (value (codes "x") ∷ []) ∷ param (codes "C") (value (codes "p") ∷ value (codes "q") ∷ negative_value (codes "r") ∷ [])
    ∷ param (codes "D") (value (codes "u") ∷ negative_value (codes "v") ∷ []) ∷ []) 2 [] []

-- only values of the slice are counted, and equal numbers stand in declared order
sized-columns : column_order sized Positive ≡ 0 ∷ 2 ∷ 1 ∷ 3 ∷ []
sized-columns = refl

sized-negative_columns : column_order sized (Negative 2 2) ≡ 0 ∷ 1 ∷ 2 ∷ 3 ∷ []
sized-negative_columns = refl

-- in the order of the list that is handed over, without the values outside the slice
sized-values : preferred_values sized ((1 ∷ 0 ∷ []) ∷ (0 ∷ []) ∷ (2 ∷ 1 ∷ 0 ∷ []) ∷ (1 ∷ 0 ∷ []) ∷ []) Positive
    ≡ (1 ∷ 0 ∷ []) ∷ (0 ∷ []) ∷ (1 ∷ 0 ∷ []) ∷ (0 ∷ []) ∷ []
sized-values = refl

sized-negative_values : preferred_values sized ((1 ∷ 0 ∷ []) ∷ (0 ∷ []) ∷ (2 ∷ 1 ∷ 0 ∷ []) ∷ (1 ∷ 0 ∷ []) ∷ []) (Negative 2 2)
    ≡ (1 ∷ 0 ∷ []) ∷ (0 ∷ []) ∷ (2 ∷ []) ∷ (0 ∷ []) ∷ []
sized-negative_values = refl

-- a parameter with negative values alone is the last column of the positive slice, where no row stands
abbrev negative : ModelView
negative = model (param (codes "A") (negative_value (codes "1") ∷ negative_value (codes "2") ∷ []) ∷ two (codes "B") ∷ []) 1 [] []

negative-columns : column_order negative Positive ≡ 1 ∷ 0 ∷ []
negative-columns = refl

negative-positive : is_extendable negative Positive (None ∷ Some 0 ∷ []) ≡ false
negative-positive = refl

negative-negative : is_extendable negative (Negative 0 1) (None ∷ Some 0 ∷ []) ≡ true
negative-negative = refl

-- without a negative value it can't be served, with one it can, and another slice has no such row
negative-unserved : can_be_served negative (None ∷ Some 0 ∷ []) ≡ false
negative-unserved = refl

negative-served : can_be_served negative (Some 1 ∷ Some 0 ∷ []) ≡ true
negative-served = refl

negative-other : is_extendable negative (Negative 0 1) (Some 0 ∷ None ∷ []) ≡ false
negative-other = refl

-- two negative values
abbrev twice : ModelView
twice = model (param (codes "A") (value (codes "1") ∷ negative_value (codes "2") ∷ []) ∷ param (codes "B") (value (codes "1") ∷ negative_value (codes "2") ∷ []) ∷ []) 1 [] []

twice-unserved : can_be_served twice (Some 1 ∷ Some 1 ∷ []) ≡ false
twice-unserved = refl

-- the completions: the first parameter changes last, each in the order of its list
ordered : completions ((1 ∷ 0 ∷ []) ∷ (0 ∷ 1 ∷ []) ∷ (2 ∷ 0 ∷ []) ∷ []) (None ∷ Some 1 ∷ None ∷ [])
    ≡ (Some 1 ∷ Some 1 ∷ Some 2 ∷ []) ∷ (Some 1 ∷ Some 1 ∷ Some 0 ∷ []) ∷ (Some 0 ∷ Some 1 ∷ Some 2 ∷ []) ∷ (Some 0 ∷ Some 1 ∷ Some 0 ∷ []) ∷ []
ordered = refl

-- a value that isn't listed has none
unlisted : completions ((1 ∷ 0 ∷ []) ∷ (0 ∷ []) ∷ []) (None ∷ Some 1 ∷ []) ≡ []
unlisted = refl

-- where A is 0, B isn't 0; and A isn't 1
abbrev ruled : ModelView
ruled = with_rules (model (two (codes "A") ∷ two (codes "B") ∷ []) 2 [] [])
    (IfThen (is 0 Eq (number 0)) (is 1 Ne (number 0)) ∷ Plain (is 0 Lt (number 1)) ∷ [])

ruled-first : first_completion ruled ((1 ∷ 0 ∷ []) ∷ (0 ∷ 1 ∷ []) ∷ []) Positive (None ∷ None ∷ []) ≡ Some (Some 0 ∷ Some 1 ∷ [])
ruled-first = refl

ruled-none : first_completion ruled ((1 ∷ 0 ∷ []) ∷ (0 ∷ 1 ∷ []) ∷ []) Positive (None ∷ Some 0 ∷ []) ≡ None
ruled-none = refl

ruled-extendable : is_extendable ruled Positive (None ∷ Some 1 ∷ []) ≡ true
ruled-extendable = refl

ruled-unextendable : is_extendable ruled Positive (Some 1 ∷ None ∷ []) ≡ false
ruled-unextendable = refl

-- of several completions the first in preference order, and not in declared order
free-first : first_completion negative ((1 ∷ 0 ∷ []) ∷ (1 ∷ 0 ∷ []) ∷ []) (Negative 0 0) (None ∷ None ∷ []) ≡ Some (Some 0 ∷ Some 1 ∷ [])
free-first = refl

ruled-meets : meets_rules ruled (Some 0 ∷ Some 1 ∷ []) ≡ true
ruled-meets = refl
