-- Small models, written as contracts see them, on which the definitions are computed.
use Rattle.std.specs.Prelude.{ℕ, ◌*◌, ◌^◌, pos, true, false, List, [], ◌∷◌, map, length, codes}
use Rattle.std.specs.List.{enumerate_from, range_with_len}
use Rattle.cov_model.specs.believed.Views.{PredView, Leaf, BodyView}
use Rattle.cov_model.specs.declared.constraint.Rel.{Rel}
use Rattle.cov_model.specs.declared.constraint.Literal.{Literal}
use Rattle.cov_model.specs.declared.constraint.Literal.TheVariants.{Number, Words}
use Rattle.cov_model.specs.declared.constraint.Term.TheVariants.{ValueIs, ParamIs}
use Rattle.cov_model.specs.declared.parameter.Param.{Param}
use Rattle.cov_model.specs.declared.parameter.Value.{Value}
use Rattle.cov_model.specs.declared.demand.Group.{Group}
use Rattle.cov_model.specs.believed.Sound.{ModelView, is_numeric}

-- a value of one name
abbrev pub value : List ℕ → Value
value name = record { names = name ∷ []; weight = 1; negative = false }

abbrev pub negative_value : List ℕ → Value
negative_value name = record { names = name ∷ []; weight = 1; negative = true }

abbrev pub param : List ℕ → List Value → Param
param name values = record { name = name; line = 1; numeric = is_numeric values; values = values }

abbrev pub group : ℕ → List ℕ → Group
group order members = record { order = order; members = members }

-- a model without constraints
abbrev pub model : List Param → ℕ → List Group → List Group → ModelView
model params order subs relations =
    record { params = params; rules = []; demand = record { order = order; subs = subs; relations = relations }; prefix = 126; fold = true }

-- a parameter with two values
abbrev pub two : List ℕ → Param
two name = param name (value (codes "0") ∷ value (codes "1") ∷ [])

-- the model with these constraints
abbrev pub with_rules : ModelView → List BodyView → ModelView
with_rules m bodies = record m { rules = map (λ rule. record { number = rule.0; line = rule.0; body = rule.1 }) (enumerate_from 1 bodies) }

-- the whole number, as a literal, and a text
abbrev pub number : ℕ → Literal
number n = Number (pos (n * 10 ^ 9))

abbrev pub words : List ℕ → Literal
words text = Words text

-- the parameter's value stands in the relation to the literal
abbrev pub is : ℕ → Rel → Literal → PredView
is p rel literal = Leaf (ValueIs p rel literal)

-- the first parameter's value stands in the relation to the second's
abbrev pub are : ℕ → Rel → ℕ → PredView
are p rel q = Leaf (ParamIs p rel q)

-- the values of each parameter in declared order
abbrev pub declared : ModelView → List (List ℕ)
declared m = map (λ param. range_with_len 0 (length param.values)) m.params
