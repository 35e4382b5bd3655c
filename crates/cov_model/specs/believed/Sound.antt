-- The model that contracts see, and when it is sound.
use Rattle.std.specs.Prelude.{◌≡◌, ◌≢◌, ℕ, ◌+◌, ◌-◌, ◌<◌, ◌≤◌, Bool, true, false, List, [], length, slice_index, slice_index_or, All, AllPairs, ◌==◌}
use Rattle.std.specs.List.{list_all, list_any, flat_map}
use Rattle.value_text.specs.believed.Texts.{is_same_text}
use Rattle.value_text.specs.believed.Numbers.{is_number}
use Rattle.cov_model.specs.declared.parameter.Param.{Param}
use Rattle.cov_model.specs.declared.parameter.Value.{Value}
use Rattle.cov_model.specs.declared.constraint.Literal.{Literal}
use Rattle.cov_model.specs.declared.constraint.Literal.TheVariants.{Number, Words}
use Rattle.cov_model.specs.declared.constraint.Term as terms
use Rattle.cov_model.specs.declared.constraint.Term.TheVariants.{ValueIs, ParamIs, OneOf, Like, Negative, Positive}
use Rattle.cov_model.specs.declared.demand.Demand.{Demand}
use Rattle.cov_model.specs.declared.demand.Group.{Group}
use Rattle.cov_model.specs.believed.Views.{PredView, PredViews, Leaf, Negated, Each, Either, End, More, BodyView, Plain, IfThen, IfElse, RuleView}
use Rattle.cov_model.specs.believed.Names.{is_name, is_mark}

-- a test model: its parameters, its constraints, what is demanded, the mark before negative values,
-- and whether texts are folded
pub record ModelView : Type 0 where
  pub params : List Param
  pub rules : List RuleView
  pub demand : Demand
  pub prefix : ℕ
  pub fold : Bool

-- the first name of a value, which decides its type and is what constraints see
abbrev pub first_name : Value → List ℕ
first_name value = slice_index_or value.names 0 []

-- a parameter is numeric if the first name of each of its values is a number
abbrev pub is_numeric : List Value → Bool
is_numeric values = list_all (λ value. is_number (first_name value)) values

-- a value has 1 to 64 names, none of which begins with the mark before negative values
pub record IsSoundValue (prefix : ℕ) (value : Value) : Type 0 where
  pub some : 0 < length value.names
  pub few : length value.names ≤ 64
  pub named : All (λ name. is_name name ≡ true) value.names
  pub unmarked : All (λ name. slice_index name 0 ≢ prefix) value.names

-- a parameter has a name without a colon, and 1 to 4,095 values, whose names are distinct
pub record IsSoundParam (prefix : ℕ) (fold : Bool) (param : Param) : Type 0 where
  pub named : is_name param.name ≡ true
  pub no_colon : list_any (λ byte. byte == 58) param.name ≡ false
  pub some : 0 < length param.values
  pub few : length param.values ≤ 4095
  pub values : All (IsSoundValue prefix) param.values
  pub distinct : AllPairs (λ a b. is_same_text fold a b ≡ false) (flat_map (λ value. value.names) param.values)
  pub numeric : param.numeric ≡ is_numeric param.values

abbrev pub no_param : Param
no_param = record { name = []; line = 0; numeric = false; values = [] }

-- the parameter of a number
abbrev pub param_at : List Param → ℕ → Param
param_at params p = slice_index_or params p no_param

-- the literal is of the parameter's type
abbrev pub IsLiteralOf : Param → Literal → Type 0
IsLiteralOf param (Number n) = param.numeric ≡ true
IsLiteralOf param (Words text) = param.numeric ≡ false

-- a term names parameters that exist, and compares like with like
abbrev pub IsSoundTerm : List Param → terms.Term → Type 0
IsSoundTerm params (ValueIs p rel literal) = (p < length params) × IsLiteralOf (param_at params p) literal
IsSoundTerm params (ParamIs p rel q) = (p < length params) × (q < length params) × ((param_at params p).numeric ≡ (param_at params q).numeric)
IsSoundTerm params (OneOf p literals) = (p < length params) × All (IsLiteralOf (param_at params p)) literals
IsSoundTerm params (Like p pattern) = (p < length params) × ((param_at params p).numeric ≡ false)
IsSoundTerm params (Negative p) = p < length params
IsSoundTerm params (Positive p) = p < length params

-- so does each term of a predicate
abbrev mutual
  pub IsSoundPred : List Param → PredView → Type 0
  IsSoundPred params (Leaf term) = IsSoundTerm params term
  IsSoundPred params (Negated inner) = IsSoundPred params inner
  IsSoundPred params (Each parts) = AreSoundPreds params parts
  IsSoundPred params (Either parts) = AreSoundPreds params parts

  pub AreSoundPreds : List Param → PredViews → Type 0
  AreSoundPreds params End = Unit {0}
  AreSoundPreds params (More part rest) = IsSoundPred params part × AreSoundPreds params rest

-- and each of a constraint
abbrev pub IsSoundBody : List Param → BodyView → Type 0
IsSoundBody params (Plain pred) = IsSoundPred params pred
IsSoundBody params (IfThen premise pred) = IsSoundPred params premise × IsSoundPred params pred
IsSoundBody params (IfElse premise pred other) = IsSoundPred params premise × IsSoundPred params pred × IsSoundPred params other

-- a group lists distinct parameters that exist, and its order is from 1 to their number
pub record IsSoundGroup (count : ℕ) (group : Group) : Type 0 where
  pub some : 0 < length group.members
  pub exist : All (λ p. p < count) group.members
  pub distinct : AllPairs (λ p q. p ≢ q) group.members
  pub least : 1 ≤ group.order
  pub most : group.order ≤ length group.members

-- the order is from 1 to the number of parameters, and each group is sound
pub record IsSoundDemand (count : ℕ) (demand : Demand) : Type 0 where
  pub least : 1 ≤ demand.order
  pub most : demand.order ≤ count
  pub subs : All (IsSoundGroup count) demand.subs
  pub relations : All (IsSoundGroup count) demand.relations

-- 1 to 256 parameters with distinct names, at most 4,096 constraints numbered from 1, and a sound demand
pub record IsSound (m : ModelView) : Type 0 where
  pub some : 0 < length m.params
  pub few : length m.params ≤ 256
  pub params : All (IsSoundParam m.prefix m.fold) m.params
  pub distinct : AllPairs (λ a b. is_same_text m.fold a.name b.name ≡ false) m.params
  pub prefix : is_mark m.prefix ≡ true
  pub few_rules : length m.rules ≤ 4096
  pub numbered : (i : ℕ) (d : RuleView) → i < length m.rules → (slice_index_or m.rules i d).number ≡ i + 1
  pub rules : All (λ rule. IsSoundBody m.params rule.body) m.rules
  pub demand : IsSoundDemand (length m.params) m.demand
