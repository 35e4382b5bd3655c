-- A small model, and what its constraints mean, computed.
use Rattle.std.specs.Prelude.{◌≡◌, ℕ, suc, pos, Bool, true, false, List, [], ◌∷◌, map, Option, Some, None, codes, refl}
use Rattle.std.specs.Str.{chars}
use Rattle.cov_model.specs.declared.parameter.Param.{Param}
use Rattle.cov_model.specs.declared.parameter.Value.{Value}
use Rattle.cov_model.specs.declared.truth.Truth.{Truth}
use Rattle.cov_model.specs.declared.truth.Truth.TheVariants.{Yes, No, Unknown}
use Rattle.cov_model.specs.declared.constraint.Rel.TheVariants.{Eq, Ne, Gt, Ge, Lt, Le}
use Rattle.cov_model.specs.declared.constraint.Literal.{Literal}
use Rattle.cov_model.specs.declared.constraint.Literal.TheVariants.{Number, Words}
use Rattle.cov_model.specs.declared.constraint.Term as terms
use Rattle.cov_model.specs.declared.constraint.Term.TheVariants.{ValueIs, ParamIs, OneOf, Like, Negative, Positive}
use Rattle.cov_model.specs.believed.Views.{PredView, Leaf, Negated, End, More, BodyView, Plain, IfThen, IfElse, RuleView}
use Rattle.cov_model.specs.declared.row_fault.RowWhy.TheVariants as faults
use Rattle.cov_model.specs.believed.Sound.{ModelView}
use Rattle.cov_model.specs.believed.Kleene.{body_truth, all_truth, any_truth}
use Rattle.cov_model.specs.believed.Valid.{is_valid}
use Rattle.cov_model.specs.believed.RowFault.{row_fault}
use Rattle.cov_model.specs.believed.Preference.{preference}

abbrev value : List ℕ → ℕ → Bool → Value
value name weight negative = record { names = name ∷ []; weight = weight; negative = negative }

-- A: 1, 2.50, 10, ~-3
abbrev param_a : Param
param_a = record {
  name = codes "A";
  line = 1;
  numeric = true;
  values =
      value (codes "1") 1 false ∷ value (codes "2.50") 1 false ∷ value (codes "10") 1 false ∷ value (codes "-3") 1 true ∷ [];
}

-- B: red|rot, Green, ~blue
abbrev param_b : Param
param_b = record {
  name = codes "B";
  line = 2;
  numeric = false;
  values =
      record { names = codes "red" ∷ codes "rot" ∷ []; weight = 1; negative = false } ∷ value (codes "Green") 1 false ∷ value (codes "blue") 1 true ∷ [];
}

-- C: 2.5, 9
abbrev param_c : Param
param_c = record { name = codes "C"; line = 3; numeric = true; values = value (codes "2.5") 1 false ∷ value (codes "9") 1 false ∷ [] }

-- D: RED, green
abbrev param_d : Param
param_d = record { name = codes "D"; line = 4; numeric = false; values = value (codes "RED") 1 false ∷ value (codes "green") 1 false ∷ [] }

abbrev model_of : List Param → List BodyView → Bool → ModelView
model_of params bodies fold = record {
  params = params;
  rules = numbered 1 bodies;
  demand = record { order = 1; subs = []; relations = [] };
  prefix = 126;
  fold = fold;
}
  where
    numbered : ℕ → List BodyView → List RuleView
    numbered n [] = []
    numbered n (body ∷ rest) = record { number = n; line = n; body = body } ∷ numbered (suc n) rest

abbrev model : List BodyView → Bool → ModelView
model bodies fold = model_of (param_a ∷ param_b ∷ param_c ∷ param_d ∷ []) bodies fold

-- a partial row by its four places
abbrev cells : Option ℕ → Option ℕ → Option ℕ → Option ℕ → List (Option ℕ)
cells a b c d = a ∷ b ∷ c ∷ d ∷ []

abbrev a_is : ℕ → List (Option ℕ)
a_is v = cells (Some v) None None None

abbrev b_is : ℕ → List (Option ℕ)
b_is v = cells None (Some v) None None

abbrev nothing : List (Option ℕ)
nothing = cells None None None None

abbrev one : terms.Term → BodyView
one term = Plain (Leaf term)

-- 2.5 and 9 scaled by 10^9
abbrev two_and_a_half : Literal
two_and_a_half = Number (pos 2500000000)

abbrev nine : Literal
nine = Number (pos 9000000000)

-- what is known of each constraint on its cells
abbrev truths : Bool → List (BodyView × List (Option ℕ)) → List Truth
truths fold cases = map (λ (c : BodyView × List (Option ℕ)). body_truth (model [] fold) c.0 c.1) cases

-- numbers are compared as numbers: 1, 2.50, 10 and -3 with 2.5, and 10 with 9
pub numbers : truths true (
    (one (ValueIs 0 Eq two_and_a_half), a_is 0) ∷ (one (ValueIs 0 Eq two_and_a_half), a_is 1) ∷ (one (ValueIs 0 Eq two_and_a_half), nothing)
    ∷ (one (ValueIs 0 Ne two_and_a_half), a_is 0) ∷ (one (ValueIs 0 Ne two_and_a_half), a_is 1)
    ∷ (one (ValueIs 0 Gt two_and_a_half), a_is 0) ∷ (one (ValueIs 0 Gt two_and_a_half), a_is 1) ∷ (one (ValueIs 0 Gt two_and_a_half), a_is 2)
    ∷ (one (ValueIs 0 Ge two_and_a_half), a_is 0) ∷ (one (ValueIs 0 Ge two_and_a_half), a_is 1)
    ∷ (one (ValueIs 0 Lt two_and_a_half), a_is 1) ∷ (one (ValueIs 0 Lt two_and_a_half), a_is 3)
    ∷ (one (ValueIs 0 Le two_and_a_half), a_is 1) ∷ (one (ValueIs 0 Le two_and_a_half), a_is 2)
    ∷ (one (ValueIs 0 Gt nine), a_is 2) ∷ [])
    ≡ No ∷ Yes ∷ Unknown ∷ Yes ∷ No ∷ No ∷ No ∷ Yes ∷ No ∷ Yes ∷ No ∷ Yes ∷ Yes ∷ No ∷ Yes ∷ []
numbers = refl

-- texts under the case rule: only the first name counts
pub texts : truths true (
    (one (ValueIs 1 Eq (Words (codes "RED"))), b_is 0) ∷ (one (ValueIs 1 Eq (Words (codes "rot"))), b_is 0)
    ∷ (one (ValueIs 1 Eq (Words (codes "green"))), b_is 1) ∷ (one (ValueIs 1 Lt (Words (codes "green"))), b_is 0)
    ∷ (one (ValueIs 1 Gt (Words (codes "GREEN"))), b_is 0) ∷ (one (ValueIs 1 Lt (Words (codes "green"))), b_is 2)
    ∷ (one (ValueIs 1 Eq (Words (codes "red"))), a_is 0) ∷ [])
    ≡ Yes ∷ No ∷ Yes ∷ No ∷ Yes ∷ Yes ∷ Unknown ∷ []
texts = refl

-- where case counts, capitals come first
pub exact_texts : truths false (
    (one (ValueIs 1 Eq (Words (codes "RED"))), b_is 0) ∷ (one (ValueIs 1 Eq (Words (codes "red"))), b_is 0)
    ∷ (one (ValueIs 1 Lt (Words (codes "blue"))), b_is 1) ∷ (one (Like 1 (codes "R*")), b_is 0) ∷ [])
    ≡ No ∷ Yes ∷ Yes ∷ No ∷ []
unfolding chars
exact_texts = refl

-- two parameters: both have to be assigned
pub two_params : truths true (
    (one (ParamIs 0 Eq 2), cells (Some 1) None (Some 0) None) ∷ (one (ParamIs 0 Lt 2), cells (Some 0) None (Some 0) None)
    ∷ (one (ParamIs 0 Gt 2), cells (Some 2) None (Some 1) None) ∷ (one (ParamIs 0 Eq 2), a_is 1) ∷ (one (ParamIs 0 Eq 2), cells None None (Some 0) None)
    ∷ (one (ParamIs 0 Eq 0), nothing) ∷ (one (ParamIs 0 Eq 0), a_is 0) ∷ (one (ParamIs 0 Ne 0), a_is 0)
    ∷ (one (ParamIs 1 Eq 3), cells None (Some 0) None (Some 0)) ∷ (one (ParamIs 1 Ge 3), cells None (Some 1) None (Some 0)) ∷ [])
    ≡ Yes ∷ Yes ∷ Yes ∷ Unknown ∷ Unknown ∷ Unknown ∷ Yes ∷ No ∷ Yes ∷ No ∷ []
two_params = refl

pub lists_and_patterns : truths true (
    (one (OneOf 0 (nine ∷ two_and_a_half ∷ [])), a_is 1) ∷ (one (OneOf 0 (nine ∷ two_and_a_half ∷ [])), a_is 2)
    ∷ (one (OneOf 0 (nine ∷ [])), nothing) ∷ (one (OneOf 0 []), a_is 0) ∷ (one (OneOf 1 (Words (codes "rot") ∷ Words (codes "GREEN") ∷ [])), b_is 1)
    ∷ (one (Like 1 (codes "R*")), b_is 0) ∷ (one (Like 1 (codes "r?d")), b_is 0) ∷ (one (Like 1 (codes "r")), b_is 0)
    ∷ (one (Like 1 (codes "*e*n")), b_is 1) ∷ (one (Like 1 (codes "r*")), nothing) ∷ [])
    ≡ Yes ∷ No ∷ Unknown ∷ No ∷ Yes ∷ Yes ∷ Yes ∷ No ∷ Yes ∷ Unknown ∷ []
unfolding chars
lists_and_patterns = refl

pub signs : truths true (
    (one (Negative 0), a_is 3) ∷ (one (Negative 0), a_is 0) ∷ (one (Negative 0), nothing)
    ∷ (one (Positive 0), a_is 3) ∷ (one (Positive 0), a_is 0) ∷ (one (Positive 0), nothing) ∷ [])
    ≡ Yes ∷ No ∷ Unknown ∷ No ∷ Yes ∷ Unknown ∷ []
signs = refl

-- with A at its negative value and nothing else assigned these are known to hold, known not to, and unknown
abbrev holds : PredView
holds = Leaf (Negative 0)

abbrev fails : PredView
fails = Leaf (Positive 0)

abbrev open_term : PredView
open_term = Leaf (Negative 1)

abbrev predicates : List BodyView → List Truth
predicates bodies = map (λ body. body_truth (model [] true) body (a_is 3)) bodies

pub nots : predicates (Plain (Negated holds) ∷ Plain (Negated fails) ∷ Plain (Negated open_term) ∷ []) ≡ No ∷ Yes ∷ Unknown ∷ []
nots = refl

-- parts with the values of each kind; what is known of them, as parts of All and of Any
pub alls : map (λ parts. all_truth (model [] true) parts (a_is 3)) (
    End ∷ More holds (More holds End) ∷ More holds (More open_term End) ∷ More open_term (More fails End) ∷ More fails (More open_term End) ∷ [])
    ≡ Yes ∷ Yes ∷ Unknown ∷ No ∷ No ∷ []
alls = refl

pub anys : map (λ parts. any_truth (model [] true) parts (a_is 3)) (
    End ∷ More fails (More fails End) ∷ More fails (More open_term End) ∷ More open_term (More holds End) ∷ More holds (More open_term End) ∷ [])
    ≡ No ∷ No ∷ Unknown ∷ Yes ∷ Yes ∷ []
anys = refl

pub if_then : predicates (
    IfThen fails open_term ∷ IfThen holds holds ∷ IfThen holds fails ∷ IfThen holds open_term
    ∷ IfThen open_term holds ∷ IfThen open_term fails ∷ [])
    ≡ Yes ∷ Yes ∷ No ∷ Unknown ∷ Yes ∷ Unknown ∷ []
if_then = refl

pub if_else : predicates (
    IfElse fails holds fails ∷ IfElse fails fails holds ∷ IfElse fails holds open_term ∷ IfElse holds holds fails
    ∷ IfElse holds fails holds ∷ IfElse open_term holds holds ∷ IfElse open_term fails fails ∷ IfElse open_term holds fails ∷ [])
    ≡ No ∷ Yes ∷ Unknown ∷ Yes ∷ No ∷ Yes ∷ Unknown ∷ Unknown ∷ []
if_else = refl

-- the least false constraint, before the two negative values; without either the row is valid
abbrev two_rules : ModelView
two_rules = model (one (Positive 0) ∷ one (ValueIs 2 Eq nine) ∷ one (Positive 0) ∷ []) true

abbrev no_rules : ModelView
no_rules = model [] true

pub faults_of : row_fault two_rules (cells (Some 3) (Some 0) (Some 1) (Some 0)) ≡ Some (faults.Rule 1)
faults_of = refl

pub second_fails : row_fault two_rules (cells (Some 0) (Some 2) (Some 0) (Some 0)) ≡ Some (faults.Rule 2)
second_fails = refl

pub two_negatives : row_fault no_rules (cells (Some 3) (Some 2) (Some 0) (Some 0)) ≡ Some (faults.Negatives 0 1)
two_negatives = refl

pub one_negative : row_fault two_rules (cells (Some 0) (Some 2) (Some 1) (Some 0)) ≡ None
one_negative = refl

pub one_negative_valid : is_valid two_rules (cells (Some 0) (Some 2) (Some 1) (Some 0)) ≡ true
one_negative_valid = refl

-- five values of one weight, then three of the weights 1, 5 and 1; the shuffles follow PCG's published step
abbrev weighed : ModelView
weighed = model_of (
    record {
      name = codes "A";
      line = 1;
      numeric = false;
      values =
          value (codes "a") 1 false ∷ value (codes "b") 1 false ∷ value (codes "c") 1 false ∷ value (codes "d") 1 false ∷ value (codes "e") 1 false ∷ [];
    }
    ∷ record { name = codes "B"; line = 2; numeric = false; values = value (codes "a") 1 false ∷ value (codes "b") 5 false ∷ value (codes "c") 1 false ∷ [] }
    ∷ []) [] true

pub in_place : preference weighed None ≡ (0 ∷ 1 ∷ 2 ∷ 3 ∷ 4 ∷ []) ∷ (1 ∷ 0 ∷ 2 ∷ []) ∷ []
in_place = refl

pub shuffled_by_0 : preference weighed (Some 0) ≡ (0 ∷ 3 ∷ 4 ∷ 1 ∷ 2 ∷ []) ∷ (1 ∷ 2 ∷ 0 ∷ []) ∷ []
shuffled_by_0 = refl

pub shuffled_by_7 : preference weighed (Some 7) ≡ (4 ∷ 3 ∷ 1 ∷ 2 ∷ 0 ∷ []) ∷ (1 ∷ 2 ∷ 0 ∷ []) ∷ []
shuffled_by_7 = refl

pub shuffled_by_last : preference weighed (Some 0xffffffffffffffff) ≡ (0 ∷ 3 ∷ 1 ∷ 4 ∷ 2 ∷ []) ∷ (1 ∷ 0 ∷ 2 ∷ []) ∷ []
shuffled_by_last = refl
