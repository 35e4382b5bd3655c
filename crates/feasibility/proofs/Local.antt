-- What is known of a constraint, and whether it holds, depends on the parameters that it names.
use Rattle.std.proofs.Common.{◌≡◌, ℕ, Bool, true, false, not, ◌&&◌, ◌||◌, if◌then◌else◌, ◌==◌, List, [], ◌∷◌, ◌++◌, Option, None, is_some, unwrap_or, get_or, set, ap, sym, ◌∙◌, refl, eq-eqb}
use Rattle.std.specs.List.{list_any}
use Rattle.std.specs.Ordering.{is_eq}
use Rattle.std.proofs.lemmas.Bool.{false≢true, or_parts}
use Rattle.std.proofs.lemmas.List.{get_or-set_other}
use Rattle.value_text.specs.believed.Like.{is_like}
use Rattle.cov_model.specs.declared.truth.Truth.TheVariants.{Unknown}
use Rattle.cov_model.specs.declared.constraint.Literal.{Literal}
use Rattle.cov_model.specs.declared.truth.Truth.{Truth}
use Rattle.cov_model.specs.declared.constraint.Term as terms
use Rattle.cov_model.specs.declared.constraint.Term.TheVariants.{ValueIs, ParamIs, OneOf, Like, Negative, Positive}
use Rattle.cov_model.specs.believed.Views.{PredView, PredViews, Leaf, Negated, Each, Either, End, More, BodyView, Plain, IfThen, IfElse}
use Rattle.cov_model.specs.believed.Sound.{ModelView, param_at, first_name}
use Rattle.cov_model.specs.believed.Meaning.{value_at, operand_of, literal_order, stands_in, term_holds, pred_holds, all_hold, any_holds, body_holds}
use Rattle.cov_model.specs.believed.Kleene.{known, not_of, and_of, or_of, term_params, term_truth, pred_truth, all_truth, any_truth, body_truth}
use Rattle.definitions.specs.believed.Demand.{is_among}
use Rattle.definitions.specs.believed.Search.{pred_params, parts_params, body_params}
use Rattle.definitions.proofs.PartialRowLemmas.{among_head, among_tail}

-- the two partial rows give the same at these parameters
abbrev pub AgreeOn : List ℕ → List (Option ℕ) → List (Option ℕ) → Type 0
AgreeOn [] a b = Unit {0}
AgreeOn (p ∷ params) a b = (get_or a p None ≡ get_or b p None) × AgreeOn params a b

-- where they give the same at each, or one cell is set that none of them names
pub agree_each : (params : List ℕ) (a b : List (Option ℕ)) → ((q : ℕ) → is_among params q ≡ true → get_or a q None ≡ get_or b q None) → AgreeOn params a b
agree_each [] a b same = tt
agree_each (p ∷ params) a b same = (same p (among_head p params), agree_each params a b (λ q listed. same q (among_tail p q params listed)))

pub agree_set : (params : List ℕ) (cells : List (Option ℕ)) (p : ℕ) (a : Option ℕ) → is_among params p ≡ false → AgreeOn params (set cells p a) cells
agree_set [] cells p a away = tt
agree_set (q ∷ params) cells p a away =
    let parts = or_parts (q == p) (is_among params p) away in
    (get_or-set_other cells p q a None (λ same. false≢true (sym parts.0 ∙ eq-eqb q p same)), agree_set params cells p a parts.1)

agree_left : (some others : List ℕ) (a b : List (Option ℕ)) → AgreeOn (some ++ others) a b → AgreeOn some a b
agree_left [] others a b agree = tt
agree_left (p ∷ some) others a b agree = (agree.0, agree_left some others a b agree.1)

agree_right : (some others : List ℕ) (a b : List (Option ℕ)) → AgreeOn (some ++ others) a b → AgreeOn others a b
agree_right [] others a b agree = agree
agree_right (p ∷ some) others a b agree = agree_right some others a b agree.1

-- the same is known, and the same holds
abbrev SameOf : Truth → Truth → Bool → Bool → Type 0
SameOf known_a known_b holds_a holds_b = (known_a ≡ known_b) × (holds_a ≡ holds_b)

-- a test of one cell, unknown without a value
local_one : (holds : Option ℕ → Bool) (x y : Option ℕ) → x ≡ y
    → SameOf (if is_some x && true then known (holds x) else Unknown) (if is_some y && true then known (holds y) else Unknown) (holds x) (holds y)
local_one holds x y same = (ap (λ (cell : Option ℕ). if is_some cell && true then known (holds cell) else Unknown) same, ap holds same)

-- a test of two cells
local_two : (holds : Option ℕ → Option ℕ → Bool) (x y u v : Option ℕ) → x ≡ y → u ≡ v
    → SameOf (if is_some x && (is_some u && true) then known (holds x u) else Unknown)
    (if is_some y && (is_some v && true) then known (holds y v) else Unknown) (holds x u) (holds y v)
local_two holds x y u v first second = (
  ap (λ (cell : Option ℕ). if is_some cell && (is_some u && true) then known (holds cell u) else Unknown) first
      ∙ ap (λ (cell : Option ℕ). if is_some y && (is_some cell && true) then known (holds y cell) else Unknown) second,
  ap (λ (cell : Option ℕ). holds cell u) first ∙ ap (λ (cell : Option ℕ). holds y cell) second,
)

-- what constraints compare of the value in a cell
abbrev operand_in : ModelView → ℕ → Option ℕ → Literal
operand_in m p cell = operand_of (param_at m.params p).numeric (first_name (value_at m p (unwrap_or cell 0)))

local_term : (m : ModelView) (term : terms.Term) (a b : List (Option ℕ)) → AgreeOn (term_params term) a b
    → SameOf (term_truth m term a) (term_truth m term b) (term_holds m term a) (term_holds m term b)
local_term m (ValueIs p rel literal) a b agree =
    local_one (λ cell. stands_in rel (literal_order m.fold (operand_in m p cell) literal)) (get_or a p None) (get_or b p None) agree.0
local_term m (ParamIs p rel q) a b agree =
    local_two (λ first second. stands_in rel (literal_order m.fold (operand_in m p first) (operand_in m q second)))
    (get_or a p None) (get_or b p None) (get_or a q None) (get_or b q None) agree.0 agree.1.0
local_term m (OneOf p literals) a b agree =
    local_one (λ cell. list_any (λ literal. is_eq (literal_order m.fold (operand_in m p cell) literal)) literals) (get_or a p None) (get_or b p None) agree.0
local_term m (Like p pattern) a b agree =
    local_one (λ cell. is_like m.fold pattern (first_name (value_at m p (unwrap_or cell 0)))) (get_or a p None) (get_or b p None) agree.0
local_term m (Negative p) a b agree = local_one (λ cell. (value_at m p (unwrap_or cell 0)).negative) (get_or a p None) (get_or b p None) agree.0
local_term m (Positive p) a b agree = local_one (λ cell. not (value_at m p (unwrap_or cell 0)).negative) (get_or a p None) (get_or b p None) agree.0

local_and : (s t u v : Truth) (w x y z : Bool) → SameOf s t w x → SameOf u v y z → SameOf (and_of s u) (and_of t v) (w && y) (x && z)
local_and s t u v w x y z first second =
    (ap (λ (k : Truth). and_of k u) first.0 ∙ ap (λ (k : Truth). and_of t k) second.0, ap (λ (k : Bool). k && y) first.1 ∙ ap (λ (k : Bool). x && k) second.1)

local_or : (s t u v : Truth) (w x y z : Bool) → SameOf s t w x → SameOf u v y z → SameOf (or_of s u) (or_of t v) (w || y) (x || z)
local_or s t u v w x y z first second =
    (ap (λ (k : Truth). or_of k u) first.0 ∙ ap (λ (k : Truth). or_of t k) second.0, ap (λ (k : Bool). k || y) first.1 ∙ ap (λ (k : Bool). x || k) second.1)

local_not : (s t : Truth) (w x : Bool) → SameOf s t w x → SameOf (not_of s) (not_of t) (not w) (not x)
local_not s t w x same = (ap not_of same.0, ap not same.1)

mutual
  local_pred : (m : ModelView) (pred : PredView) (a b : List (Option ℕ)) → AgreeOn (pred_params pred) a b
      → SameOf (pred_truth m pred a) (pred_truth m pred b) (pred_holds m pred a) (pred_holds m pred b)
  local_pred m (Leaf term) a b agree = local_term m term a b agree
  local_pred m (Negated inner) a b agree =
      local_not (pred_truth m inner a) (pred_truth m inner b) (pred_holds m inner a) (pred_holds m inner b) (local_pred m inner a b agree)
  local_pred m (Each parts) a b agree = local_all m parts a b agree
  local_pred m (Either parts) a b agree = local_any m parts a b agree

  local_all : (m : ModelView) (parts : PredViews) (a b : List (Option ℕ)) → AgreeOn (parts_params parts) a b
      → SameOf (all_truth m parts a) (all_truth m parts b) (all_hold m parts a) (all_hold m parts b)
  local_all m End a b agree = (refl, refl)
  local_all m (More part rest) a b agree =
      local_and (pred_truth m part a) (pred_truth m part b) (all_truth m rest a) (all_truth m rest b)
      (pred_holds m part a) (pred_holds m part b) (all_hold m rest a) (all_hold m rest b)
      (local_pred m part a b (agree_left (pred_params part) (parts_params rest) a b agree))
      (local_all m rest a b (agree_right (pred_params part) (parts_params rest) a b agree))

  local_any : (m : ModelView) (parts : PredViews) (a b : List (Option ℕ)) → AgreeOn (parts_params parts) a b
      → SameOf (any_truth m parts a) (any_truth m parts b) (any_holds m parts a) (any_holds m parts b)
  local_any m End a b agree = (refl, refl)
  local_any m (More part rest) a b agree =
      local_or (pred_truth m part a) (pred_truth m part b) (any_truth m rest a) (any_truth m rest b)
      (pred_holds m part a) (pred_holds m part b) (any_holds m rest a) (any_holds m rest b)
      (local_pred m part a b (agree_left (pred_params part) (parts_params rest) a b agree))
      (local_any m rest a b (agree_right (pred_params part) (parts_params rest) a b agree))

-- where a premise and a consequence are alike, so is the implication
local_if : (s t u v : Truth) (w x y z : Bool) → SameOf s t w x → SameOf u v y z → SameOf (or_of (not_of s) u) (or_of (not_of t) v) (not w || y) (not x || z)
local_if s t u v w x y z premise then_part = local_or (not_of s) (not_of t) u v (not w) (not x) y z (local_not s t w x premise) then_part

pub local_body : (m : ModelView) (body : BodyView) (a b : List (Option ℕ)) → AgreeOn (body_params body) a b
    → SameOf (body_truth m body a) (body_truth m body b) (body_holds m body a) (body_holds m body b)
local_body m (Plain pred) a b agree = local_pred m pred a b agree
local_body m (IfThen premise pred) a b agree =
    local_if (pred_truth m premise a) (pred_truth m premise b) (pred_truth m pred a) (pred_truth m pred b)
    (pred_holds m premise a) (pred_holds m premise b) (pred_holds m pred a) (pred_holds m pred b)
    (local_pred m premise a b (agree_left (pred_params premise) (pred_params pred) a b agree))
    (local_pred m pred a b (agree_right (pred_params premise) (pred_params pred) a b agree))
local_body m (IfElse premise pred other) a b agree =
    let both = agree_left (pred_params premise ++ pred_params pred) (pred_params other) a b agree in
    let p = local_pred m premise a b (agree_left (pred_params premise) (pred_params pred) a b both) in
    let q = local_pred m pred a b (agree_right (pred_params premise) (pred_params pred) a b both) in
    let r = local_pred m other a b (agree_right (pred_params premise ++ pred_params pred) (pred_params other) a b agree) in
    local_and (or_of (not_of (pred_truth m premise a)) (pred_truth m pred a)) (or_of (not_of (pred_truth m premise b)) (pred_truth m pred b))
    (or_of (pred_truth m premise a) (pred_truth m other a)) (or_of (pred_truth m premise b) (pred_truth m other b))
    (not (pred_holds m premise a) || pred_holds m pred a) (not (pred_holds m premise b) || pred_holds m pred b)
    (pred_holds m premise a || pred_holds m other a) (pred_holds m premise b || pred_holds m other b)
    (local_if (pred_truth m premise a) (pred_truth m premise b) (pred_truth m pred a) (pred_truth m pred b)
    (pred_holds m premise a) (pred_holds m premise b) (pred_holds m pred a) (pred_holds m pred b) p q)
    (local_or (pred_truth m premise a) (pred_truth m premise b) (pred_truth m other a) (pred_truth m other b)
    (pred_holds m premise a) (pred_holds m premise b) (pred_holds m other a) (pred_holds m other b) p r)
