-- What is known of a term depends on the cells of its parameters.
use Rattle.std.proofs.Common.{length-append, zero-add, ◌≡◌, ℕ, ◌+◌, ◌<◌, Bool, true, false, not, ◌&&◌, if◌then◌else◌, List, [], ◌∷◌, ◌++◌, map, length}
use Rattle.std.proofs.Common.{Option, Some, None, is_some, unwrap_or, get_or, set, ap, sym, subst, ◌∙◌, refl, arith, inl, inr}
use Rattle.std.specs.List.{list_any, list_all, range_with_len}
use Rattle.std.specs.Ordering.{is_eq}
use Rattle.std.proofs.lemmas.Bool.{cases_eq, cases_Bool}
use Rattle.std.proofs.lemmas.List.{get_or-set_other, get_or-set_same, length-set, get_or-append-add, get_or_append_left, append_assoc}
use Rattle.std.proofs.lemmas.List.FromFn.{length-map-range_with_len, get_or-map-range_with_len, map-range_with_len_more}
use Rattle.value_text.specs.believed.Like.{is_like}
use Rattle.cov_model.specs.declared.truth.Truth.TheVariants.{Unknown}
use Rattle.cov_model.specs.declared.constraint.Literal.{Literal}
use Rattle.cov_model.specs.declared.constraint.Term as terms
use Rattle.cov_model.specs.declared.constraint.Term.TheVariants.{ValueIs, ParamIs, OneOf, Like, Negative, Positive}
use Rattle.cov_model.specs.believed.Views.{Leaf}
use Rattle.cov_model.specs.believed.Sound.{ModelView, param_at, first_name}
use Rattle.cov_model.specs.Fits.{FitsModel}
use Rattle.cov_model.specs.believed.Rows.{is_assigned, value_in}
use Rattle.cov_model.specs.believed.Meaning.{value_at, operand_of, literal_order, stands_in, term_holds}
use Rattle.cov_model.specs.believed.Kleene.{known, term_params, term_truth}
use Rattle.compiled_rules.specs.declared.code.Code as codes
use Rattle.compiled_rules.specs.Codes.{is_yes, truths_over, IsCodeOf}

-- the two partial rows give the same at these parameters
abbrev pub AgreeOn : List ℕ → List (Option ℕ) → List (Option ℕ) → Type 0
AgreeOn [] a b = Unit {0}
AgreeOn (p ∷ params) a b = (get_or a p None ≡ get_or b p None) × AgreeOn params a b

local_one : (holds : Option ℕ → Bool) (x y : Option ℕ) → x ≡ y
    → (if is_some x && true then known (holds x) else Unknown) ≡ (if is_some y && true then known (holds y) else Unknown)
local_one holds x y same = ap (λ (cell : Option ℕ). if is_some cell && true then known (holds cell) else Unknown) same

local_two : (holds : Option ℕ → Option ℕ → Bool) (x y u v : Option ℕ) → x ≡ y → u ≡ v
    → (if is_some x && (is_some u && true) then known (holds x u) else Unknown) ≡ (if is_some y && (is_some v && true) then known (holds y v) else Unknown)
local_two holds x y u v same also =
    ap (λ (cell : Option ℕ). if is_some cell && (is_some u && true) then known (holds cell u) else Unknown) same
    ∙ ap (λ (cell : Option ℕ). if is_some y && (is_some cell && true) then known (holds y cell) else Unknown) also

value_of : ModelView → ℕ → Option ℕ → List ℕ
value_of m p cell = first_name (value_at m p (unwrap_or cell 0))

pub local_term : (m : ModelView) (term : terms.Term) (a b : List (Option ℕ)) → AgreeOn (term_params term) a b → term_truth m term a ≡ term_truth m term b
local_term m (ValueIs p rel literal) a b agree =
    local_one (λ cell. stands_in rel (literal_order m.fold (operand_of (param_at m.params p).numeric (first_name (value_at m p (unwrap_or cell 0)))) literal))
    _ _ agree.0
local_term m (ParamIs p rel q) a b agree =
    local_two (λ x y. stands_in rel (literal_order m.fold (operand_of (param_at m.params p).numeric (first_name (value_at m p (unwrap_or x 0))))
    (operand_of (param_at m.params q).numeric (first_name (value_at m q (unwrap_or y 0)))))) _ _ _ _ agree.0 agree.1.0
local_term m (OneOf p literals) a b agree =
    local_one (λ cell. list_any (λ (literal : Literal). is_eq (literal_order m.fold
    (operand_of (param_at m.params p).numeric (first_name (value_at m p (unwrap_or cell 0)))) literal)) literals) _ _ agree.0
local_term m (Like p pattern) a b agree = local_one (λ cell. is_like m.fold pattern (first_name (value_at m p (unwrap_or cell 0)))) _ _ agree.0
local_term m (Negative p) a b agree = local_one (λ cell. (value_at m p (unwrap_or cell 0)).negative) _ _ agree.0
local_term m (Positive p) a b agree = local_one (λ cell. not (value_at m p (unwrap_or cell 0)).negative) _ _ agree.0

-- cells with one more value that exists fit
pub FitsModel-set : (m : ModelView) (cells : List (Option ℕ)) (p v : ℕ) → FitsModel m cells → p < length m.params → v < length (param_at m.params p).values
    → FitsModel m (set cells p (Some v))
FitsModel-set m cells p v fits within exists = record {
  as_long = length-set cells p (Some v) ∙ fits.as_long;
  exist = λ q assigned.
      elim (cases_eq q p) [
        | inl same ↦
            let here : get_or (set cells p (Some v)) q None ≡ Some v = ap (λ (k : ℕ). get_or (set cells p (Some v)) k None) same
            ∙ get_or-set_same cells p (Some v) None (omega (arith, fits.as_long)) in
            subst (λ (u : ℕ). u < length (param_at m.params q).values) (sym (ap (λ (cell : Option ℕ). unwrap_or cell 0) here))
            (subst (λ (k : ℕ). v < length (param_at m.params k).values) (sym same) exists)
        | inr differs ↦
            let there : get_or (set cells p (Some v)) q None ≡ get_or cells q None = get_or-set_other cells p q (Some v) None differs in
            subst (λ (u : ℕ). u < length (param_at m.params q).values) (sym (ap (λ (cell : Option ℕ). unwrap_or cell 0) there))
            (fits.exist q (sym (ap (λ (cell : Option ℕ). is_some cell) there) ∙ assigned))
      ];
}

-- what is known of a term all of whose parameters have values is Yes or No
pub settled : (holds : Bool) (all : Bool) → all ≡ true → known (is_yes (if all then known holds else Unknown)) ≡ (if all then known holds else Unknown)
settled true true e = refl
settled false true e = refl
settled holds false e = absurd (cc)

pub assigned_by : (cells : List (Option ℕ)) (p v : ℕ) → get_or cells p None ≡ Some v → is_assigned cells p ≡ true
assigned_by cells p v e = ap (λ (cell : Option ℕ). is_some cell) e

pub value_by : (cells : List (Option ℕ)) (p v : ℕ) → get_or cells p None ≡ Some v → value_in cells p ≡ v
value_by cells p v e = ap (λ (cell : Option ℕ). unwrap_or cell 0) e

-- a cell with a value, by cases
pub record Holds (cells : List (Option ℕ)) (p : ℕ) : Type 0 where
  pub value : ℕ
  pub is : get_or cells p None ≡ Some value

holds_some : (cell : Option ℕ) → is_some cell ≡ true → (v : ℕ) × (cell ≡ Some v)
holds_some (Some v) e = (v, refl)
holds_some None e = absurd (cc)

pub holds : (cells : List (Option ℕ)) (p : ℕ) → is_assigned cells p ≡ true → Holds cells p
holds cells p e = record { value = (holds_some (get_or cells p None) e).0; is = (holds_some (get_or cells p None) e).1 }

-- a row of truths at the end of a table is read by the value
pub row_read : (m : ModelView) (term : terms.Term) (room cells : List (Option ℕ)) (q w start : ℕ) (before more : List Bool) → start ≡ length before
    → w < length (param_at m.params q).values → AgreeOn (term_params term) (set room q (Some w)) cells
    → list_all (λ p. is_assigned cells p) (term_params term) ≡ true
    → known (get_or ((before ++ truths_over m term room q) ++ more) (start + w) false) ≡ term_truth m term cells
row_read m term room cells q w start before more begin within agree all =
    let row = truths_over m term room q in
    let many : length row ≡ length (param_at m.params q).values =
    length-map-range_with_len (λ (k : ℕ). is_yes (term_truth m term (set room q (Some k)))) 0 (length (param_at m.params q).values) in
    let at : get_or ((before ++ row) ++ more) (start + w) false ≡ is_yes (term_truth m term (set room q (Some w))) =
    ap (λ (k : ℕ). get_or ((before ++ row) ++ more) (k + w) false) begin
    ∙ get_or_append_left (before ++ row) more false (length before + w) (omega (arith, many, length-append before row))
    ∙ get_or-append-add before row w false
    ∙ get_or-map-range_with_len (λ (k : ℕ). is_yes (term_truth m term (set room q (Some k)))) 0 (length (param_at m.params q).values) w w false within
    (zero-add w) in
    ap (λ (b : Bool). known b) (at ∙ ap is_yes (local_term m term (set room q (Some w)) cells agree)) ∙ settled (term_holds m term cells) _ all

-- one truth more
pub row_more : (m : ModelView) (term : terms.Term) (room : List (Option ℕ)) (q w : ℕ) (before held after : List Bool) (holds : Bool)
    → held ≡ before ++ map (λ v. is_yes (term_truth m term (set room q (Some v)))) (range_with_len 0 w) → after ≡ held ++ holds ∷ []
    → holds ≡ is_yes (term_truth m term (set room q (Some w)))
    → after ≡ before ++ map (λ v. is_yes (term_truth m term (set room q (Some v)))) (range_with_len 0 (w + 1))
row_more m term room q w before held after holds was pushed is =
    let f = λ (v : ℕ). is_yes (term_truth m term (set room q (Some v))) in
    pushed ∙ ap (λ (list : List Bool). list ++ holds ∷ []) was
    ∙ append_assoc before (map f (range_with_len 0 w)) (holds ∷ [])
    ∙ ap (λ (b : Bool). before ++ (map f (range_with_len 0 w) ++ b ∷ [])) is
    ∙ ap (λ (list : List Bool). before ++ list) (sym (map-range_with_len_more f 0 w w (zero-add w)))

pub value_fits : (m : ModelView) (cells : List (Option ℕ)) (p v : ℕ) → FitsModel m cells → get_or cells p None ≡ Some v
    → v < length (param_at m.params p).values
value_fits m cells p v fits is =
    subst (λ (k : ℕ). k < length (param_at m.params p).values) (value_by cells p v is) (fits.exist p (assigned_by cells p v is))

-- a row of truths is the code of a term of one parameter
pub one_is_code : (m : ModelView) (term : terms.Term) (room : List (Option ℕ)) (p start : ℕ) (before table : List Bool) → start ≡ length before
    → table ≡ before ++ truths_over m term room p → term_params term ≡ p ∷ [] → p < length m.params → FitsModel m room
    → IsCodeOf m table (Leaf term) (codes.OneParameter p start)
one_is_code m term room p start before table begin is named within room_fits = record {
  sound = tt;
  same = λ longer cells extends fits.
      elim (cases_Bool (is_assigned cells p)) [
        | inl assigned ↦
            let cell = holds cells p assigned in
            let here : get_or (set room p (Some cell.value)) p None ≡ get_or cells p None =
            get_or-set_same room p (Some cell.value) None (omega (arith, room_fits.as_long)) ∙ sym cell.is in
            let agree : AgreeOn (term_params term) (set room p (Some cell.value)) cells =
            subst (λ (params : List ℕ). AgreeOn params (set room p (Some cell.value)) cells) (sym named) (here, tt) in
            let all : list_all (λ p. is_assigned cells p) (term_params term) ≡ true =
            ap (λ (params : List ℕ). list_all (λ p. is_assigned cells p) params) named ∙ ap (λ (b : Bool). b && true) assigned in
            ap (λ (b : Bool). if b then known (get_or longer (start + value_in cells p) false) else Unknown) assigned
            ∙ ap (λ (v : ℕ). known (get_or longer (start + v) false)) (value_by cells p cell.value cell.is)
            ∙ ap (λ (list : List Bool). known (get_or list (start + cell.value) false)) (extends.1 ∙ ap (λ (list : List Bool). list ++ extends.0) is)
            ∙ row_read m term room cells p cell.value start before extends.0 begin (value_fits m cells p cell.value fits cell.is) agree all
        | inr none ↦
            let all : list_all (λ p. is_assigned cells p) (term_params term) ≡ false =
            ap (λ (params : List ℕ). list_all (λ p. is_assigned cells p) params) named ∙ ap (λ (b : Bool). b && true) none in
            ap (λ (b : Bool). if b then known (get_or longer (start + value_in cells p) false) else Unknown) none
            ∙ sym (ap (λ (b : Bool). if b then known (term_holds m term cells) else Unknown) all)
      ];
}
