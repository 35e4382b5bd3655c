-- How the names of a model are gathered parameter by parameter.
use Rattle.std.proofs.Common.{◌≡◌, ℕ, ◌+◌, ◌<◌, Bool, List, [], ◌∷◌, ◌++◌, length, get_or, position, inl, inr, sym, ◌∙◌, ap, ap₂, arith}
use Rattle.std.proofs.lemmas.Bool.{cases_eq}
use Rattle.std.proofs.lemmas.List.{get_or_append_left, get_or_default, get_or_push, length_push}
use Rattle.cov_model.specs.declared.parameter.Param.{Param}
use Rattle.cov_model.specs.believed.Sound.{ModelView, no_param}
use Rattle.value_text.specs.believed.Texts.{folded}
use Rattle.definitions.specs.believed.RowFile.{named_value}
use Rattle.row_text.specs.Lookups.{AreNamesOf, is_value_named, number_of}

-- the names of the values of the first parameters
pub record ValuesSoFar (m : ModelView) (params : List Param) (k : ℕ) (texts : List (List (List ℕ × ℕ))) : Type 0 where
  pub many : length texts ≡ k
  pub each : (p : ℕ) (key : List ℕ) → p < k → number_of (get_or texts p []) key ≡ position (is_value_named m key) (get_or params p no_param).values

pub values_begin : (m : ModelView) (params : List Param) → ValuesSoFar m params 0 []
values_begin m params = record { many = omega arith; each = λ p key within. absurd (omega arith) }

pub values_go_on : (m : ModelView) (params : List Param) (k : ℕ) (texts more : List (List (List ℕ × ℕ))) (own : List (List ℕ × ℕ)) (param : Param)
    → ValuesSoFar m params k texts → k < length params → param ≡ get_or params k param
    → ((key : List ℕ) → number_of own key ≡ position (is_value_named m key) param.values) → more ≡ texts ++ own ∷ [] → ValuesSoFar m params (k + 1) more
values_go_on m params k texts more own param so_far within is_param named pushed = record {
  many = ap length pushed ∙ length_push texts own ∙ ap (λ n. n + 1) so_far.many;
  each = λ p key few.
      elim (cases_eq p k) [
        | inl same ↦
            let put : get_or more p [] ≡ own = ap (λ list. get_or list p []) pushed ∙ get_or_push texts own [] p (so_far.many ∙ sym same) in
            let is : param ≡ get_or params p no_param = is_param ∙ get_or_default params k param no_param within ∙ ap (λ n. get_or params n no_param) (sym same) in
            ap (λ list. number_of list key) put ∙ named key ∙ ap (λ q. position (is_value_named m key) q.values) is
        | inr other ↦
            let before : p < k = omega arith in
            let kept : get_or more p [] ≡ get_or texts p [] = ap (λ list. get_or list p []) pushed ∙ get_or_append_left texts (own ∷ []) [] p (omega (arith, before, so_far.many)) in
            ap (λ list. number_of list key) kept ∙ so_far.each p key before
      ];
}

pub values_end : (m : ModelView) (params : List Param) (k : ℕ) (texts : List (List (List ℕ × ℕ))) → ValuesSoFar m params k texts → params ≡ m.params → k ≡ length params
    → ValuesSoFar m m.params (length m.params) texts
values_end m params k texts so_far same all = record {
  many = so_far.many ∙ all ∙ ap length same;
  each = λ p key within.
      so_far.each p key (omega (arith, within, all, ap length same)) ∙ ap (λ list. position (is_value_named m key) (get_or list p no_param).values) same;
}

-- a text under the case rule has the number of the value that it names
pub value_named : (m view : ModelView) (params : List (List ℕ × ℕ)) (values : List (List (List ℕ × ℕ))) (p : ℕ) (cell : List ℕ) (texts : List (List ℕ × ℕ)) (fold : Bool)
    → AreNamesOf m params values → m ≡ view → p < length view.params → texts ≡ get_or values p texts → fold ≡ m.fold → number_of texts (folded fold cell) ≡ named_value view p cell
value_named m view params values p cell texts fold names same within is folds =
    let inside : p < length m.params = omega (arith, within, ap (λ v. length v.params) same) in
    let own : texts ≡ get_or values p [] = is ∙ get_or_default values p texts [] (omega (arith, inside, names.as_many)) in
    ap₂ (λ pairs f. number_of pairs (folded f cell)) own folds ∙ names.value_names p (folded m.fold cell) inside ∙ ap (λ v. named_value v p cell) same
