-- Rows of truths for each value of a first parameter are the code of a term of two.
use Rattle.std.proofs.Common.{◌≡◌, ℕ, ◌+◌, ◌*◌, ◌<◌, ◌≤◌, Bool, true, false, ◌&&◌, if◌then◌else◌, List, [], ◌∷◌, ◌++◌, length}
use Rattle.std.proofs.Common.{length-append, Option, Some, None, get_or, set, ap, sym, subst, ◌∙◌, arith, inl, inr}
use Rattle.std.specs.List.{list_all}
use Rattle.std.proofs.Math.Nat.{mul-le-mul_right}
use Rattle.std.proofs.lemmas.Bool.{cases_eq, cases_Bool}
use Rattle.std.proofs.lemmas.List.{get_or-set_other, get_or-set_same, length-set, get_or-append-add, get_or_append_left, append-nil}
use Rattle.std.proofs.lemmas.List.FromFn.{length-map-range_with_len}
use Rattle.cov_model.specs.declared.truth.Truth.TheVariants.{Unknown}
use Rattle.cov_model.specs.declared.constraint.Term as terms
use Rattle.cov_model.specs.believed.Views.{Leaf}
use Rattle.cov_model.specs.believed.Sound.{ModelView, param_at}
use Rattle.cov_model.specs.Fits.{FitsModel}
use Rattle.cov_model.specs.believed.Rows.{is_assigned, value_in}
use Rattle.cov_model.specs.believed.Meaning.{term_holds}
use Rattle.cov_model.specs.believed.Kleene.{known, term_params, term_truth}
use Rattle.compiled_rules.specs.declared.code.Code as codes
use Rattle.compiled_rules.specs.Codes.{is_yes, truths_over, IsCodeOf, PairTruths}
use Rattle.compiled_rules.proofs.TermLemmas.{AgreeOn, row_read, assigned_by, value_by, holds, value_fits}

-- the cells with both values
both_set : (room cells : List (Option ℕ)) (p q v w : ℕ) → p < length room → q < length room → get_or cells p None ≡ Some v → get_or cells q None ≡ Some w
    → AgreeOn (p ∷ q ∷ []) (set (set room p (Some v)) q (Some w)) cells
both_set room cells p q v w first second at_p at_q =
    let last : get_or (set (set room p (Some v)) q (Some w)) q None ≡ Some w =
    get_or-set_same (set room p (Some v)) q (Some w) None (omega (arith, length-set room p (Some v))) in
    let other : get_or (set (set room p (Some v)) q (Some w)) p None ≡ get_or cells p None = elim (cases_eq p q) [
      | inl same ↦ ap (λ (k : ℕ). get_or (set (set room p (Some v)) q (Some w)) k None) same ∙ last ∙ sym at_q
          ∙ ap (λ (k : ℕ). get_or cells k None) (sym same)
      | inr differs ↦ get_or-set_other (set room p (Some v)) q p (Some w) None differs ∙ get_or-set_same room p (Some v) None first ∙ sym at_p
    ] in
    (other, (last ∙ sym at_q, tt))

all_two : (cells : List (Option ℕ)) (p q : ℕ) (params : List ℕ) → params ≡ p ∷ q ∷ []
    → list_all (λ k. is_assigned cells k) params ≡ (is_assigned cells p && (is_assigned cells q && true))
all_two cells p q params named = ap (λ (list : List ℕ). list_all (λ k. is_assigned cells k) list) named

-- the truths at one more value of the first
pub pairs_more : (m : ModelView) (term : terms.Term) (room : List (Option ℕ)) (p q v : ℕ) (added : List Bool) → term_params term ≡ p ∷ q ∷ []
    → FitsModel m room
    → p < length m.params → q < length m.params → PairTruths m term p q v added
    → PairTruths m term p q (v + 1) (added ++ truths_over m term (set room p (Some v)) q)
pairs_more m term room p q v added named fits first second pairs =
    let width = length (param_at m.params q).values in
    let row = truths_over m term (set room p (Some v)) q in
    let many : length row ≡ width = length-map-range_with_len (λ (k : ℕ). is_yes (term_truth m term (set (set room p (Some v)) q (Some k)))) 0 width in
    record {
      as_many = length-append added row ∙ ap (λ (k : ℕ). k + length row) pairs.as_many ∙ ap (λ (k : ℕ). v * width + k) many ∙ more v width;
      are = λ u w cells before within at_p at_q.
          elim (cases_eq u v) [
            | inl same ↦
                let agree : AgreeOn (term_params term) (set (set room p (Some v)) q (Some w)) cells =
                subst (λ (params : List ℕ). AgreeOn params (set (set room p (Some v)) q (Some w)) cells) (sym named)
                (both_set room cells p q v w (omega (arith, fits.as_long)) (omega (arith, fits.as_long)) (at_p ∙ ap (λ (k : ℕ). Some k) same) at_q) in
                let all : list_all (λ k. is_assigned cells k) (term_params term) ≡ true =
                all_two cells p q (term_params term) named ∙ ap (λ (b : Bool). b && (is_assigned cells q && true)) (assigned_by cells p u at_p)
                ∙ ap (λ (b : Bool). b && true) (assigned_by cells q w at_q) in
                ap (λ (k : ℕ). known (get_or (added ++ row) (k * width + w) false)) same
                ∙ ap (λ (list : List Bool). known (get_or list (v * width + w) false)) (sym (append-nil (added ++ row)))
                ∙ row_read m term (set room p (Some v)) cells q w (v * width) added [] (sym pairs.as_many) within agree all
            | inr differs ↦
                let lower : (u + 1) * width ≤ v * width = mul-le-mul_right width (omega (arith, differs)) in
                ap (λ (b : Bool). known b) (get_or_append_left added row false (u * width + w) (omega (arith, lower, pairs.as_many, more u width)))
                ∙ pairs.are u w cells (omega (arith, differs)) within at_p at_q
          ];
    }
  where
    more : (v width : ℕ) → v * width + width ≡ (v + 1) * width
    more v width = omega arith

-- the truths at each value of the first are the code
pub two_is_code : (m : ModelView) (term : terms.Term) (p q start width : ℕ) (before added table : List Bool) → start ≡ length before → table ≡ before ++ added
    → width ≡ length (param_at m.params q).values → term_params term ≡ p ∷ q ∷ [] → PairTruths m term p q (length (param_at m.params p).values) added
    → IsCodeOf m table (Leaf term) (codes.TwoParameters p q start width)
two_is_code m term p q start width before added table begin is wide named pairs = record {
  sound = tt;
  same = λ longer cells extends fits.
      let all = all_two cells p q (term_params term) named in
      elim (cases_Bool (is_assigned cells p)) [
        | inr none ↦
            ap (λ (b : Bool). if b && is_assigned cells q then known (get_or longer (start + value_in cells p * width + value_in cells q) false) else Unknown)
            none
            ∙ sym (ap (λ (b : Bool). if b then known (term_holds m term cells) else Unknown)
            (all ∙ ap (λ (b : Bool). b && (is_assigned cells q && true)) none))
        | inl first ↦ elim (cases_Bool (is_assigned cells q)) [
          | inr none ↦
              ap (λ (b : Bool). if b && is_assigned cells q then known (get_or longer (start + value_in cells p * width + value_in cells q) false)
              else Unknown) first
              ∙ ap (λ (b : Bool). if b then known (get_or longer (start + value_in cells p * width + value_in cells q) false) else Unknown) none
              ∙ sym (ap (λ (b : Bool). if b then known (term_holds m term cells) else Unknown)
              (all ∙ ap (λ (b : Bool). b && (is_assigned cells q && true)) first ∙ ap (λ (b : Bool). b && true) none))
          | inl second ↦
              let at_p = holds cells p first in
              let at_q = holds cells q second in
              let u = at_p.value in
              let w = at_q.value in
              let low : u < length (param_at m.params p).values = value_fits m cells p u fits at_p.is in
              let wide_at : (u + 1) * width ≤ length (param_at m.params p).values * width = mul-le-mul_right width (omega arith) in
              let inside : w < length (param_at m.params q).values = value_fits m cells q w fits at_q.is in
              let many : length added ≡ length (param_at m.params p).values * width = pairs.as_many
              ∙ ap (λ (k : ℕ). length (param_at m.params p).values * k) (sym wide) in
              let read : get_or longer (start + value_in cells p * width + value_in cells q) false ≡ get_or added (u * width + w) false =
              ap (λ (k : ℕ). get_or longer (start + k * width + value_in cells q) false) (value_by cells p u at_p.is)
              ∙ ap (λ (k : ℕ). get_or longer (start + u * width + k) false) (value_by cells q w at_q.is)
              ∙ ap (λ (list : List Bool). get_or list (start + u * width + w) false) (extends.1 ∙ ap (λ (list : List Bool). list ++ extends.0) is)
              ∙ ap (λ (k : ℕ). get_or ((before ++ added) ++ extends.0) k false) (shift start (length before) (u * width) w begin)
              ∙ get_or_append_left (before ++ added) extends.0 false (length before + (u * width + w))
              (omega (arith, many, wide_at, wide, next u width, length-append before added))
              ∙ get_or-append-add before added (u * width + w) false in
              ap (λ (b : Bool). if b && is_assigned cells q then known (get_or longer (start + value_in cells p * width + value_in cells q) false)
              else Unknown) first
              ∙ ap (λ (b : Bool). if b then known (get_or longer (start + value_in cells p * width + value_in cells q) false) else Unknown) second
              ∙ ap (λ (b : Bool). known b) read
              ∙ ap (λ (k : ℕ). known (get_or added (u * k + w) false)) wide
              ∙ pairs.are u w cells low inside at_p.is at_q.is
        ]
      ];
}
  where
    next : (v width : ℕ) → v * width + width ≡ (v + 1) * width
    next v width = omega arith

    shift : (start begin k w : ℕ) → start ≡ begin → start + k + w ≡ begin + (k + w)
    shift start begin k w same = omega arith
