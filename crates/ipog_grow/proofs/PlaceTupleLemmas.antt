-- The tuple of a place is put into cells.
use Rattle.std.proofs.Common.{◌≡◌, ℕ, zero, suc, ◌+◌, ◌<◌, ◌≤◌, Bool, true, cond, List, [], ◌∷◌, length, drop, get_or, nat_eq, Option, Some, None}
use Rattle.std.proofs.Common.{set as list_set, replicate, take, refl, ◌∙◌, sym, ap, subst, arith, inl, inr, add-one, drop-cons}
use Rattle.std.specs.List.{list_any}
use Rattle.std.proofs.lemmas.Bool.{cases_eq, eq-eqb, ne_eqb}
use Rattle.std.proofs.lemmas.List.{get_or-set_other, get_or-set_same}
use Rattle.cov_model.specs.believed.Sound.{ModelView}
use Rattle.cov_model.specs.declared.slice.Slice.{Slice}
use Rattle.tuple_index.specs.Kept.{IsKept}
use Rattle.tuple_index.specs.Places.{RisesFrom}
use Rattle.tuple_index.specs.Plan.{PlanView, plan_of, value_given}
use Rattle.uncovered_table.specs.Open.{OpenView, IsPlaceOf}
use Rattle.uncovered_table.specs.Places.{is_place, slice_places}
use Rattle.uncovered_table.proofs.PlaceLemmas.{place_known, set_known}
use Rattle.full_search.specs.Questions.{QuestionsView}
use Rattle.ipog_grow.specs.Asking.{IsTableOf, IsSoundContext}

pub given-at : (set values : List ℕ) (p i : ℕ) → i < length set → length values ≡ length set
    → value_given (drop i set) (drop i values) p ≡ cond (nat_eq (get_or set i 0) p) (Some (get_or values i 0))
    (value_given (drop (i + 1) set) (drop (i + 1) values) p)
given-at set values p i within long =
    ap (λ list. value_given list (drop i values) p) (drop-cons set i 0 within ∙ ap (λ k. get_or set i 0 ∷ drop k set) (sym (add-one i)))
    ∙ ap (λ list. value_given (get_or set i 0 ∷ drop (i + 1) set) list p) (drop-cons values i 0 (omega (arith, long))
    ∙ ap (λ k. get_or values i 0 ∷ drop k values) (sym (add-one i)))

-- of cells without a value some have none either
pub none_taken : (n k q : ℕ) → get_or {A = Option ℕ} (take k (replicate n None)) q None ≡ None
none_taken n zero q = refl
none_taken zero (suc k) q = refl
none_taken (suc n) (suc k) zero = refl
none_taken (suc n) (suc k) (suc q) = none_taken n k q

-- one member before the others gets its value
pub given-more : (set values : List ℕ) (i : ℕ) (cells : List (Option ℕ)) → i < length set → length values ≡ length set → get_or set i 0 < length cells
    → ((q : ℕ) → get_or cells q None ≡ value_given (drop (i + 1) set) (drop (i + 1) values) q)
    → (q : ℕ) → get_or (list_set cells (get_or set i 0) (Some (get_or values i 0))) q None ≡ value_given (drop i set) (drop i values) q
given-more set values i cells within long inside each q =
    elim (cases_eq q (get_or set i 0)) [
      | inl same ↦
          ap (λ (k : ℕ). get_or (list_set cells (get_or set i 0) (Some (get_or values i 0))) k None) same
          ∙ get_or-set_same cells (get_or set i 0) (Some (get_or values i 0)) None inside
          ∙ sym (given-at set values q i within long
          ∙ ap (λ (b : Bool). cond b (Some (get_or values i 0)) (value_given (drop (i + 1) set) (drop (i + 1) values) q))
          (eq-eqb (get_or set i 0) q (sym same)))
      | inr differs ↦
          get_or-set_other cells (get_or set i 0) q (Some (get_or values i 0)) None differs ∙ each q
          ∙ sym (given-at set values q i within long
          ∙ ap (λ (b : Bool). cond b (Some (get_or values i 0)) (value_given (drop (i + 1) set) (drop (i + 1) values) q))
          (ne_eqb (get_or set i 0) q (λ same. differs (sym same))))
    ]

-- what is known of a place of the table
pub record Placed (m : ModelView) (plan : PlanView) (place : ℕ × ℕ) : Type 0 where
  pub known : place.0 < length plan.sets
  pub below : place.1 < get_or plan.sizes place.0 0
  pub few : length (get_or plan.sets place.0 []) ≤ 256
  pub rise : RisesFrom 0 (length m.params) (get_or plan.sets place.0 [])

pub placed : {context : QuestionsView} {plan : PlanView} {place : ℕ × ℕ} (table : OpenView) → IsSoundContext context → IsTableOf context table
    → plan ≡ plan_of context.model → IsKept plan → IsPlaceOf table place → Placed context.model plan place
placed {context} {plan} {place} table is of planned kept own =
    let listed : list_any (is_place place) (slice_places context.model context.slice) ≡ true =
    subst (λ (m : ModelView). list_any (is_place place) (slice_places m context.slice) ≡ true) of.0
    (subst (λ (s : Slice). list_any (is_place place) (slice_places table.model s) ≡ true) of.1 own) in
    let found = place_known context.model context.slice plan place.0 place.1 planned kept is.slice listed in
    let members = set_known context.model plan place.0 planned kept found.exists in
    record {
      known = found.known;
      below = found.below;
      few = omega (arith, ap length members.same, members.few, is.sound.few);
      rise = subst (RisesFrom 0 (length context.model.params)) (sym members.same) members.rising;
    }
