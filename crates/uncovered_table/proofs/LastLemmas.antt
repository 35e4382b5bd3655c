-- The last column of each set.
use Rattle.std.proofs.Common.{inl, inr, ◌≡◌, ℕ, zero, suc, ◌+◌, ◌≤◌, Bool, true, false, ◌||◌, List, [], ◌∷◌, Some, length, get_or, sum_by, ◌∙◌, refl, sym, subst, ap, arith, zero-add}
use Rattle.std.specs.Prelude.{◌==◌, nat_le, if◌then◌else◌}
use Rattle.std.specs.List.{filter, list_any, range_with_len}
use Rattle.std.proofs.lemmas.Bool.{cases_eq, eq-eqb}
use Rattle.std.proofs.lemmas.List.Sums.{sum_by-cons}
use Rattle.cov_model.specs.declared.slice.Slice.{Slice}
use Rattle.cov_model.specs.believed.Sound.{ModelView}
use Rattle.cov_model.specs.believed.Slices.{slice_values}
use Rattle.cov_model.specs.believed.Valid.{param_numbers}
use Rattle.definitions.specs.believed.Demand.{is_among}
use Rattle.definitions.specs.believed.Completion.{count_in}
use Rattle.definitions.specs.SliceRows.{IsSliceOf}
use Rattle.tuple_index.specs.Plan.{plan_of}
use Rattle.tuple_index.specs.Places.{RisesFrom, values_in}
use Rattle.tuple_index.proofs.ListingLemmas.{apart_test, not_among_before}
use Rattle.uncovered_table.specs.Kept.{last_column}
use Rattle.uncovered_table.specs.Lasts.{lowest}
use Rattle.uncovered_table.proofs.ColumnLemmas.{filter_yes, filter_no, last_passing}
use Rattle.uncovered_table.proofs.SliceLemmas.{slice_values_at}

-- the numbers of a range that are members of a rising set are the set
members_of : (f : ℕ → Bool) (n p : ℕ) (set : List ℕ) → RisesFrom p (p + n) set → ((q : ℕ) → p ≤ q → f q ≡ is_among set q) → filter f (range_with_len p n) ≡ set
members_of f zero p [] rises same = refl
members_of f zero p (q ∷ set) rises same = absurd (omega (arith, rises.0, rises.1))
members_of f (suc n) p [] rises same =
    filter_no f p (range_with_len (p + 1) n) (same p (omega arith)) ∙ members_of f n (p + 1) [] tt (λ q least. same q (omega (arith, least)))
members_of f (suc n) p (q ∷ set) rises same =
    let end : p + suc n ≡ p + 1 + n = omega arith in
    elim (cases_eq q p) [
      | inl here ↦
          let first : f p ≡ true = same p (omega arith) ∙ ap (λ s. (s == p) || is_among set p) here ∙ ap (λ b. b || is_among set p) (eq-eqb p p refl) in
          let rise_on : RisesFrom (p + 1) (p + 1 + n) set = subst (λ k. RisesFrom (p + 1) k set) end
          (subst (λ k. RisesFrom (k + 1) (p + suc n) set) here rises.2) in
          let rest = members_of f n (p + 1) set rise_on (λ r least. same r (omega (arith, least))
          ∙ ap (λ b. b || is_among set r) (apart_test q r (omega (arith, here, least)))) in
          filter_yes f p (range_with_len (p + 1) n) first ∙ ap (λ ps. p ∷ ps) rest ∙ ap (λ s. s ∷ set) (sym here)
      | inr apart ↦
          let rise_on : RisesFrom (p + 1) (p + 1 + n) (q ∷ set) = subst (λ k. RisesFrom (p + 1) k (q ∷ set)) end
          (omega (arith, rises.0, apart), rises.1, rises.2) in
          let first : f p ≡ false = same p (omega arith) ∙ not_among_before (q ∷ set) p (p + 1 + n) rise_on in
          filter_no f p (range_with_len (p + 1) n) first ∙ members_of f n (p + 1) (q ∷ set) rise_on (λ r least. same r (omega (arith, least)))
    ]

-- a number of values is within the number of all
pub count_within : (lists : List (List ℕ)) (p : ℕ) → length (get_or lists p []) ≤ sum_by length lists
count_within [] p = omega arith
count_within (values ∷ lists) zero = (let opened = sum_by-cons length values lists in omega (arith, opened))
count_within (values ∷ lists) (suc p) = (let opened = sum_by-cons length values lists in let rest = count_within lists p in omega (arith, opened, rest))

same_low : (f g : ℕ → ℕ) (p : ℕ) (set : List ℕ) → ((p : ℕ) → f p ≡ g p) → list_any (λ q. nat_le (f q) (f p)) set ≡ list_any (λ q. nat_le (g q) (g p)) set
same_low f g p [] same = refl
same_low f g p (q ∷ set) same =
    ap (λ n. nat_le n (f p) || list_any (λ q. nat_le (f q) (f p)) set) (same q) ∙ ap (λ n. nat_le (g q) n || list_any (λ q. nat_le (f q) (f p)) set) (same p)
    ∙ ap (λ b. nat_le (g q) (g p) || b) (same_low f g p set same)

same_lowest : (f g : ℕ → ℕ) (set : List ℕ) → ((p : ℕ) → f p ≡ g p) → lowest f set ≡ lowest g set
same_lowest f g [] same = refl
same_lowest f g (p ∷ set) same =
    ap (λ b. if b then lowest f set else Some p) (same_low f g p set same)
    ∙ ap (λ o. if list_any (λ q. nat_le (g q) (g p)) set then o else Some p) (same_lowest f g set same)

pub last_is : (m : ModelView) (slice : Slice) (set : List ℕ) → IsSliceOf m slice → RisesFrom 0 (length m.params) set
    → last_column m slice set ≡ lowest (λ r. length (values_in (plan_of m) slice r)) set
last_is m slice set own rises =
    let members = members_of (is_among set) (length m.params) 0 set (subst (λ k. RisesFrom 0 k set) (sym (zero-add (length m.params))) rises)
    (λ q least. refl) in
    last_passing (is_among set) (sum_by length (slice_values m slice)) (count_in m slice) (param_numbers m) set (count_within (slice_values m slice)) members
    ∙ same_lowest (count_in m slice) (λ r. length (values_in (plan_of m) slice r)) set (λ p. ap length (slice_values_at m slice p own))
