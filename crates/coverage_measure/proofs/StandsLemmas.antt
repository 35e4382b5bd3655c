-- A value of a parameter that no constraint names stands for all: counts over some of the values, for all of them.
use Rattle.std.proofs.Common.{◌≡◌, ℕ, ◌+◌, ◌*◌, ◌≤◌, ◌<◌, Bool, true, false, cond, List, [], ◌∷◌, ◌++◌, length, get_or, take, drop, find, sum_by}
use Rattle.std.proofs.Common.{Option, Some, None, min, refl, ◌∙◌, sym, ap, subst, arith}
use Rattle.std.specs.List.{filter, flat_map}
use Rattle.std.proofs.Math.Nat.{min-eq_right, min-le_left}
use Rattle.std.proofs.lemmas.Bool.{false≢true}
use Rattle.std.proofs.lemmas.Grind.{flat_map-append}
use Rattle.std.proofs.lemmas.List.{take-append-drop, take_all}
use Rattle.std.proofs.lemmas.List.Sums.{sum_by-cons}
use Rattle.std.proofs.lemmas.Option.{none-some}
use Rattle.cov_model.specs.believed.Sound.{ModelView}
use Rattle.cov_model.specs.believed.Rows.{with_value}
use Rattle.definitions.specs.believed.Demand.{is_among}
use Rattle.definitions.specs.believed.Search.{constrained_params}
use Rattle.definitions.proofs.Members.{among_has, has_filter}
use Rattle.definitions.proofs.SliceLemmas.{has_params}
use Rattle.definitions.proofs.Totals.{count_flat, sum_same}
use Rattle.feasibility.specs.Tree.{is_named}
use Rattle.feasibility.specs.declared.answer.SearchFault.{SearchFault}
use Rattle.feasibility.specs.Ends.{EndsBy}
use Rattle.feasibility.proofs.Alike.{AreAlike, alike_other, alike_with}
use Rattle.cov_model.specs.believed.Valid.{param_numbers}
use Rattle.coverage_measure.specs.Asking.{tally, with_values}
use Rattle.coverage_measure.proofs.EndLemmas.{ends_whole}

-- a test tells no two alike partial rows apart
abbrev pub IsSameOnAlike : ModelView → (List (Option ℕ) → Bool) → Type 0
IsSameOnAlike m test = (a b : List (Option ℕ)) → AreAlike m a b → test a ≡ test b

-- then as many pass of what they lead to
one_alike : (a b : List (Option ℕ)) (passes : Bool) → length (cond passes (a ∷ []) []) ≡ length (cond passes (b ∷ []) [])
one_alike a b true = refl
one_alike a b false = refl

tally_alike : (m : ModelView) (test : List (Option ℕ) → Bool) (lists : List (List ℕ)) (params : List ℕ) (a b : List (Option ℕ)) → IsSameOnAlike m test
    → AreAlike m a b → tally test (with_values lists params a) ≡ tally test (with_values lists params b)
tally_alike m test lists [] a b same alike = ap (λ passes. length (cond passes (a ∷ []) [])) (same a b alike) ∙ one_alike a b (test b)
tally_alike m test lists (p ∷ params) a b same alike =
    let values = get_or lists p [] in
    let rows_a : ℕ → List (List (Option ℕ)) = λ v. with_values lists params (with_value a p v) in
    let rows_b : ℕ → List (List (Option ℕ)) = λ v. with_values lists params (with_value b p v) in
    count_flat test rows_a values
    ∙ sum_same (λ v. tally test (rows_a v)) (λ v. tally test (rows_b v)) values
    (λ v. tally_alike m test lists params (with_value a p v) (with_value b p v) same (alike_with m a b p v alike))
    ∙ sym (count_flat test rows_b values)

-- none passes exactly where the first that does isn't found
pub none_tallied : (test : List (Option ℕ) → Bool) (rows : List (List (Option ℕ))) → find test rows ≡ None → tally test rows ≡ 0
none_tallied test [] none = refl
none_tallied test (row ∷ rows) none = by_test (test row) none (none_tallied test rows)
  where
    by_test : (b : Bool) → cond b (Some row) (find test rows) ≡ None → (find test rows ≡ None → tally test rows ≡ 0)
        → length (cond b (row ∷ filter test rows) (filter test rows)) ≡ 0
    by_test true none later = absurd (none-some row (sym none))
    by_test false none later = later none

pub none_found : (test : List (Option ℕ) → Bool) (rows : List (List (Option ℕ))) → tally test rows ≡ 0 → find test rows ≡ None
none_found test [] none = refl
none_found test (row ∷ rows) none = by_test (test row) none (none_found test rows)
  where
    by_test : (b : Bool) → length (cond b (row ∷ filter test rows) (filter test rows)) ≡ 0 → (tally test rows ≡ 0 → find test rows ≡ None)
        → cond b (Some row) (find test rows) ≡ None
    by_test true none later = absurd (omega (arith, none))
    by_test false none later = later none

-- the first of the values are tried, and each stands for so many of all
pub record StandFor (test : List (Option ℕ) → Bool) (rows : ℕ → List (List (Option ℕ))) (values : List ℕ) (tried each : ℕ) : Type 0 where
  pub some : tried ≤ length values
  pub whole : each * sum_by (λ v. tally test (rows v)) (take tried values) ≡ tally test (flat_map rows values)

-- every value for itself
itself : (test : List (Option ℕ) → Bool) (rows : ℕ → List (List (Option ℕ))) (values : List ℕ) → StandFor test rows values (length values) 1
itself test rows values =
    let count : ℕ → ℕ = λ v. tally test (rows v) in
    let all : sum_by count (take (length values) values) ≡ sum_by count values = ap (sum_by count) (take_all (length values) values (omega arith)) in
    record { some = omega arith; whole = omega (arith, all, count_flat test rows values) }

-- the first for all, where all give as many
sum_each : (count : ℕ → ℕ) (n : ℕ) (values : List ℕ) → ((v : ℕ) → count v ≡ n) → sum_by count values ≡ length values * n
sum_each count n [] same = omega arith
sum_each count n (v ∷ values) same =
    let rest = sum_each count n values same in
    let more : length (v ∷ values) * n ≡ n + length values * n = grind arith in
    sum_by-cons count v values ∙ ap (λ k. k + sum_by count values) (same v) ∙ ap (λ k. n + k) rest ∙ sym more

first_for_all : (test : List (Option ℕ) → Bool) (rows : ℕ → List (List (Option ℕ))) (values : List ℕ)
    → ((v w : ℕ) → tally test (rows v) ≡ tally test (rows w)) → StandFor test rows values (min (length values) 1) (length values)
first_for_all test rows [] same = record { some = min-le_left 0 1; whole = omega arith }
first_for_all test rows (v ∷ values) same =
    let count : ℕ → ℕ = λ w. tally test (rows w) in
    let one : sum_by count (v ∷ []) ≡ count v = omega (arith, sum_by-cons count v []) in
    let first : min (length (v ∷ values)) 1 ≡ 1 = min-eq_right (omega arith) in
    record {
      some = min-le_left (length (v ∷ values)) 1;
      whole =
          ap (λ n. length (v ∷ values) * sum_by count (take n (v ∷ values))) first ∙ ap (λ n. length (v ∷ values) * n) one
          ∙ sym (sum_each count (count v) (v ∷ values) (λ w. same w v)) ∙ sym (count_flat test rows (v ∷ values));
    }

-- a parameter that isn't among the constrained ones is named by no constraint
unnamed : (m : ModelView) (p : ℕ) → p < length m.params → is_among (constrained_params m) p ≡ false → is_named m p ≡ true → ⊥
unnamed m p within away named =
    false≢true (sym away ∙ among_has (constrained_params m) p (has_filter (is_named m) (param_numbers m) p (has_params m p within) named))

-- so it is with the values of a parameter in a set
pub stand_for : (m : ModelView) (test : List (Option ℕ) → Bool) (lists : List (List ℕ)) (p : ℕ) (params : List ℕ) (cells : List (Option ℕ)) (named : Bool)
    (tried each : ℕ) → IsSameOnAlike m test → p < length m.params → is_among (constrained_params m) p ≡ named
    → tried ≡ cond named (length (get_or lists p [])) (min (length (get_or lists p [])) 1) → each ≡ cond named 1 (length (get_or lists p []))
    → StandFor test (λ v. with_values lists params (with_value cells p v)) (get_or lists p []) tried each
stand_for m test lists p params cells true tried each same within is tried_is each_is =
    let rows : ℕ → List (List (Option ℕ)) = λ v. with_values lists params (with_value cells p v) in
    subst (λ t. StandFor test rows (get_or lists p []) t each) (sym tried_is)
    (subst (λ e. StandFor test rows (get_or lists p []) (length (get_or lists p [])) e) (sym each_is) (itself test rows (get_or lists p [])))
stand_for m test lists p params cells false tried each same within is tried_is each_is =
    let rows : ℕ → List (List (Option ℕ)) = λ v. with_values lists params (with_value cells p v) in
    let values = get_or lists p [] in
    subst (λ t. StandFor test rows values t each) (sym tried_is)
    (subst (λ e. StandFor test rows values (min (length values) 1) e) (sym each_is)
    (first_for_all test rows values (λ v w. tally_alike m test lists params (with_value cells p v) (with_value cells p w) same
    (alike_other m cells p v w (unnamed m p within is)))))

-- where none of those that are tried passes, none does
pub none_stands : (test : List (Option ℕ) → Bool) (rows : ℕ → List (List (Option ℕ))) (values : List ℕ) (tried each : ℕ) → StandFor test rows values tried each
    → find test (flat_map rows (take tried values)) ≡ None → find test (flat_map rows values) ≡ None
none_stands test rows values tried each stands none =
    let counted : sum_by (λ v. tally test (rows v)) (take tried values) ≡ 0 =
    sym (count_flat test rows (take tried values)) ∙ none_tallied test (flat_map rows (take tried values)) none in
    let times : each * 0 ≡ 0 = omega arith in
    none_found test (flat_map rows values) (sym stands.whole ∙ ap (λ n. each * n) counted ∙ times)

-- and the first that passes is one of them
pub ends_tried : (test : List (Option ℕ) → Bool) (rows : ℕ → List (List (Option ℕ))) (values : List ℕ) (tried : ℕ) (fault : SearchFault)
    → EndsBy (find test (flat_map rows (take tried values))) fault → EndsBy (find test (flat_map rows values)) fault
ends_tried test rows values tried fault ends =
    let parts : flat_map rows values ≡ flat_map rows (take tried values) ++ flat_map rows (drop tried values) =
    ap (flat_map rows) (sym (take-append-drop tried values)) ∙ flat_map-append rows (take tried values) (drop tried values) in
    subst (λ all. EndsBy (find test all) fault) (sym parts) (ends_whole test [] (flat_map rows (take tried values))
    (flat_map rows (drop tried values)) fault refl ends)
