-- How many tuples of a set rows serve in a slice, and how many rows that takes.
use Rattle.std.proofs.Common.{◌≡◌, ℕ, ◌+◌, ◌<◌, ◌≤◌, Bool, true, false, ◌||◌, ◌&&◌, cond, List, [], ◌∷◌, map, length, get_or, sum_by, Option, Some, None, is_some, unwrap_or, inl, inr, ◌∙◌, sym, ap, subst, refl, arith, add-one}
use Rattle.std.specs.Prelude.{nat_le}
use Rattle.std.specs.List.{filter, list_all}
use Rattle.std.proofs.lemmas.Bool.{false≢true, false_from_ne_true, cases_Bool, and_parts}
use Rattle.std.proofs.lemmas.List.{get_or_default, same_lists}
use Rattle.std.proofs.lemmas.List.Sums.{sum_by-cons}
use Rattle.cov_model.specs.declared.slice.Slice.{Slice}
use Rattle.cov_model.specs.believed.Rows.{contains, is_assigned}
use Rattle.cov_model.specs.believed.Slices.{slice_values, slices}
use Rattle.cov_model.specs.believed.Sound.{ModelView}
use Rattle.cov_model.specs.believed.Meaning.{body_holds}
use Rattle.cov_model.specs.believed.Valid.{is_row, is_valid, negatives, serves}
use Rattle.cov_model.proofs.CellLemmas.{contains-value_in}
use Rattle.definitions.specs.believed.Completion.{has_slice}
use Rattle.definitions.specs.believed.Demand.{demanded_sets, demanded_tuples, tuples_in}
use Rattle.definitions.specs.believed.Figures.{is_served}
use Rattle.definitions.specs.believed.Growth.{is_of_slice}
use Rattle.definitions.proofs.Choices.{IsChoice}
use Rattle.definitions.proofs.Distinct.{NoRepeats}
use Rattle.definitions.proofs.Finishing.{is_of_own_slice}
use Rattle.definitions.proofs.Grown.{demanded_in, has_demanded, slices_once}
use Rattle.definitions.proofs.InPlay.{tuple_is}
use Rattle.definitions.proofs.Members.{Has, member_of_all}
use Rattle.definitions.proofs.MetOnce.{tuples_once}
use Rattle.definitions.proofs.PartialRowLemmas.{of_slice-is}
use Rattle.definitions.proofs.Serving.{of_serves, served_is_choice}
use Rattle.definitions.proofs.SliceLemmas.{IsSlice, is_slice, row_in_slice, slice_is}
use Rattle.definitions.proofs.Totals.{count, count_less, counted, sum_less, sum_once, sum_ones, sum_swap}
use Rattle.shorter_suites.specs.believed.Shrinking.{ServesToo}
use Rattle.shorter_suites.specs.believed.Bounds.{greatest, most_served, served_in}
use Rattle.shorter_suites.specs.Laws.{NoneIsShorter}

-- none passes, or one at most does
count_none : {X : Type 0} (test : X → Bool) (xs : List X) → ((x : X) → Has xs x → test x ≡ false) → count test xs ≡ 0
count_none test [] fails = refl
count_none test (x ∷ xs) fails =
    ap (λ b. length (cond b (x ∷ filter test xs) (filter test xs))) (fails x (inl refl)) ∙ count_none test xs (λ y has. fails y (inr has))

count_once : {X : Type 0} (test : X → Bool) (xs : List X) → NoRepeats xs → ((x y : X) → Has xs x → Has xs y → test x ≡ true → test y ≡ true → x ≡ y)
    → count test xs ≤ 1
count_once test [] once one = omega arith
count_once test (x ∷ xs) once one =
    elim (cases_Bool (test x)) [
      | inl passes ↦
          let later : count test xs ≡ 0 = count_none test xs (λ y has. false_from_ne_true (test y)
          (λ also. once.0 (subst (Has xs) (one y x (inr has) (inl refl) also passes) has))) in
          let first : count test (x ∷ xs) ≡ count test xs + 1 = ap (λ b. length (cond b (x ∷ filter test xs) (filter test xs))) passes ∙ sym (add-one (count test xs)) in
          omega (arith, first, later)
      | inr fails ↦
          let first : count test (x ∷ xs) ≡ count test xs = ap (λ b. length (cond b (x ∷ filter test xs) (filter test xs))) fails in
          let later = count_once test xs once.1 (λ y z here there. one y z (inr here) (inr there)) in
          omega (arith, first, later)
    ]

-- at most as many pass one of two tests as pass the first and as pass the second
count_either : {X : Type 0} (f g : X → Bool) (xs : List X) → count (λ x. f x || g x) xs ≤ count f xs + count g xs
count_either f g [] = omega arith
count_either {X} f g (x ∷ xs) = at (f x) (g x) (filter (λ x. f x || g x) xs) (filter f xs) (filter g xs) (count_either f g xs)
  where
    at : (a b : Bool) (both first second : List X) → length both ≤ length first + length second
        → length (cond (a || b) (x ∷ both) both) ≤ length (cond a (x ∷ first) first) + length (cond b (x ∷ second) second)
    at true true both first second h = omega arith
    at true false both first second h = omega arith
    at false true both first second h = omega arith
    at false false both first second h = omega arith

-- at most as many tuples are served by rows as by each of them
served_by_each : (m : ModelView) (rows tuples : List (List (Option ℕ))) → count (is_served m rows) tuples ≤ sum_by (λ row. count (serves m row) tuples) rows
served_by_each m [] tuples = omega (arith, count_none (is_served m []) tuples (λ tuple has. refl))
served_by_each m (row ∷ rows) tuples =
    omega (arith, count_either (serves m row) (is_served m rows) tuples, served_by_each m rows tuples, sum_by-cons (λ row. count (serves m row) tuples) row rows)

-- two cells of one row
same_cell : (a b : Option ℕ) → is_some a ≡ is_some b → (is_some a ≡ true → unwrap_or a 0 ≡ unwrap_or b 0) → a ≡ b
same_cell None None given value = refl
same_cell None (Some w) given value = absurd (false≢true given)
same_cell (Some v) None given value = absurd (false≢true (sym given))
same_cell (Some v) (Some w) given value = ap Some (value refl)

-- two tuples of one set that one row contains are one
same_tuple : (m : ModelView) (set : List ℕ) (slice : Slice) (row tuple other : List (Option ℕ)) → IsSlice m slice → Has (tuples_in m set slice) tuple
    → Has (tuples_in m set slice) other → contains row tuple ≡ true → contains row other ≡ true → tuple ≡ other
same_tuple m set slice row tuple other is has also first second =
    let one = (tuple_is m set slice tuple is has).choice in
    let two = (tuple_is m set slice other is also).choice in
    same_lists tuple other (one.long ∙ sym two.long) (λ p default inside.
    let within : p < length (slice_values m slice) = omega (arith, inside, one.long) in
    let below : p < length other = omega (arith, within, two.long) in
    let given : is_assigned tuple p ≡ is_assigned other p = one.given p within ∙ sym (two.given p within) in
    get_or_default tuple p default None inside
    ∙ same_cell (get_or tuple p None) (get_or other p None) given (λ assigned.
    sym (contains-value_in row tuple p first assigned) ∙ contains-value_in row other p second (sym given ∙ assigned))
    ∙ get_or_default other p None default below)

-- a row that serves a tuple of a slice is of the slice
serves_in : (m : ModelView) (set : List ℕ) (slice : Slice) (row tuple : List (Option ℕ)) → IsSlice m slice → Has (tuples_in m set slice) tuple
    → serves m row tuple ≡ true → is_of_slice m slice row ≡ true
serves_in m set slice row tuple is has holds =
    let own = slice_is m slice tuple is (tuple_is m set slice tuple is has).belongs in
    let choice = subst (λ s. IsChoice (slice_values m s) row) own.is (served_is_choice m row tuple own.few (of_serves m row tuple holds)) in
    let of = slice_is m slice row is (row_in_slice m slice row is choice) in
    subst (λ s. is_of_slice m s row ≡ true) of.is (is_of_own_slice m row)

-- so it serves one tuple of a set in its slice, and none in another
serves_few : (m : ModelView) (set : List ℕ) (slice : Slice) (row : List (Option ℕ)) → IsSlice m slice
    → count (serves m row) (tuples_in m set slice) ≤ counted (is_of_slice m slice row) 1
serves_few m set slice row is =
    elim (cases_Bool (is_of_slice m slice row)) [
      | inl own ↦
          let one = count_once (serves m row) (tuples_in m set slice) (tuples_once m set slice is) (λ tuple other has also first second.
          same_tuple m set slice row tuple other is has also (of_serves m row tuple first).contained (of_serves m row other second).contained) in
          omega (arith, one, ap (λ b. counted b 1) own)
      | inr away ↦
          let none = count_none (serves m row) (tuples_in m set slice) (λ tuple has. false_from_ne_true (serves m row tuple)
          (λ holds. false≢true (sym away ∙ serves_in m set slice row tuple is has holds))) in
          omega (arith, none, ap (λ b. counted b 1) away)
    ]

-- how many of the rows are of a slice
abbrev rows_in : ModelView → List (List (Option ℕ)) → Slice → ℕ
rows_in m rows slice = sum_by (λ row. counted (is_of_slice m slice row) 1) rows

greatest_least : {X : Type 0} (number : X → ℕ) (xs : List X) (most : ℕ) → ((x : X) → Has xs x → number x ≤ most) → greatest (map number xs) ≤ most
greatest_least number [] most below = omega arith
greatest_least number (x ∷ xs) most below =
    let here = below x (inl refl) in
    let later = greatest_least number xs most (λ y has. below y (inr has)) in
    omega (arith, here, later)

-- in a slice there are at least as many rows as tuples of one set that are served
needed_in : (m : ModelView) (given rows : List (List (Option ℕ))) (slice : Slice) → ServesToo m given rows → Has (slices m) slice
    → most_served m given slice ≤ rows_in m rows slice
needed_in m given rows slice serves_too has =
    let is = is_slice m slice has in
    greatest_least (served_in m given slice) (demanded_sets m) (rows_in m rows slice) (λ set demanded.
    let tuples = tuples_in m set slice in
    let also = count_less (is_served m given) (is_served m rows) tuples (λ tuple there.
    member_of_all (λ t. is_served m given t ≡ true → is_served m rows t ≡ true) (demanded_tuples m) tuple serves_too
    (has_demanded m tuple (demanded_in m set slice tuple is demanded there))) in
    let each = sum_less (λ row. count (serves m row) tuples) (λ row. counted (is_of_slice m slice row) 1) rows (λ row _. serves_few m set slice row is) in
    omega (arith, also, served_by_each m rows tuples, each))

-- a valid row is of one slice
one_slice : (m : ModelView) (row : List (Option ℕ)) → has_slice m row ≡ true → sum_by (λ slice. counted (is_of_slice m slice row) 1) (slices m) ≤ 1
one_slice m row few =
    sum_once (λ slice. is_of_slice m slice row) 1 (slices m) (slices_once m)
    (λ slice other here there. sym (of_slice-is m slice row few here) ∙ of_slice-is m other row few there)

valid_slice : (m : ModelView) (row : List (Option ℕ)) → is_valid m row ≡ true → has_slice m row ≡ true
valid_slice m row valid =
    (and_parts (is_row m row && list_all (λ rule. body_holds m rule.body row) m.rules) (nat_le (length (negatives m row)) 1) valid).1

pub none_is_shorter : NoneIsShorter
none_is_shorter m given rows valid serves_too =
    let by_slice = sum_less (most_served m given) (rows_in m rows) (slices m) (λ slice has. needed_in m given rows slice serves_too has) in
    let swapped = sum_swap (λ slice row. counted (is_of_slice m slice row) 1) (slices m) rows in
    let each = sum_less (λ row. sum_by (λ slice. counted (is_of_slice m slice row) 1) (slices m)) (λ row. 1) rows (λ row has.
    one_slice m row (valid_slice m row (member_of_all (λ r. is_valid m r ≡ true) rows row valid has))) in
    omega (arith, by_slice, swapped, each, sum_ones rows)
