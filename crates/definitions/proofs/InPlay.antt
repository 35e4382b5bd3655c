-- The tuples that growth meets in a slice are the demanded tuples of the slice, each for one column.
use Rattle.std.proofs.Common.{◌≡◌, ℕ, zero, suc, ◌+◌, ◌<◌, ◌≤◌, Bool, true, false, cond, List, [], ◌∷◌, map, length, get_or}
use Rattle.std.proofs.Common.{sum_by, Option, Some, None, is_some, unwrap_or, inl, inr, ◌∙◌, sym, ap, subst, refl, arith, zero-add}
use Rattle.std.specs.Prelude.{◌==◌}
use Rattle.std.specs.List.{filter, flat_map, last_or}
use Rattle.std.specs.Option.{option_map_or}
use Rattle.std.proofs.lemmas.Bool.{false≢true, cases_eq, cases_lt, eq-eqb, eqb-true}
use Rattle.std.proofs.lemmas.List.Sums.{get_or-le-sum_by}
use Rattle.cov_model.specs.declared.slice.Slice.{Slice}
use Rattle.cov_model.specs.declared.slice.Slice.TheVariants.{Positive, Negative}
use Rattle.cov_model.specs.believed.Sound.{ModelView, IsSound}
use Rattle.cov_model.specs.believed.Rows.{is_assigned, value_in}
use Rattle.cov_model.specs.believed.Valid.{param_numbers}
use Rattle.cov_model.specs.believed.Slices.{slice_values}
use Rattle.cov_model.proofs.CellLemmas.{length-slice_values}
use Rattle.definitions.specs.believed.Demand.{is_among, value_choices, tuples_in, demanded_sets}
use Rattle.definitions.specs.believed.Completion.{falling, count_in, column_order}
use Rattle.definitions.specs.believed.Growth.{sets_in_play, tuples_in_play}
use Rattle.definitions.proofs.Members.{Has, has_left, has_right, of_append, of_map, has_flat, of_flat, has_filter, of_filter}
use Rattle.definitions.proofs.Distinct.{NoRepeats, repeats_filter, repeats_range, repeats_append}
use Rattle.definitions.proofs.SliceLemmas.{IsSlice, InSlice, has_params}
use Rattle.definitions.proofs.Finishing.{met_in}
use Rattle.definitions.proofs.Totals.{count, counted, count_flat, sum_filter, sum_swap, sum_same, sum_less, sum_once}
use Rattle.definitions.proofs.Demanded.{demanded_has}

-- a value choice has values at the parameters of its set, each of its parameter's list
pub record IsTuple (set : List ℕ) (p : ℕ) (lists : List (List ℕ)) (cells : List (Option ℕ)) : Type 0 where
  pub long : length cells ≡ length lists
  pub given : (i : ℕ) → i < length lists → is_assigned cells i ≡ is_among set (p + i)
  pub listed : (i : ℕ) → i < length lists → is_assigned cells i ≡ true → Has (get_or lists i []) (value_in cells i)

pub choice_is_tuple : (set : List ℕ) (p : ℕ) (lists : List (List ℕ)) (cells : List (Option ℕ)) → Has (value_choices set p lists) cells
    → IsTuple set p lists cells
choice_is_tuple set p [] cells (inl same) =
    subst (IsTuple set p []) same (record { long = refl; given = λ i within. absurd (omega arith); listed = λ i within assigned. absurd (omega arith) })
choice_is_tuple set p [] cells (inr none) = absurd none
choice_is_tuple set p (values ∷ lists) cells has = at (is_among set p) refl has (choice_is_tuple set (p + 1) lists)
  where
    more : (cell : Option ℕ) (rest : List (Option ℕ)) → is_some cell ≡ is_among set p → (is_some cell ≡ true → Has values (unwrap_or cell 0))
        → IsTuple set (p + 1) lists rest
        → IsTuple set p (values ∷ lists) (cell ∷ rest)
    more cell rest first own later = record { long = ap suc later.long; given = given; listed = listed }
      where
        given : (i : ℕ) → i < length (values ∷ lists) → is_assigned (cell ∷ rest) i ≡ is_among set (p + i)
        given zero within = let here : p ≡ p + 0 = omega arith in first ∙ ap (is_among set) here
        given (suc i) within = let next : p + 1 + i ≡ p + suc i = omega arith in later.given i (omega arith) ∙ ap (is_among set) next

        listed : (i : ℕ) → i < length (values ∷ lists) → is_assigned (cell ∷ rest) i ≡ true → Has (get_or (values ∷ lists) i []) (value_in (cell ∷ rest) i)
        listed zero within assigned = own assigned
        listed (suc i) within assigned = later.listed i (omega arith) assigned

    at : (b : Bool) → is_among set p ≡ b
        → Has (cond b (flat_map (λ v. map (λ cells. Some v ∷ cells) (value_choices set (p + 1) lists)) values) (map (λ cells. None ∷ cells) (value_choices set (p + 1) lists))) cells
        → ((rest : List (Option ℕ)) → Has (value_choices set (p + 1) lists) rest → IsTuple set (p + 1) lists rest) → IsTuple set p (values ∷ lists) cells
    at true among has later =
        let first = of_flat (λ v. map (λ cells. Some v ∷ cells) (value_choices set (p + 1) lists)) values cells has in
        let rest = of_map (λ cells. Some first.0 ∷ cells) (value_choices set (p + 1) lists) cells first.2 in
        subst (IsTuple set p (values ∷ lists)) rest.2 (more (Some first.0) rest.0 (sym among) (λ assigned. first.1) (later rest.0 rest.1))
    at false among has later =
        let rest = of_map (λ cells. None ∷ cells) (value_choices set (p + 1) lists) cells has in
        subst (IsTuple set p (values ∷ lists)) rest.2 (more None rest.0 (sym among) (λ assigned. absurd (false≢true assigned)) (later rest.0 rest.1))

-- a tuple of a set in a slice belongs to the slice
pub record IsTupleOf (m : ModelView) (set : List ℕ) (slice : Slice) (tuple : List (Option ℕ)) : Type 0 where
  pub choice : IsTuple set 0 (slice_values m slice) tuple
  pub belongs : InSlice m slice tuple

pub tuple_is : (m : ModelView) (set : List ℕ) (slice : Slice) (tuple : List (Option ℕ)) → IsSlice m slice → Has (tuples_in m set slice) tuple
    → IsTupleOf m set slice tuple
tuple_is m set Positive tuple is has =
    let choice = choice_is_tuple set 0 (slice_values m Positive) tuple has in
    record { choice = choice; belongs = record { values = λ p within assigned. choice.listed p (omega (arith, within, length-slice_values m Positive)) assigned; fixed = tt } }
tuple_is m set (Negative q v) tuple is has = at (is_among set q) refl has
  where
    at : (b : Bool) → is_among set q ≡ b → Has (cond b (value_choices set 0 (slice_values m (Negative q v))) []) tuple → IsTupleOf m set (Negative q v) tuple
    at true among has =
        let choice = choice_is_tuple set 0 (slice_values m (Negative q v)) tuple has in
        let long = length-slice_values m (Negative q v) in
        record {
          choice = choice;
          belongs = record {
            values = λ p within assigned. choice.listed p (omega (arith, within, long)) assigned;
            fixed = choice.given q (omega (arith, is.0, long)) ∙ ap (is_among set) (zero-add q) ∙ among;
          };
        }
    at false among has = absurd has

-- the items by falling number
pub of_falling : {X : Type 0} (n : ℕ) (number : X → ℕ) (items : List X) (x : X) → Has (falling n number items) x → Has items x × (0 < number x) × (number x ≤ n)
of_falling zero number items x has = absurd has
of_falling (suc n) number items x has =
    elim (of_append (filter (λ item. number item == suc n) items) (falling n number items) x has) [
      | inl here ↦
          let kept = of_filter (λ item. number item == suc n) items x here in
          let same = eqb-true (number x) (suc n) kept.1 in
          (kept.0, omega (arith, same), omega (arith, same))
      | inr there ↦ let later = of_falling n number items x there in (later.0, later.1, omega (arith, later.2))
    ]

pub has_falling : {X : Type 0} (n : ℕ) (number : X → ℕ) (items : List X) (x : X) → Has items x → 0 < number x → number x ≤ n → Has (falling n number items) x
has_falling zero number items x has some most = absurd (omega (arith, some, most))
has_falling (suc n) number items x has some most =
    elim (cases_eq (number x) (suc n)) [
      | inl same ↦ has_left (filter (λ item. number item == suc n) items) (falling n number items) x
          (has_filter (λ item. number item == suc n) items x has (eq-eqb (number x) (suc n) same))
      | inr apart ↦ has_right (filter (λ item. number item == suc n) items) (falling n number items) x
          (has_falling n number items x has some (omega (arith, most, apart)))
    ]

pub falling_once : {X : Type 0} (n : ℕ) (number : X → ℕ) (items : List X) → NoRepeats items → NoRepeats (falling n number items)
falling_once zero number items once = tt
falling_once (suc n) number items once =
    repeats_append (filter (λ item. number item == suc n) items) (falling n number items) (repeats_filter (λ item. number item == suc n) items once)
    (falling_once n number items once)
    (λ x here there.
    let first = eqb-true (number x) (suc n) (of_filter (λ item. number item == suc n) items x here).1 in
    let later = of_falling n number items x there in
    absurd (omega (arith, first, later.2)))

-- the column order has each parameter once
pub order_has : (m : ModelView) (slice : Slice) (p : ℕ) → p < length m.params → Has (column_order m slice) p
order_has m slice p within =
    let many = sum_by length (slice_values m slice) in
    let some = falling many (count_in m slice) (param_numbers m) in
    let none = filter (λ p. count_in m slice p == 0) (param_numbers m) in
    elim (cases_lt 0 (count_in m slice p)) [
      | inl has ↦ has_left some none p
          (has_falling many (count_in m slice) (param_numbers m) p (has_params m p within) has
          (get_or-le-sum_by length (slice_values m slice) p [] (omega (arith, within, length-slice_values m slice))))
      | inr few ↦
          let zero_values : count_in m slice p ≡ 0 = omega (arith, few) in
          has_right some none p
          (has_filter (λ p. count_in m slice p == 0) (param_numbers m) p (has_params m p within) (eq-eqb (count_in m slice p) 0 zero_values))
    ]

pub order_once : (m : ModelView) (slice : Slice) → NoRepeats (column_order m slice)
order_once m slice =
    let many = sum_by length (slice_values m slice) in
    let once = repeats_range 0 (length m.params) in
    repeats_append (falling many (count_in m slice) (param_numbers m)) (filter (λ p. count_in m slice p == 0) (param_numbers m))
    (falling_once many (count_in m slice) (param_numbers m) once) (repeats_filter (λ p. count_in m slice p == 0) (param_numbers m) once)
    (λ p here there.
    let some = of_falling many (count_in m slice) (param_numbers m) p here in
    let none = eqb-true (count_in m slice p) 0 (of_filter (λ p. count_in m slice p == 0) (param_numbers m) p there).1 in
    absurd (omega (arith, some.1, none)))

-- the parameter is the last of the set in column order
abbrev pub is_last : ModelView → Slice → List ℕ → ℕ → Bool
is_last m slice set p = option_map_or (λ q. q == p) (last_or None (filter (is_among set) (column_order m slice))) false

last_some : {X : Type 0} (o : Option X) (xs : List X) (x : X) → Has xs x → (y : X) × Has xs y × (last_or o xs ≡ Some y)
last_some o [] x has = absurd has
last_some o (z ∷ []) x has = (z, inl refl, refl)
last_some o (z ∷ w ∷ xs) x has = let later = last_some (Some z) (w ∷ xs) w (inl refl) in (later.0, inr later.1, later.2)

pub one_last : (m : ModelView) (slice : Slice) (set : List ℕ) (p q : ℕ) → is_last m slice set p ≡ true → is_last m slice set q ≡ true → p ≡ q
one_last m slice set p q first second = at (last_or None (filter (is_among set) (column_order m slice))) first second
  where
    at : (o : Option ℕ) → option_map_or (λ r. r == p) o false ≡ true → option_map_or (λ r. r == q) o false ≡ true → p ≡ q
    at None first second = absurd (false≢true first)
    at (Some r) first second = sym (eqb-true r p first) ∙ eqb-true r q second

-- growth meets each tuple of a demanded set in the slice
pub has_met : (m : ModelView) (slice : Slice) (set : List ℕ) (tuple : List (Option ℕ)) → IsSound m → Has (demanded_sets m) set
    → Has (tuples_in m set slice) tuple → Has (met_in m slice) tuple
has_met m slice set tuple sound demanded has =
    let own = demanded_has m set sound demanded in
    let last = last_some None (filter (is_among set) (column_order m slice)) own.0
    (has_filter (is_among set) (column_order m slice) own.0 (order_has m slice own.0 own.1) own.2) in
    let column = of_filter (is_among set) (column_order m slice) last.0 last.1 in
    let is : is_last m slice set last.0 ≡ true = ap (λ o. option_map_or (λ q. q == last.0) o false) last.2 ∙ eq-eqb last.0 last.0 refl in
    has_flat (tuples_in_play m slice) (column_order m slice) last.0 tuple column.0
    (has_flat (λ set. tuples_in m set slice) (sets_in_play m (column_order m slice) last.0) set tuple
    (has_filter (λ set. is_last m slice set last.0) (demanded_sets m) set demanded is) has)

-- and no others
pub record IsMet (m : ModelView) (slice : Slice) (tuple : List (Option ℕ)) : Type 0 where
  pub set : List ℕ
  pub demanded : Has (demanded_sets m) set
  pub has : Has (tuples_in m set slice) tuple

pub of_met : (m : ModelView) (slice : Slice) (tuple : List (Option ℕ)) → Has (met_in m slice) tuple → IsMet m slice tuple
of_met m slice tuple has =
    let column = of_flat (tuples_in_play m slice) (column_order m slice) tuple has in
    let set = of_flat (λ set. tuples_in m set slice) (sets_in_play m (column_order m slice) column.0) tuple column.2 in
    record { set = set.0; demanded = (of_filter (λ set. is_last m slice set column.0) (demanded_sets m) set.0 set.1).0; has = set.2 }

-- it meets no tuple for two columns
pub few_met : (m : ModelView) (slice : Slice) (test : List (Option ℕ) → Bool)
    → count test (met_in m slice) ≤ sum_by (λ set. count test (tuples_in m set slice)) (demanded_sets m)
few_met m slice test =
    let order = column_order m slice in
    let sets = demanded_sets m in
    let in_set : List ℕ → ℕ = λ set. count test (tuples_in m set slice) in
    let by_column = count_flat test (tuples_in_play m slice) order in
    let by_set = sum_same (λ p. count test (tuples_in_play m slice p)) (λ p. sum_by (λ set. counted (is_last m slice set p) (in_set set)) sets) order
    (λ p. count_flat test (λ set. tuples_in m set slice) (sets_in_play m order p) ∙ sum_filter (λ set. is_last m slice set p) in_set sets) in
    let swapped = sum_swap (λ p set. counted (is_last m slice set p) (in_set set)) order sets in
    let least = sum_less (λ set. sum_by (λ p. counted (is_last m slice set p) (in_set set)) order) in_set sets
    (λ set has. sum_once (is_last m slice set) (in_set set) order (order_once m slice) (one_last m slice set)) in
    omega (arith, by_column, by_set, swapped, least)
