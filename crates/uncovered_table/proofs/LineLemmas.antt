-- Lines: the tuples of a set in play that differ in the digit of the column alone.
use Rattle.std.proofs.Common.{inl, inr, ◌≡◌, ℕ, ◌+◌, ◌*◌, ◌^◌, ◌<◌, ◌≤◌, Bool, true, false, ◌||◌, List, [], ◌∷◌, Option, Some, None, length, ◌∙◌, refl, sym, subst, ap, arith, add_assoc}
use Rattle.std.specs.Prelude.{◌==◌, option_map, if◌then◌else◌}
use Rattle.std.specs.Option.{option_map_or}
use Rattle.std.specs.List.{filter, last_or}
use Rattle.std.proofs.lemmas.Bool.{cases_eq, false≢true, cases_Bool}
use Rattle.std.proofs.lemmas.Bool.Decides.{nat_tests}
use Rattle.value_text.proofs.ListLemmas.{pos_left_of_mul, pos_right_of_mul}
use Rattle.cov_model.specs.declared.slice.Slice.{Slice}
use Rattle.cov_model.specs.believed.Sound.{ModelView}
use Rattle.definitions.specs.believed.Completion.{column_order}
use Rattle.definitions.specs.believed.Demand.{demanded_sets, is_among}
use Rattle.definitions.specs.SliceRows.{IsSliceOf}
use Rattle.tuple_index.specs.Kept.{IsKept}
use Rattle.tuple_index.specs.Places.{has_part, ways}
use Rattle.tuple_index.specs.Plan.{plan_of}
use Rattle.uncovered_table.specs.Bits.{InPlay, first_bit, held_bit, tuple_count}
use Rattle.uncovered_table.specs.Digits.{cell_digit, number_of, own_values, step_of, with_digit}
use Rattle.uncovered_table.specs.Places.{set_at, slice_places}
use Rattle.uncovered_table.proofs.BitLemmas.{bits_before}
use Rattle.uncovered_table.proofs.ColumnLemmas.{filter_no, filter_yes}
use Rattle.uncovered_table.proofs.DigitLemmas.{cell_digits, stepped_number, with_digits}
use Rattle.uncovered_table.proofs.GainLemmas.{number_within}
use Rattle.uncovered_table.proofs.PlaceLemmas.{places_few, set_rises}
use Rattle.uncovered_table.proofs.SliceLemmas.{length-tuples_in}
use Rattle.uncovered_table.proofs.TableLemmas.{bits_few}

-- the column of a set in play is a member
last_passes : (f : ℕ → Bool) (d : Option ℕ) (xs : List ℕ) (q : ℕ) → (d ≡ Some q → f q ≡ true) → last_or d (filter f xs) ≡ Some q → f q ≡ true
last_passes f d [] q first last = first last
last_passes f d (x ∷ xs) q first last =
    elim (cases_Bool (f x)) [
      | inl passing ↦ last_passes f (Some x) xs q (λ same. let here : x ≡ q = cc in ap f (sym here) ∙ passing)
          (sym (ap (last_or d) (filter_yes f x xs passing)) ∙ last)
      | inr fails ↦ last_passes f d xs q first (sym (ap (last_or d) (filter_no f x xs fails)) ∙ last)
    ]

pub column_among : (m : ModelView) (slice : Slice) (column set : ℕ) → InPlay m slice column set → is_among (set_at m set) column ≡ true
column_among m slice column set play = by_last (last_or None (filter (is_among (set_at m set)) (column_order m slice))) refl play.ends
  where
    by_last : (o : Option ℕ) → last_or None (filter (is_among (set_at m set)) (column_order m slice)) ≡ o → option_map_or (λ q. q == column) o false ≡ true
        → is_among (set_at m set) column ≡ true
    by_last None last is = absurd (false≢true is)
    by_last (Some q) last is =
        let same : q ≡ column = grind (arith, nat_tests) in
        ap (is_among (set_at m set)) (sym same) ∙ last_passes (is_among (set_at m set)) None (column_order m slice) q (λ none. absurd (cc)) last

-- each member has a value where there is a choice
member_some : (values : ℕ → List ℕ) (set : List ℕ) (p : ℕ) → is_among set p ≡ true → 0 < ways values set → 0 < length (values p)
member_some values [] p among some = absurd (false≢true among)
member_some values (q ∷ set) p among some =
    elim (cases_eq q p) [
      | inl here ↦ subst (λ r. 0 < length (values r)) here (pos_left_of_mul (length (values q)) (ways values set) some)
      | inr apart ↦
          let test : (q == p) ≡ false = grind (arith, nat_tests) in
          member_some values set p (subst (λ b. (b || is_among set p) ≡ true) test among) (pos_right_of_mul (length (values q)) (ways values set) some)
    ]

-- what is known of a set in play
pub record PlayKnown (m : ModelView) (slice : Slice) (column set : ℕ) (members : List ℕ) : Type 0 where
  pub own : 0 < length (own_values m slice column)
  pub some : 0 < ways (own_values m slice) members
  pub few : ways (own_values m slice) members ≤ 2 ^ 26

pub play_known : (m : ModelView) (slice : Slice) (column set : ℕ) (members : List ℕ) → IsKept (plan_of m) → IsSliceOf m slice → InPlay m slice column set
    → members ≡ set_at m set
    → PlayKnown m slice column set members
play_known m slice column set members kept own play same =
    let values = own_values m slice in
    let many = length-tuples_in m (set_at m set) slice (set_rises m set kept play.exists) in
    let all : ways values (set_at m set) ≡ tuple_count m slice set = elim (cases_Bool (has_part (set_at m set) slice)) [
      | inl part ↦ sym (many ∙ ap (λ b. if b then ways values (set_at m set) else 0) part)
      | inr none ↦ let empty = many ∙ ap (λ b. if b then ways values (set_at m set) else 0) none in absurd (omega (arith, play.some, empty))
    ] in
    let some : 0 < ways values (set_at m set) = omega (arith, all, play.some) in
    let most = bits_few m slice set kept own play.exists in
    subst (PlayKnown m slice column set) (sym same)
    (record { own = member_some values (set_at m set) column (column_among m slice column set play) some; some = some; few = omega (arith, all, most) })

-- the bits of a line
pub no_line : (m : ModelView) (slice : Slice) (digits : ℕ → Option ℕ) (column set : ℕ) (members : List ℕ) → IsKept (plan_of m) → InPlay m slice column set
    → members ≡ set_at m set
    → None ≡ number_of (own_values m slice) (with_digit digits column 0) members → (d : ℕ) → held_bit m slice (with_digit digits column d) set ≡ None
no_line m slice digits column set members kept play same none d =
    let values = own_values m slice in
    ap (option_map (λ n. first_bit m slice set + n))
    (stepped_number values digits column 0 (length m.params) d (set_at m set) (set_rises m set kept play.exists)
    ∙ ap (option_map (λ n. n + d * step_of values column (set_at m set))) (sym (none ∙ ap (number_of values (with_digit digits column 0)) same)))

pub record LineKnown (m : ModelView) (slice : Slice) (digits : ℕ → Option ℕ) (column set bit step : ℕ) : Type 0 where
  pub value : (d : ℕ) → held_bit m slice (with_digit digits column d) set ≡ Some (bit + d * step)
  pub within : (d : ℕ) → d < length (own_values m slice column) → bit + d * step < length (slice_places m slice)
  pub few : bit < 2 ^ 26

pub line_known : (m : ModelView) (slice : Slice) (cells : List (Option ℕ)) (column set : ℕ) (members : List ℕ) (first number step : ℕ) → IsKept (plan_of m)
    → IsSliceOf m slice
    → InPlay m slice column set → members ≡ set_at m set → first ≡ first_bit m slice set
    → Some number ≡ number_of (own_values m slice) (with_digit (cell_digit (own_values m slice) cells) column 0) members
    → step ≡ step_of (own_values m slice) column members → LineKnown m slice (cell_digit (own_values m slice) cells) column set (first + number) step
line_known m slice cells column set members first number step kept own play same begin numbered stepped =
    let values = own_values m slice in
    let digits = cell_digit values cells in
    let rises = set_rises m set kept play.exists in
    let zero_number : number_of values (with_digit digits column 0) (set_at m set) ≡ Some number =
    sym (numbered ∙ ap (number_of values (with_digit digits column 0)) same) in
    let apart : step_of values column (set_at m set) ≡ step = sym (stepped ∙ ap (step_of values column) same) in
    let each : (d : ℕ) → number_of values (with_digit digits column d) (set_at m set) ≡ Some (number + d * step) =
    λ d. stepped_number values digits column 0 (length m.params) d (set_at m set) rises
    ∙ ap (option_map (λ n. n + d * step_of values column (set_at m set))) zero_number
    ∙ ap (λ s. Some (number + d * s)) apart in
    let inside : (d : ℕ) → d < length (values column) → first + number + d * step < length (slice_places m slice) =
    λ d below. (let least = number_within m slice (with_digit digits column d) set (number + d * step) kept play.exists play.some
    (with_digits values digits column d (cell_digits values cells) below) (each d) in
    let end = bits_before m slice set (length (demanded_sets m)) play.exists in
    omega (arith, least, end, begin)) in
    let some = (play_known m slice column set (set_at m set) kept own play refl).own in
    record {
      value = λ d. ap (option_map (λ n. first_bit m slice set + n)) (each d) ∙ ap Some (sym (add_assoc (first_bit m slice set) number (d * step)))
          ∙ ap (λ f. Some (f + number + d * step)) (sym begin);
      within = inside;
      few = (let least = inside 0 some in omega (arith, least, places_few m slice kept own));
    }
