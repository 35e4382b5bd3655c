-- Tests that are marked together, and the places that their values make.
use Rattle.std.proofs.Common.{inl, inr, ◌≡◌, ℕ, ◌+◌, ◌*◌, ◌^◌, ◌<◌, ◌≤◌, Bool, true, false, ◌&&◌, ◌||◌, not, cond}
use Rattle.std.proofs.Common.{append_assoc, take, List, [], ◌∷◌, ◌++◌, map, replicate, length, get_or, set, Bor, Vec, Global, All, Option, Some, None, ◌∙◌, ◌≢◌, refl, sym, ap, subst, arith}
use Rattle.std.specs.Prelude.{slice_get}
use Rattle.std.specs.List.{filter, list_any}
use Rattle.std.specs.Option.{option_map_or}
use Rattle.std.proofs.Math.Bool.{or-false}
use Rattle.std.proofs.lemmas.Bool.{and_parts, cases_eq, false≢true}
use Rattle.std.proofs.lemmas.List.{get_or-map, get_or-replicate, get_or-set_other, get_or-set_same, get_or_default, length-map, length-replicate, length-set, map-append, map-set, same_lists, take_more}
use Rattle.std.proofs.lemmas.List.Elements.{All-get_or}
use Rattle.value_text.proofs.ListLemmas.{or_or}
use Rattle.cov_model.specs.declared.slice.Slice.{Slice}
use Rattle.cov_model.specs.declared.slice.Slice.TheVariants.{Positive, Negative}
use Rattle.cov_model.specs.believed.Sound.{ModelView}
use Rattle.cov_model.specs.believed.Rows.{is_complete}
use Rattle.cov_model.specs.believed.Slices.{positive_values, slice_of}
use Rattle.cov_model.specs.believed.Valid.{is_valid, serves}
use Rattle.definitions.specs.believed.Demand.{demanded_tuples}
use Rattle.definitions.specs.believed.Figures.{is_served, tests_of}
use Rattle.tuple_index.specs.Places.{values_in, ways}
use Rattle.tuple_index.specs.Plan.{plan_of}
use Rattle.shared_marks.specs.TestColumns.{ColumnsView, AreColumns, ArePlain, digit_in, is_plain, is_positive, place_in}
use Rattle.shared_marks.specs.Digits.{IsPlacing, own_slice}
use Rattle.shared_marks.specs.Served.{is_served_at}
use Rattle.shared_marks.proofs.DigitLemmas.{IsJoined, joined, placing_end, positives_listed}

positive_is : (s : Slice) → is_positive s ≡ true → s ≡ Positive
positive_is Positive is = refl
positive_is (Negative q v) is = absurd (false≢true is)

-- what is known of a test without a negative value
pub record PlainTest (m : ModelView) (row : List (Option ℕ)) : Type 0 where
  pub positive : slice_of m row ≡ Positive
  pub test : (is_complete row && is_valid m row) ≡ true
  pub valid : is_valid m row ≡ true

pub plain_test : (m : ModelView) (row : List (Option ℕ)) → is_plain m row ≡ true → PlainTest m row
plain_test m row is =
    let parts = and_parts (is_positive (slice_of m row)) (is_complete row && is_valid m row) is in
    record {
      positive = positive_is (slice_of m row) parts.0;
      test = parts.1;
      valid = (and_parts (is_complete row) (is_valid m row) parts.1).1;
    }

pub plain_at : (m : ModelView) (tests : List (List (Option ℕ))) (at : ℕ) → ArePlain m tests → at < length tests → PlainTest m (get_or tests at [])
plain_at m tests at plain within = plain_test m (get_or tests at []) (All-get_or (λ row. is_plain m row ≡ true) tests at [] within plain)

-- such a test by its reference
pub test_at : (m : ModelView) (tests : List (Bor (List (Option ℕ)))) (i : ℕ) (test : Bor (List (Option ℕ))) → ArePlain m (map (λ (t : Bor (List (Option ℕ))). t.now) tests)
    → i < length tests → test ≡ get_or tests i test → PlainTest m test.now
test_at m tests i test plain within is =
    let now = λ (t : Bor (List (Option ℕ))). t.now in
    subst (PlainTest m) (get_or-map now tests i test [] within ∙ ap now (sym is)) (plain_at m (map now tests) i plain (omega (arith, within, length-map tests now)))

pub plain_slice : (m : ModelView) (row : List (Option ℕ)) (p : ℕ) → PlainTest m row → p < length m.params → own_slice m row p ≡ positive_values m p
plain_slice m row p is within = ap (λ s. values_in (plan_of m) s p) is.positive ∙ positives_listed m p within

-- no column is filled yet, and one more
pub none_filled : (m : ModelView) (columns : ColumnsView) → ArePlain m columns.tests → length columns.places ≡ length m.params
    → All (λ column. column ≡ []) columns.places → AreColumns m columns
none_filled m columns plain wide empty = record {
  plain = plain;
  wide = wide;
  each = λ p within some. absurd (some (All-get_or (λ column. column ≡ []) columns.places p [] (omega (arith, within, wide)) empty));
}

pub one_filled : (m : ModelView) (tests : List (List (Option ℕ))) (columns : List (Vec ℕ Global)) (p : ℕ) (column : Vec ℕ Global)
    → AreColumns m (record { tests = tests; places = map (λ (c : Vec ℕ Global). c.items) columns }) → p < length m.params → column.items ≡ map (digit_in m p) tests
    → AreColumns m (record { tests = tests; places = map (λ (c : Vec ℕ Global). c.items) (set columns p column) })
    × (get_or (map (λ (c : Vec ℕ Global). c.items) (set columns p column)) p [] ≡ map (digit_in m p) tests)
one_filled m tests columns p column is within filled = (
  record {
    plain = is.plain;
    wide = ap length after ∙ length-set before p column.items ∙ is.wide;
    each =
        λ q exists some.
        elim (cases_eq q p) [
          | inl same ↦ subst (λ k. get_or (map (λ (c : Vec ℕ Global). c.items) (set columns p column)) k [] ≡ map (digit_in m k) tests) (sym same) here
          | inr apart ↦
              let other = ap (λ cs. get_or cs q []) after ∙ get_or-set_other before p q column.items [] apart in
              other ∙ is.each q exists (λ empty. some (other ∙ empty))
        ];
  },
  here,
)
  where
    before : List (List ℕ)
    before = map (λ (c : Vec ℕ Global). c.items) columns

    after : map (λ (c : Vec ℕ Global). c.items) (set columns p column) ≡ set before p column.items
    after = map-set (λ (c : Vec ℕ Global). c.items) columns p column

    here : get_or (map (λ (c : Vec ℕ Global). c.items) (set columns p column)) p [] ≡ map (digit_in m p) tests
    here = ap (λ cs. get_or cs p []) after ∙ get_or-set_same before p column.items [] (omega (arith, within, is.wide)) ∙ filled

-- one test more in a column
pub place_pushed : {X : Type 0} (f : X → ℕ) (before column after : List ℕ) (tests : List X) (i place : ℕ) (d : X) → i < length tests
    → column ≡ before ++ map f (take i tests) → place ≡ f (get_or tests i d) → after ≡ column ++ place ∷ []
    → after ≡ before ++ map f (take (i + 1) tests)
place_pushed f before column after tests i place d within so_far is next =
    next ∙ ap (λ xs. xs ++ place ∷ []) so_far ∙ append_assoc before (map f (take i tests)) (place ∷ [])
    ∙ ap (λ v. before ++ (map f (take i tests) ++ v ∷ [])) is ∙ ap (λ xs. before ++ xs) (sym (map-append f (take i tests) (get_or tests i d ∷ [])))
    ∙ ap (λ xs. before ++ map f xs) (sym (take_more tests i d within))

-- a digit is added to each of the numbers before one
pub record AreAdded (before numbers digits : List ℕ) (radix upto : ℕ) : Type 0 where
  pub long : length numbers ≡ length before
  pub done : (at : ℕ) → at < upto → get_or numbers at 0 ≡ get_or before at 0 * radix + get_or digits at 0
  pub left : (at : ℕ) → upto ≤ at → get_or numbers at 0 ≡ get_or before at 0

pub added_more : (before numbers after digits : List ℕ) (radix at number : ℕ) → at < length before → AreAdded before numbers digits radix at
    → number ≡ get_or numbers at 0 * radix + get_or digits at 0 → after ≡ set numbers at number → AreAdded before after digits radix (at + 1)
added_more before numbers after digits radix at number within are is next = record {
  long = ap length next ∙ length-set numbers at number ∙ are.long;
  done =
      λ k below.
      elim (cases_eq k at) [
        | inl same ↦
            subst (λ j. get_or after j 0 ≡ get_or before j 0 * radix + get_or digits j 0) (sym same)
            (ap (λ ns. get_or ns at 0) next ∙ get_or-set_same numbers at number 0 (omega (arith, within, are.long)) ∙ is
            ∙ ap (λ n. n * radix + get_or digits at 0) (are.left at (omega arith)))
        | inr apart ↦ ap (λ ns. get_or ns k 0) next ∙ get_or-set_other numbers at k number 0 apart ∙ are.done k (omega (arith, below, apart))
      ];
  left = λ k past.
      let apart : k ≢ at = λ same. omega (arith, same, past) in
      ap (λ ns. get_or ns k 0) next ∙ get_or-set_other numbers at k number 0 apart ∙ are.left k (omega (arith, past));
}

-- the places of the tests' values of some members, of which the first ones make the numbers
pub record PlacesSoFar (m : ModelView) (tests : List (List (Option ℕ))) (members : List ℕ) (i : ℕ) (numbers : List ℕ) : Type 0 where
  pub long : length numbers ≡ length tests
  pub each : (at : ℕ) → at < length tests → IsPlacing (own_slice m (get_or tests at [])) (get_or tests at []) members i (get_or numbers at 0)

pub places_begin : (m : ModelView) (tests : List (List (Option ℕ))) (members numbers : List ℕ) → numbers ≡ replicate (length tests) 0
    → PlacesSoFar m tests members 0 numbers
places_begin m tests members numbers are = record {
  long = ap length are ∙ length-replicate (length tests) 0;
  each = λ at within.
      subst (IsPlacing (own_slice m (get_or tests at [])) (get_or tests at []) members 0)
      (sym (ap (λ ns. get_or ns at 0) are ∙ get_or-replicate (length tests) at 0 0 within)) (omega arith);
}

-- what is known of members whose values make places
pub record ArePlaced (m : ModelView) (tests : List (List (Option ℕ))) (members : List ℕ) : Type 0 where
  pub exist : All (λ p. p < length m.params) members
  pub few : All (λ row. place_in m members row < 2 ^ 26) tests
  pub some : All (λ row. 0 < ways (own_slice m row) members) tests

pub places_joined : (m : ModelView) (tests : List (List (Option ℕ))) (members numbers column : List ℕ) (i d radix : ℕ) → ArePlain m tests → ArePlaced m tests members
    → i < length members → PlacesSoFar m tests members i numbers → radix ≡ length (positive_values m (get_or members i d))
    → column ≡ map (digit_in m (get_or members i d)) tests → (at : ℕ) → at < length tests
    → IsJoined m (get_or tests at []) members i (get_or numbers at 0) radix (get_or column at 0)
places_joined m tests members numbers column i d radix plain placed inside so_far many are at within =
    let p = get_or members i d in
    let row = get_or tests at [] in
    let exists = All-get_or (λ q. q < length m.params) members i d inside placed.exist in
    joined m row members i d (get_or numbers at 0) radix (get_or column at 0)
    (many ∙ ap length (sym (plain_slice m row p (plain_at m tests at plain within) exists)))
    (ap (λ xs. get_or xs at 0) are ∙ get_or-map (digit_in m p) tests at [] 0 within) inside (so_far.each at within)
    (All-get_or (λ r. 0 < ways (own_slice m r) members) tests at [] within placed.some)
    (All-get_or (λ r. place_in m members r < 2 ^ 26) tests at [] within placed.few)

pub places_more : (m : ModelView) (tests : List (List (Option ℕ))) (members numbers column after : List ℕ) (i d radix : ℕ) → ArePlain m tests → ArePlaced m tests members
    → i < length members → PlacesSoFar m tests members i numbers → radix ≡ length (positive_values m (get_or members i d))
    → column ≡ map (digit_in m (get_or members i d)) tests → length after ≡ length numbers
    → ((at : ℕ) → at < length numbers → get_or after at 0 ≡ get_or numbers at 0 * radix + get_or column at 0)
    → PlacesSoFar m tests members (i + 1) after
places_more m tests members numbers column after i d radix plain placed inside so_far many are long each = record {
  long = long ∙ so_far.long;
  each = λ at within.
      subst (IsPlacing (own_slice m (get_or tests at [])) (get_or tests at []) members (i + 1)) (sym (each at (omega (arith, within, so_far.long))))
      (places_joined m tests members numbers column i d radix plain placed inside so_far many are at within).placing;
}

pub places_end : (m : ModelView) (tests : List (List (Option ℕ))) (members numbers : List ℕ) (i : ℕ) → length members ≤ i → PlacesSoFar m tests members i numbers
    → numbers ≡ map (place_in m members) tests
places_end m tests members numbers i past so_far =
    same_lists numbers (map (place_in m members) tests) (so_far.long ∙ sym (length-map tests (place_in m members))) (λ at other within.
    let inside : at < length tests = omega (arith, within, so_far.long) in
    let row = get_or tests at [] in
    get_or_default numbers at other 0 within ∙ placing_end (own_slice m row) row members i (get_or numbers at 0) past (so_far.each at inside)
    ∙ sym (get_or-map (place_in m members) tests at [] other inside))

-- what rows serve is what those without a negative value serve, and those with one
any_filter : {X : Type 0} (s f : X → Bool) (xs : List X) → list_any s (filter f xs) ≡ list_any (λ x. f x && s x) xs
any_filter s f [] = refl
any_filter s f (x ∷ xs) = by_test (f x) (any_filter s f xs)
  where
    by_test : (b : Bool) → list_any s (filter f xs) ≡ list_any (λ y. f y && s y) xs
        → list_any s (cond b (x ∷ filter f xs) (filter f xs)) ≡ ((b && s x) || list_any (λ y. f y && s y) xs)
    by_test true rest = ap (λ t. s x || t) rest
    by_test false rest = rest

any_either : {X : Type 0} (f g h : X → Bool) (xs : List X) → ((x : X) → (f x || g x) ≡ h x) → (list_any f xs || list_any g xs) ≡ list_any h xs
any_either f g h [] each = refl
any_either f g h (x ∷ xs) each =
    or_or (f x) (list_any f xs) (g x) (list_any g xs) ∙ ap (λ t. t || (list_any f xs || list_any g xs)) (each x)
    ∙ ap (λ t. h x || t) (any_either f g h xs each)

any_parts : {X : Type 0} (serves test positive : X → Bool) (rows : List X)
    → (list_any serves (filter test (filter (λ r. positive r && test r) rows)) || list_any serves (filter test (filter (λ r. not (positive r)) rows)))
    ≡ list_any serves (filter test rows)
any_parts serves test positive rows =
    ap (λ t. t || list_any serves (filter test (filter (λ r. not (positive r)) rows)))
    (any_filter serves test (filter (λ r. positive r && test r) rows) ∙ any_filter (λ r. test r && serves r) (λ r. positive r && test r) rows)
    ∙ ap (λ t. list_any (λ r. (positive r && test r) && (test r && serves r)) rows || t)
    (any_filter serves test (filter (λ r. not (positive r)) rows) ∙ any_filter (λ r. test r && serves r) (λ r. not (positive r)) rows)
    ∙ any_either (λ r. (positive r && test r) && (test r && serves r)) (λ r. not (positive r) && (test r && serves r)) (λ r. test r && serves r) rows
    (λ r. either (positive r) (test r) (serves r))
    ∙ sym (any_filter serves test rows)
  where
    either : (p t s : Bool) → (((p && t) && (t && s)) || (not p && (t && s))) ≡ (t && s)
    either true true s = or-false s
    either true false s = refl
    either false t s = refl

pub served_parts : (m : ModelView) (rows : List (List (Option ℕ))) (place : ℕ)
    → (is_served_at m (filter (is_plain m) rows) place || is_served_at m (filter (λ cells. not (is_positive (slice_of m cells))) rows) place) ≡ is_served_at m rows place
served_parts m rows place = by_tuple (slice_get (demanded_tuples m) place)
  where
    by_tuple : (tuple : Option (List (Option ℕ)))
        → (option_map_or (is_served m (tests_of m (filter (is_plain m) rows))) tuple false
        || option_map_or (is_served m (tests_of m (filter (λ cells. not (is_positive (slice_of m cells))) rows))) tuple false)
        ≡ option_map_or (is_served m (tests_of m rows)) tuple false
    by_tuple None = refl
    by_tuple (Some tuple) = any_parts (λ r. serves m r tuple) (λ r. is_complete r && is_valid m r) (λ r. is_positive (slice_of m r)) rows
