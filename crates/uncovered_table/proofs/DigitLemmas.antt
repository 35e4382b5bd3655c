-- Numbers in mixed radix, and the choices of values that they number.
use Rattle.std.proofs.Common.{inl, inr, ◌≡◌, ℕ, zero, suc, ◌+◌, ◌*◌, ◌<◌, ◌≤◌, Bool, true, false, ◌&&◌, List, [], ◌∷◌, Option, Some}
use Rattle.std.proofs.Common.{None, map, length, get_or, drop, nat_lt, ◌∙◌, refl, sym, subst, ap, arith}
use Rattle.std.specs.Prelude.{◌==◌, ◌/◌, ◌%◌, option_and_then, option_map, if◌then◌else◌}
use Rattle.std.specs.Option.{option_map_or}
use Rattle.std.proofs.lemmas.Bool.{and_right, cases_eq, cases_lt, cases_Bool, ne_eqb}
use Rattle.std.proofs.Math.Nat.{mul-le-mul_right}
use Rattle.std.proofs.lemmas.Bool.Decides.{nat_tests}
use Rattle.std.proofs.lemmas.List.{length-map}
use Rattle.tuple_index.specs.Places.{RisesFrom, place_of, value_lists, ways}
use Rattle.tuple_index.proofs.ListingLemmas.{above_test}
use Rattle.std.proofs.lemmas.Option.{slice_get_within, slice_get-get_or, slice_get-map}
use Rattle.value_text.proofs.ListLemmas.{eqb-add_left, pos_left_of_mul, pos_right_of_mul}
use Rattle.tuple_index.proofs.SliceLemmas.{mul-add-le}
use Rattle.tuple_index.proofs.PlaceLemmas.{length-value_lists, slice_get-pieces}
use Rattle.uncovered_table.specs.Digits.{AreDigits, cell_digit, digit_of, joined, number_of, step_of, with_digit}
use Rattle.uncovered_table.specs.Held.{gives_values, is_value}

-- the number is this one
abbrev pub is_number : Option ℕ → ℕ → Bool
is_number o k = option_map_or (λ n. n == k) o false

-- a place is at most the length
pub place_most : (values : List ℕ) (v : ℕ) → place_of values v ≤ length values
place_most [] v = omega arith
place_most (w ∷ values) v = let rest = place_most values v in elim (cases_eq w v) [
  | inl here ↦ let test : (w == v) ≡ true = grind (arith, nat_tests) in rw test (omega arith)
  | inr apart ↦ let test : (w == v) ≡ false = grind (arith, nat_tests) in rw test (omega (arith, rest))
]

-- a value is that at a place of a rising list exactly if the place is its own
pub value_at_place : (values : List ℕ) (a e w j : ℕ) → RisesFrom a e values → j < length values → (w == get_or values j 0) ≡ (place_of values w == j)
value_at_place [] a e w j rises within = absurd (omega (arith, within))
value_at_place (u ∷ values) a e w zero rises within =
    elim (cases_eq u w) [
      | inl here ↦ let test : (u == w) ≡ true = grind (arith, nat_tests) in
          let flipped : (w == u) ≡ true = grind (arith, nat_tests) in
          rw (test, flipped) refl
      | inr apart ↦ let test : (u == w) ≡ false = grind (arith, nat_tests) in
          let flipped : (w == u) ≡ false = grind (arith, nat_tests) in
          let after : (place_of values w + 1 == 0) ≡ false = grind (arith, nat_tests) in
          rw (test, flipped) (sym after)
    ]
value_at_place (u ∷ values) a e w (suc j) rises within =
    elim (cases_eq u w) [
      | inl here ↦ let test : (u == w) ≡ true = grind (arith, nat_tests) in
          let above = rises_least values (u + 1) e j rises.2 (omega (arith, within)) in
          let differs : (w == get_or values j 0) ≡ false = grind (arith, nat_tests) in
          let first : (0 == suc j) ≡ false = grind (arith, nat_tests) in
          rw test (differs ∙ sym first)
      | inr apart ↦ let test : (u == w) ≡ false = grind (arith, nat_tests) in
          let rest = value_at_place values (u + 1) e w j rises.2 (omega (arith, within)) in
          let next : (place_of values w + 1 == suc j) ≡ (place_of values w == j) = grind (arith, nat_tests) in
          rw test (rest ∙ sym next)
    ]
  where
    rises_least : (values : List ℕ) (a e j : ℕ) → RisesFrom a e values → j < length values → a ≤ get_or values j 0
    rises_least [] a e j rises within = absurd (omega (arith, within))
    rises_least (u ∷ values) a e zero rises within = rises.0
    rises_least (u ∷ values) a e (suc j) rises within =
        let rest = rises_least values (u + 1) e j rises.2 (omega (arith, within)) in
        omega (arith, rest, rises.0)

pub digit_below : (values : List ℕ) (v d : ℕ) → digit_of values v ≡ Some d → d < length values
digit_below values v d is =
    elim (cases_Bool (nat_lt (place_of values v) (length values))) [
      | inl within ↦
          let here : Some (place_of values v) ≡ Some d = sym (rw within refl) ∙ is in
          let place : place_of values v ≡ d = cc in
          let less : place_of values v < length values = grind (arith, nat_tests) in
          omega (arith, less, place)
      | inr past ↦ let none : None ≡ Some d = sym (ap (λ b. if b then Some (place_of values v) else None) past) ∙ is in absurd (cc)
    ]

pub cell_digits : (values : ℕ → List ℕ) (cells : List (Option ℕ)) → AreDigits values (cell_digit values cells)
cell_digits values cells p d is = by_cell (get_or cells p None) is
  where
    by_cell : (cell : Option ℕ) → option_and_then (digit_of (values p)) cell ≡ Some d → d < length (values p)
    by_cell None is = absurd (cc)
    by_cell (Some v) is = digit_below (values p) v d is

pub with_digits : (values : ℕ → List ℕ) (digits : ℕ → Option ℕ) (column c : ℕ) → AreDigits values digits → c < length (values column)
    → AreDigits values (with_digit digits column c)
with_digits values digits column c below own p d is =
    elim (cases_eq p column) [
      | inl here ↦
          let test : (p == column) ≡ true = grind (arith, nat_tests) in
          let given : Some c ≡ Some d = sym (ap (λ b. if b then Some c else digits p) test) ∙ is in
          let same : c ≡ d = cc in
          subst (λ q. d < length (values q)) (sym here) (omega (arith, own, same))
      | inr apart ↦
          let test : (p == column) ≡ false = grind (arith, nat_tests) in
          below p d (sym (ap (λ b. if b then Some c else digits p) test) ∙ is)
    ]

-- the parts of a number with one more digit
pub record Joins (o : Option ℕ) (w : ℕ) (r : Option ℕ) (n : ℕ) : Type 0 where
  pub digit : ℕ
  pub rest : ℕ
  pub first : o ≡ Some digit
  pub later : r ≡ Some rest
  pub sum : n ≡ digit * w + rest

pub joins : (o : Option ℕ) (w : ℕ) (r : Option ℕ) (n : ℕ) → joined o w r ≡ Some n → Joins o w r n
joins None w r n is = absurd (cc)
joins (Some d) w None n is = absurd (cc)
joins (Some d) w (Some k) n is = let same : d * w + k ≡ n = cc in record { digit = d; rest = k; first = refl; later = refl; sum = sym same }

one_digit_more : (d w n len : ℕ) → n < w → d < len → d * w + n < len * w
one_digit_more d w n len less below = grind arith

-- a number is below the number of choices
pub number_below : (values : ℕ → List ℕ) (digits : ℕ → Option ℕ) (set : List ℕ) (n : ℕ) → AreDigits values digits → number_of values digits set ≡ Some n
    → n < ways values set
number_below values digits [] n below is = let none : 0 ≡ n = cc in omega (arith, none)
number_below values digits (p ∷ set) n below is =
    let parts = joins (digits p) (ways values set) (number_of values digits set) n is in
    let rest = number_below values digits set parts.rest below parts.later in
    let more = one_digit_more parts.digit (ways values set) parts.rest (length (values p)) rest (below p parts.digit parts.first) in
    omega (arith, more, parts.sum)

-- two numbers are equal exactly if their first digits and the rests are
pub digit_test : (a b w n r : ℕ) → n < w → r < w → (a * w + n == b * w + r) ≡ ((a == b) && (n == r))
digit_test a b w n r first second =
    elim (cases_eq a b) [
      | inl here ↦
          let test : (a == b) ≡ true = grind (arith, nat_tests) in
          rw test (subst (λ c. (a * w + n == c * w + r) ≡ (n == r)) here (eqb-add_left (a * w) n r))
      | inr apart ↦
          let test : (a == b) ≡ false = grind (arith, nat_tests) in
          rw test (ne_eqb (a * w + n) (b * w + r) (differ a b w n r first second apart))
    ]
  where
    above : (a b w n r : ℕ) → n < w → a < b → a * w + n ≡ b * w + r → ⊥
    above a b w n r first less same = let more = mul-add-le a b w less in omega (arith, first, more, same)

    differ : (a b w n r : ℕ) → n < w → r < w → (a ≡ b → ⊥) → a * w + n ≡ b * w + r → ⊥
    differ a b w n r first second apart same =
        elim (cases_lt a b) [
          | inl less ↦ above a b w n r first less same
          | inr least ↦ elim (cases_eq a b) [
            | inl here ↦ absurd (apart here)
            | inr other ↦ above b a w r n second (omega (arith, least, other)) (sym same)
          ]
        ]

-- the choice of values at a place
choice_at : (values : ℕ → List ℕ) (p : ℕ) (set : List ℕ) (j r : ℕ) → j < length (values p) → r < ways values set
    → get_or (value_lists values (p ∷ set)) (j * ways values set + r) [] ≡ get_or (values p) j 0 ∷ get_or (value_lists values set) r []
choice_at values p set j r first second =
    let lists = value_lists values set in
    let w = ways values set in
    let each : (v : ℕ) → length (map (λ rest. v ∷ rest) lists) ≡ w = λ v. length-map lists (λ rest. v ∷ rest) ∙ length-value_lists values set in
    let inside : r < length lists = omega (arith, second, length-value_lists values set) in
    let place = slice_get-pieces (λ v. map (λ rest. v ∷ rest) lists) w (values p) j r (j * w + r) (get_or (values p) j 0)
    (get_or (values p) j 0 ∷ get_or lists r []) each refl
    (slice_get-get_or (values p) j 0 first)
    (slice_get-map (λ rest. get_or (values p) j 0 ∷ rest) lists r ∙ ap (option_map (λ rest. get_or (values p) j 0 ∷ rest))
    (slice_get-get_or lists r [] inside)) in
    let within = slice_get_within (value_lists values (p ∷ set)) (j * w + r) (get_or (values p) j 0 ∷ get_or lists r []) place in
    let read : Some (get_or (value_lists values (p ∷ set)) (j * w + r) []) ≡ Some (get_or (values p) j 0 ∷ get_or lists r []) =
    sym (slice_get-get_or (value_lists values (p ∷ set)) (j * w + r) [] within) ∙ place in
    cc

-- one member more: its cell has the value of a digit, and the others give theirs
one_more : (values : List ℕ) (a e w j r : ℕ) (cell : Option ℕ) (number : Option ℕ) (others : Bool) → RisesFrom a e values → j < length values → r < w
    → ((n : ℕ) → number ≡ Some n → n < w) → others ≡ is_number number r
    → (is_value cell (get_or values j 0) && others) ≡ is_number (joined (option_and_then (digit_of values) cell) w number) (j * w + r)
one_more values a e w j r None number others rises within below few same = refl
one_more values a e w j r (Some v) number others rises within below few same =
    let own = value_at_place values a e v j rises within in
    elim (cases_Bool (nat_lt (place_of values v) (length values))) [
      | inl one ↦ ap (λ b. b && others) own ∙ by_number number few same
          ∙ ap (λ b. is_number (joined (if b then Some (place_of values v) else None) w number) (j * w + r)) (sym one)
      | inr none ↦
          let differs : (place_of values v == j) ≡ false = grind (arith, nat_tests) in
          ap (λ b. b && others) (own ∙ differs) ∙ ap (λ b. is_number (joined (if b then Some (place_of values v) else None) w number) (j * w + r)) (sym none)
    ]
  where
    by_number : (number : Option ℕ) → ((n : ℕ) → number ≡ Some n → n < w) → others ≡ is_number number r
        → ((place_of values v == j) && others) ≡ is_number (joined (Some (place_of values v)) w number) (j * w + r)
    by_number None few same = ap (λ b. (place_of values v == j) && b) same ∙ and_right (place_of values v == j) false refl
    by_number (Some n) few same = ap (λ b. (place_of values v == j) && b) same ∙ sym (digit_test (place_of values v) j w n r (few n refl) below)

-- cells give the values of the choice at a place exactly if it is the number of their digits
pub gives_at : (values : ℕ → List ℕ) (cells : List (Option ℕ)) (set : List ℕ) (k : ℕ) → ((p : ℕ) → (e : ℕ) × RisesFrom 0 e (values p)) → k < ways values set
    → gives_values cells set (get_or (value_lists values set) k []) ≡ is_number (number_of values (cell_digit values cells) set) k
gives_at values cells [] k rises below = let first : (0 == k) ≡ true = grind (arith, nat_tests) in sym first
gives_at values cells (p ∷ set) k rises below =
    let w = ways values set in
    let some : 0 < w = positive (length (values p)) w k below in
    let j = k / w in
    let r = k % w in
    let at : k ≡ j * w + r = grind arith in
    let second : r < w = omega (arith, some) in
    let first : j < length (values p) = quotient_below (length (values p)) w j r k at below in
    let rest = gives_at values cells set r rises second in
    ap (λ i. gives_values cells (p ∷ set) (get_or (value_lists values (p ∷ set)) i [])) at
    ∙ ap (gives_values cells (p ∷ set)) (choice_at values p set j r first second)
    ∙ one_more (values p) 0 (rises p).0 w j r (get_or cells p None) (number_of values (cell_digit values cells) set)
    (gives_values cells set (get_or (value_lists values set) r []))
    (rises p).1 first second (λ n is. number_below values (cell_digit values cells) set n (cell_digits values cells) is) rest
    ∙ ap (is_number (number_of values (cell_digit values cells) (p ∷ set))) (sym at)
  where
    positive : (n w k : ℕ) → k < n * w → 0 < w
    positive n zero k below = absurd (grind (arith, below))
    positive n (suc w) k below = omega arith

    quotient_below : (n w j r k : ℕ) → k ≡ j * w + r → k < n * w → j < n
    quotient_below n w j r k at below =
        elim (cases_lt j n) [
          | inl less ↦ less
          | inr least ↦ let more = most n j w least in absurd (omega (arith, at, below, more))
        ]
      where
        most : (n j w : ℕ) → n ≤ j → n * w ≤ j * w
        most n j w le = mul-le-mul_right w le

-- digits that agree make the same number
pub same_number : (values : ℕ → List ℕ) (f g : ℕ → Option ℕ) (set : List ℕ) → ((p : ℕ) → f p ≡ g p) → number_of values f set ≡ number_of values g set
same_number values f g [] same = refl
same_number values f g (p ∷ set) same =
    ap (λ o. joined o (ways values set) (number_of values f set)) (same p) ∙ ap (joined (g p) (ways values set)) (same_number values f g set same)

-- the digit of a column that is no member says nothing
absent_number : (values : ℕ → List ℕ) (digits : ℕ → Option ℕ) (column a e : ℕ) (c d : ℕ) (set : List ℕ) → RisesFrom a e set → column < a
    → number_of values (with_digit digits column c) set ≡ number_of values (with_digit digits column d) set
absent_number values digits column a e c d [] rises below = refl
absent_number values digits column a e c d (p ∷ set) rises below =
    let test = above_test p column (omega (arith, rises.0, below)) in
    let own : with_digit digits column c p ≡ with_digit digits column d p = rw test refl in
    ap (λ o. joined o (ways values set) (number_of values (with_digit digits column c) set)) own
    ∙ ap (joined (with_digit digits column d p) (ways values set))
    (absent_number values digits column (p + 1) e c d set rises.2 (omega (arith, rises.0, below)))

-- from one digit of a column to another the number grows by steps
pub stepped_number : (values : ℕ → List ℕ) (digits : ℕ → Option ℕ) (column a e d : ℕ) (set : List ℕ) → RisesFrom a e set
    → number_of values (with_digit digits column d) set ≡ option_map (λ n. n + d * step_of values column set)
    (number_of values (with_digit digits column 0) set)
stepped_number values digits column a e d [] rises = let none : 0 ≡ 0 + d * 0 = grind arith in ap Some none
stepped_number values digits column a e d (p ∷ set) rises =
    let w = ways values set in
    elim (cases_eq p column) [
      | inl here ↦
          let test : (p == column) ≡ true = grind (arith, nat_tests) in
          rw test (ap (joined (Some d) w) (absent_number values digits column (p + 1) e d 0 set rises.2 (omega (arith, here)))
          ∙ first (number_of values (with_digit digits column 0) set) w)
      | inr apart ↦
          let test : (p == column) ≡ false = grind (arith, nat_tests) in
          rw test (ap (joined (digits p) w) (stepped_number values digits column (p + 1) e d set rises.2)
          ∙ later (digits p) w (step_of values column set) (number_of values (with_digit digits column 0) set))
    ]
  where
    first : (number : Option ℕ) (w : ℕ) → joined (Some d) w number ≡ option_map (λ n. n + d * w) (joined (Some 0) w number)
    first None w = refl
    first (Some n) w = let sum : d * w + n ≡ 0 * w + n + d * w = grind arith in ap Some sum

    later : (digit : Option ℕ) (w step : ℕ) (number : Option ℕ) → joined digit w (option_map (λ n. n + d * step) number) ≡ option_map (λ n. n + d * step)
        (joined digit w number)
    later None w step number = refl
    later (Some c) w step None = refl
    later (Some c) w step (Some n) = let sum : c * w + (n + d * step) ≡ c * w + n + d * step = grind arith in ap Some sum

-- a digit without a number after it is none
pub joined-None : (digit : Option ℕ) (w : ℕ) → joined digit w None ≡ None
joined-None None w = refl
joined-None (Some d) w = refl

-- the choices for the members from a given place on are no more than those for all members
pub fewer_ways : (values : ℕ → List ℕ) (i : ℕ) (set : List ℕ) → 0 < ways values set → ways values (drop i set) ≤ ways values set
fewer_ways values zero set some = omega arith
fewer_ways values (suc i) [] some = omega arith
fewer_ways values (suc i) (p ∷ set) some =
    let later : 0 < ways values set = pos_right_of_mul (length (values p)) (ways values set) some in
    let rest = fewer_ways values i set later in
    let one : 0 < length (values p) = pos_left_of_mul (length (values p)) (ways values set) some in
    let most = mul-le-mul_right (ways values set) one in
    omega (arith, rest, most)
