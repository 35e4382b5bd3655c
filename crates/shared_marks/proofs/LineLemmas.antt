-- The places that lines of sets give.
use Rattle.std.proofs.Common.{◌≡◌, ℕ, ◌+◌, ◌-◌, ◌*◌, ◌^◌, ◌<◌, ◌≤◌, suc, true, ◌&&◌, ◌||◌, List, [], ◌∷◌, ◌++◌, map, take, drop, length, get_or, All, Option, Some, ◌∙◌, refl, sym, ap, subst, arith}
use Rattle.std.specs.Prelude.{nat_le, nat_lt, sum}
use Rattle.std.proofs.Math.Bool.{and-or_distrib_left}
use Rattle.std.proofs.lemmas.Bool.{and_right}
use Rattle.std.proofs.lemmas.List.{get_or-map, length-map, take-append-drop}
use Rattle.std.proofs.lemmas.List.Elements.{All-from_get_or, All-take}
use Rattle.value_text.proofs.ListLemmas.{pos_left_of_mul}
use Rattle.cov_model.specs.declared.slice.Slice.TheVariants.{Positive}
use Rattle.cov_model.specs.believed.Sound.{ModelView}
use Rattle.cov_model.specs.believed.Rows.{value_in}
use Rattle.cov_model.specs.believed.Slices.{positive_values, slice_of}
use Rattle.cov_model.specs.believed.Valid.{is_valid}
use Rattle.definitions.specs.believed.Demand.{demanded_sets, demanded_tuples, tuples_of}
use Rattle.tuple_index.specs.Kept.{IsKept}
use Rattle.tuple_index.specs.Places.{place, place_of, ways}
use Rattle.tuple_index.specs.Plan.{PlanView, plan_of, set_at}
use Rattle.tuple_index.proofs.LoopLemmas.{rises_within}
use Rattle.tuple_index.proofs.OrderLemmas.{demanded_rise}
use Rattle.tuple_index.proofs.PlaceLemmas.{ways_append}
use Rattle.shared_marks.specs.declared.open_sets.Line.{Line}
use Rattle.shared_marks.specs.TestColumns.{ArePlain, AreRanks, digit_in, place_in}
use Rattle.shared_marks.specs.Digits.{IsPlacing, own_slice}
use Rattle.shared_marks.specs.OpenSets.{IsLine, front}
use Rattle.shared_marks.specs.Adding.{are_behind}
use Rattle.shared_marks.specs.Served.{IsServedRank, base_of, is_served_at, served_between}
use Rattle.shared_marks.proofs.ColumnLemmas.{ArePlaced, PlainTest, plain_at, plain_slice, plain_test}
use Rattle.shared_marks.proofs.DigitLemmas.{IsJoined, OwnPlace, joined, own_place_of, placing_end, placing_within}
use Rattle.shared_marks.proofs.PlaceLemmas.{none_served, one_set, served_append, set_within}

place_append : (values : ℕ → List ℕ) (row : List (Option ℕ)) (xs ys : List ℕ) → place values (xs ++ ys) (map (value_in row) (xs ++ ys))
    ≡ place values xs (map (value_in row) xs) * ways values ys + place values ys (map (value_in row) ys)
place_append values row [] ys = omega arith
place_append values row (x ∷ xs) ys =
    ap (λ n. place_of (values x) (value_in row x) * n + place values (xs ++ ys) (map (value_in row) (xs ++ ys))) (ways_append values xs ys)
    ∙ ap (λ n. place_of (values x) (value_in row x) * (ways values xs * ways values ys) + n) (place_append values row xs ys)
    ∙ sums (place_of (values x) (value_in row x)) (ways values xs) (ways values ys) (place values xs (map (value_in row) xs)) (place values ys (map (value_in row) ys))
  where
    sums : (d w v p k : ℕ) → d * (w * v) + (p * v + k) ≡ (d * w + p) * v + k
    sums d w v p k = grind arith

-- the place of the first members
front_placing : (values : ℕ → List ℕ) (row : List (Option ℕ)) (set : List ℕ) (k number : ℕ)
    → number ≡ place values (take k set) (map (value_in row) (take k set)) → IsPlacing values row set k number
front_placing values row set k number is =
    ap (λ n. n * ways values (drop k set) + place values (drop k set) (map (value_in row) (drop k set))) is
    ∙ sym (place_append values row (take k set) (drop k set)) ∙ ap (λ ms. place values ms (map (value_in row) ms)) (take-append-drop k set)

members_exist : (m : ModelView) (i : ℕ) → i < length (demanded_sets m) → All (λ p. p < length m.params) (set_at (plan_of m) i)
members_exist m i within = rises_within (set_at (plan_of m) i) 0 (length m.params) (demanded_rise m i [] within)

-- the last member of a line exists
pub last_exists : (m : ModelView) (plan : PlanView) (line : Line) → plan ≡ plan_of m → IsLine plan line → line.last < length m.params
last_exists m plan line planned is =
    let line_is = subst (λ p. IsLine p line) planned is in
    let exists = members_exist m line.set line_is.there (length (set_at (plan_of m) line.set) - 1) 0 (omega (arith, line_is.some)) in
    omega (arith, exists, line_is.last)

own_of : (m : ModelView) (i : ℕ) (row : List (Option ℕ)) → IsKept (plan_of m) → i < length (demanded_sets m) → is_valid m row ≡ true
    → slice_of m row ≡ Positive → OwnPlace m i row (plan_of m) (set_at (plan_of m) i) Positive
own_of m i row kept within valid positive =
    own_place_of m (plan_of m) i row (set_at (plan_of m) i) Positive true refl within valid refl kept (sym positive) refl refl

-- the first members of its set make places
pub fronts_placed : (m : ModelView) (plan : PlanView) (tests : List (List (Option ℕ))) (line : Line) (members : List ℕ) → plan ≡ plan_of m → IsKept plan → ArePlain m tests
    → IsLine plan line → members ≡ front (set_at plan line.set) → ArePlaced m tests members
fronts_placed m plan tests line members planned kept plain line_is are =
    subst (ArePlaced m tests) (sym (are ∙ ap (λ p. front (set_at p line.set)) planned)) (record {
      exist = All-take (λ p. p < length m.params) k set (members_exist m line.set within);
      few = All-from_get_or (λ row. place_in m (take k set) row < 2 ^ 26) tests [] (λ at inside.
          let row = get_or tests at [] in
          let most = placing_within (own_slice m row) row set k (place_in m (take k set) row) (own at inside).some (front_placing (own_slice m row) row set k _ refl) in
          omega (arith, most, (own at inside).few));
      some = All-from_get_or (λ row. 0 < ways (own_slice m row) (take k set)) tests [] (λ at inside.
          let row = get_or tests at [] in
          pos_left_of_mul (ways (own_slice m row) (take k set)) (ways (own_slice m row) (drop k set))
          (subst (λ n. 0 < n) (ap (ways (own_slice m row)) (sym (take-append-drop k set)) ∙ ways_append (own_slice m row) (take k set) (drop k set)) (own at inside).some));
    })
  where
    set : List ℕ
    set = set_at (plan_of m) line.set

    k : ℕ
    k = length set - 1

    within : line.set < length (demanded_sets m)
    within = (subst (λ p. IsLine p line) planned line_is).there

    own : (at : ℕ) → at < length tests → OwnPlace m line.set (get_or tests at []) (plan_of m) set Positive
    own at inside =
        let test = plain_at m tests at plain inside in
        own_of m line.set (get_or tests at []) (subst IsKept planned kept) within test.valid test.positive

-- the rank that a line gives
pub record LineKnown (m : ModelView) (i : ℕ) (row : List (Option ℕ)) (number radix there : ℕ) : Type 0 where
  pub few : number * radix + there < 2 ^ 26
  pub is : IsServedRank m (set_at (plan_of m) i) row (Some (number * radix + there))

pub line_known : (m : ModelView) (plan : PlanView) (row : List (Option ℕ)) (line : Line) (number radix there : ℕ) → plan ≡ plan_of m → IsKept plan
    → PlainTest m row → IsLine plan line → number ≡ place_in m (front (set_at plan line.set)) row → radix ≡ length (positive_values m line.last)
    → there ≡ digit_in m line.last row → LineKnown m line.set row number radix there
line_known m plan row line number radix there planned kept plain is front_is many at =
    record {
      few = next.few;
      is = subst (λ rank. IsServedRank m set row (Some rank)) (sym end) own.is;
    }
  where
    set : List ℕ
    set = set_at (plan_of m) line.set

    k : ℕ
    k = length set - 1

    line_is : IsLine (plan_of m) line
    line_is = subst (λ p. IsLine p line) planned is

    own : OwnPlace m line.set row (plan_of m) set Positive
    own = own_of m line.set row (subst IsKept planned kept) line_is.there plain.valid plain.positive

    inside : k < length set
    inside = omega (arith, line_is.some)

    last : line.last ≡ get_or set k 0
    last = line_is.last

    whole_few : place (own_slice m row) set (map (value_in row) set) < 2 ^ 26
    whole_few = omega (arith, own.few)

    next : IsJoined m row set k number radix there
    next = joined m row set k 0 number radix there
        (many ∙ ap length (sym (plain_slice m row line.last plain (last_exists m plan line planned is))) ∙ ap (λ p. length (own_slice m row p)) last)
        (at ∙ ap (λ p. digit_in m p row) last) inside
        (front_placing (own_slice m row) row set k number (front_is ∙ ap (λ p. place_in m (front (set_at p line.set)) row) planned)) own.some whole_few

    end : number * radix + there ≡ 0 + place (own_slice m row) set (map (value_in row) set)
    end = let last = placing_end (own_slice m row) row set (k + 1) (number * radix + there) (omega (arith, inside)) next.placing in omega (arith, last)

base_of_line : (m : ModelView) (plan : PlanView) (line : Line) → plan ≡ plan_of m → IsLine plan line → line.base ≡ base_of m line.set
base_of_line m plan line planned is = is.base ∙ ap (λ p. sum (take line.set p.sizes)) planned

-- the rank of a test
pub line_at : (m : ModelView) (plan : PlanView) (tests : List (List (Option ℕ))) (line : Line) (fronts column : List ℕ) (radix at : ℕ) → plan ≡ plan_of m → IsKept plan
    → ArePlain m tests → IsLine plan line → fronts ≡ map (place_in m (front (set_at plan line.set))) tests → radix ≡ length (positive_values m line.last)
    → column ≡ map (digit_in m line.last) tests → at < length tests
    → LineKnown m line.set (get_or tests at []) (get_or fronts at 0) radix (get_or column at 0)
line_at m plan tests line fronts column radix at planned kept plain line_is are many column_is within =
    line_known m plan (get_or tests at []) line (get_or fronts at 0) radix (get_or column at 0) planned kept (plain_at m tests at plain within) line_is
    (ap (λ ns. get_or ns at 0) are ∙ get_or-map (place_in m (front (set_at plan line.set))) tests at [] 0 within) many
    (ap (λ ns. get_or ns at 0) column_is ∙ get_or-map (digit_in m line.last) tests at [] 0 within)

-- the ranks of all tests
pub ranks_known : (m : ModelView) (plan : PlanView) (tests : List (List (Option ℕ))) (line : Line) (fronts column ranks : List ℕ) (radix : ℕ) → plan ≡ plan_of m → IsKept plan
    → ArePlain m tests → IsLine plan line → fronts ≡ map (place_in m (front (set_at plan line.set))) tests → radix ≡ length (positive_values m line.last)
    → column ≡ map (digit_in m line.last) tests → length ranks ≡ length fronts
    → ((at : ℕ) → at < length fronts → get_or ranks at 0 ≡ get_or fronts at 0 * radix + get_or column at 0)
    → AreRanks m (set_at (plan_of m) line.set) tests ranks
ranks_known m plan tests line fronts column ranks radix planned kept plain line_is are many column_is long each = record {
  long = long ∙ as_long;
  each = λ at within.
      subst (λ rank. IsServedRank m (set_at (plan_of m) line.set) (get_or tests at []) (Some rank)) (sym (each at (omega (arith, within, as_long))))
      (line_at m plan tests line fronts column radix at planned kept plain line_is are many column_is within).is;
}
  where
    as_long : length fronts ≡ length tests
    as_long = ap length are ∙ length-map tests (place_in m (front (set_at plan line.set)))

-- they are ranks of the set
pub ranks_within : (m : ModelView) (i size : ℕ) (tests : List (List (Option ℕ))) (ranks : List ℕ) → size ≡ length (tuples_of m (set_at (plan_of m) i))
    → AreRanks m (set_at (plan_of m) i) tests ranks → All (λ rank. rank < size) ranks
ranks_within m i size tests ranks many are =
    All-from_get_or (λ rank. rank < size) ranks 0 (λ at within. omega (arith, (are.each at (omega (arith, within, are.long))).within, many))

-- the size of the set of a line, and its base
pub line_size : (m : ModelView) (plan : PlanView) (line : Line) (size : ℕ) → plan ≡ plan_of m → IsLine plan line → size ≡ get_or plan.sizes line.set 0
    → size ≡ length (tuples_of m (set_at (plan_of m) line.set))
line_size m plan line size planned is many =
    many ∙ ap (λ (p : PlanView). get_or p.sizes line.set 0) planned
    ∙ get_or-map (λ set. length (tuples_of m set)) (demanded_sets m) line.set [] 0 (subst (λ p. IsLine p line) planned is).there

pub line_within : (m : ModelView) (plan : PlanView) (line : Line) (size : ℕ) → plan ≡ plan_of m → IsLine plan line → size ≡ get_or plan.sizes line.set 0
    → line.base + size ≤ length (demanded_tuples m)
line_within m plan line size planned is many =
    let there = (subst (λ p. IsLine p line) planned is).there in
    omega (arith, set_within m line.set there, line_size m plan line size planned is many, base_of_line m plan line planned is)

-- the places of these ranks are those that the tests serve
ranks_serve : (m : ModelView) (i place : ℕ) (tests : List (List (Option ℕ))) (ranks : List ℕ) → i < length (demanded_sets m) → ArePlain m tests
    → AreRanks m (set_at (plan_of m) i) tests ranks → are_behind (base_of m i) ranks place ≡ served_between m tests (base_of m i) (base_of m (i + 1)) place
ranks_serve m i place [] [] there plain are =
    sym (and_right (nat_le (base_of m i) place && nat_lt place (base_of m (i + 1))) (is_served_at m [] place) (none_served m [] place refl))
ranks_serve m i place [] (rank ∷ ranks) there plain are = absurd (omega (arith, are.long))
ranks_serve m i place (row ∷ rows) [] there plain are = absurd (omega (arith, are.long))
ranks_serve m i place (row ∷ rows) (rank ∷ ranks) there plain are =
    ap (λ t. t || are_behind (base_of m i) ranks place)
    (sym (one_set m row i (Some rank) (plain_test m row (plain 0 [] (omega arith))).test there (are.each 0 (omega arith)) place))
    ∙ ap (λ t. served_between m (row ∷ []) (base_of m i) (base_of m (i + 1)) place || t)
    (ranks_serve m i place rows ranks there (λ at d within. plain (suc at) d (omega (arith, within)))
    (record { long = omega (arith, are.long); each = λ at within. are.each (suc at) (omega (arith, within)) }))
    ∙ sym (and-or_distrib_left (nat_le (base_of m i) place && nat_lt place (base_of m (i + 1))) (is_served_at m (row ∷ []) place) (is_served_at m rows place))
    ∙ ap (λ t. (nat_le (base_of m i) place && nat_lt place (base_of m (i + 1))) && t) (served_append m (row ∷ []) rows place)

pub line_serves : (m : ModelView) (plan : PlanView) (tests : List (List (Option ℕ))) (line : Line) (ranks : List ℕ) → plan ≡ plan_of m → ArePlain m tests → IsLine plan line
    → AreRanks m (set_at (plan_of m) line.set) tests ranks → (place : ℕ)
    → are_behind line.base ranks place ≡ served_between m tests (base_of m line.set) (base_of m (line.set + 1)) place
line_serves m plan tests line ranks planned plain line_is are place =
    ap (λ base. are_behind base ranks place) (base_of_line m plan line planned line_is)
    ∙ ranks_serve m line.set place tests ranks (subst (λ p. IsLine p line) planned line_is).there plain are
