-- The values at a place.
use Rattle.std.proofs.Common.{inl, inr, ◌≡◌, ℕ, zero, suc, ◌+◌, ◌*◌, ◌-◌, ◌/◌, ◌%◌, ◌^◌, ◌<◌, ◌≤◌, List, [], ◌∷◌, map, take}
use Rattle.std.proofs.Common.{drop, length, get_or, Some, sum_by, ◌∙◌, refl, sym, subst, ap, arith}
use Rattle.std.specs.Prelude.{slice_get, slice_set}
use Rattle.std.specs.Option.{option_map}
use Rattle.std.specs.List.{flat_map}
use Rattle.std.proofs.lemmas.List.{at_drop_more, at_drop_all, drop_all, drop-set, take_all, take_more, length-map, length-set}
use Rattle.std.proofs.lemmas.List.Sums.{sum_by-cons}
use Rattle.std.proofs.lemmas.Option.{slice_get-map, slice_get-get_or}
use Rattle.std.proofs.Math.Nat.{mod-lt, div-add-mod, div-add-mod', div-lt_iff_lt-mul, div-eq_of_lt, mod-eq_of_lt}
use Rattle.std.proofs.lemmas.Bool.{cases_lt}
use Rattle.cov_model.specs.declared.slice.Slice.TheVariants.{Positive, Negative}
use Rattle.tuple_index.specs.Plan.{PlanView}
use Rattle.tuple_index.specs.Places.{values_in, negatives_of, value_lists, ways, negative_ways, negative_lists, tuple_lists, tuple_count}
use Rattle.tuple_index.specs.believed.PlanFault.{saturated}
use Rattle.tuple_index.proofs.PlaceLemmas.{length-value_lists, ways_append, slice_get-pieces, slice_get-append_left, slice_get-append_right}
use Rattle.tuple_index.proofs.RankLemmas.{length_negative, length-negative_lists}

-- a place, parted by a number of ways that is saturated up to the greatest of 64 bits
pub record Parts (r len w each : ℕ) : Type 0 where
  pub positive : 0 < each
  pub digit : r / each < len
  pub rest : r % each < w
  pub whole : r ≡ r / each * w + r % each

exact_parts : (r len w : ℕ) → r < len * w → Parts r len w w
exact_parts r len zero within = let none : len * 0 ≡ 0 = grind arith in absurd (omega (arith, within, none))
exact_parts r len (suc w) within =
    let some : 0 < suc w = omega arith in
    let whole = div-add-mod r (suc w) in
    let turned : r / suc w * suc w ≡ suc w * (r / suc w) = grind arith in
    record {
      positive = some;
      digit = (div-lt_iff_lt-mul some).1 within;
      rest = mod-lt r some;
      whole = omega (arith, whole, turned);
    }

pub parts : (r len w each : ℕ) → r < 2 ^ 26 → r < len * w → each ≡ saturated w → Parts r len w each
parts r len w each small within told_ways =
    elim (cases_lt (2 ^ 64 - 1) w) [
      | inr below ↦ let same : each ≡ w = omega (arith, told_ways, below) in
          subst (Parts r len w) (sym same) (exact_parts r len w within)
      | inl above ↦
          let less : r < each = omega (arith, told_ways, above, small) in
          let digit : r / each ≡ 0 = div-eq_of_lt less in
          let rest : r % each ≡ r = mod-eq_of_lt less in
          let some : 0 < len = some_of len within in
          record {
            positive = omega (arith, less);
            digit = omega (arith, digit, some);
            rest = omega (arith, rest, above, small);
            whole = rw (digit, rest) (grind arith);
          }
    ]
  where
    some_of : (len : ℕ) → r < len * w → 0 < len
    some_of zero h = let none : 0 * w ≡ 0 = grind arith in absurd (omega (arith, h, none))
    some_of (suc len) h = omega arith

-- what is known of the values put so far: those from i on are a choice at a place of their own, and what is left is the place of the values before
pub record PutFrom (values : ℕ → List ℕ) (members into : List ℕ) (i rest place : ℕ) : Type 0 where
  pub room : length into ≡ length members
  pub within : rest < ways values (take i members)
  pub own : ℕ
  pub whole : place ≡ rest * ways values (drop i members) + own
  pub holds : slice_get (value_lists values (drop i members)) own ≡ Some (drop i into)

pub put_first : (values : ℕ → List ℕ) (members into : List ℕ) (place : ℕ) → length into ≡ length members → place < ways values members
    → PutFrom values members into (length members) place place
put_first values members into place room within = record {
  room = room;
  within = subst (λ ms. place < ways values ms) (sym (take_all (length members) members (omega arith))) within;
  own = 0;
  whole = let one : ways values (drop (length members) members) ≡ 1 = at_drop_all (ways values) members (length members) (omega arith) in
      rw one (omega arith);
  holds = at_drop_all (λ ms. slice_get (value_lists values ms) 0) members (length members) (omega arith)
      ∙ ap Some (sym (drop_all (length members) into (omega (arith, room))));
}

-- one member more, from the last on: the place of its value, and what is left
pub record Digit (values : ℕ → List ℕ) (members into : List ℕ) (i rest place count : ℕ) : Type 0 where
  pub more : i < length members
  pub so_far : PutFrom values members into (i + 1) rest place
  pub some : 0 < count
  pub inside : rest % count < length (values (get_or members i 0))
  pub before : rest / count < ways values (take i members)

pub digit_of : (values : ℕ → List ℕ) (members into : List ℕ) (next rest place count : ℕ) → PutFrom values members into next rest place → 0 < next
    → next ≤ length members → count ≡ length (values (get_or members (next - 1) 0)) → Digit values members into (next - 1) rest place count
digit_of values members into next rest place count invariant left listed counted =
    let i = next - 1 in
    let same : next ≡ i + 1 = omega (arith, left) in
    let more : i < length members = omega (arith, left, listed) in
    let so_far = subst (λ k. PutFrom values members into k rest place) same invariant in
    let before = ways values (take i members) in
    let opened : ways values (take (i + 1) members) ≡ before * count =
    ap (ways values) (take_more members i 0 more) ∙ ways_append values (take i members) (get_or members i 0 ∷ [])
    ∙ ap (λ n. before * (n * 1)) (sym counted) ∙ grind arith in
    let within : rest < before * count = subst (λ n. rest < n) opened so_far.within in
    let some : 0 < count = some_of before count within in
    record {
      more = more;
      so_far = so_far;
      some = some;
      inside = subst (λ n. rest % count < n) counted (mod-lt rest some);
      before = (div-lt_iff_lt-mul some).1 within;
    }
  where
    some_of : (n count : ℕ) → rest < n * count → 0 < count
    some_of n zero h = let none : n * 0 ≡ 0 = grind arith in absurd (omega (arith, h, none))
    some_of n (suc count) h = omega arith

pub put_step : (values : ℕ → List ℕ) (members into : List ℕ) (i rest place count v : ℕ) → Digit values members into i rest place count
    → count ≡ length (values (get_or members i 0)) → slice_get (values (get_or members i 0)) (rest % count) ≡ Some v
    → PutFrom values members (slice_set into i v) i (rest / count) place
put_step values members into i rest place count v digit counted here =
    let so_far = digit.so_far in
    let w = ways values (drop (i + 1) members) in
    let opened : ways values (drop i members) ≡ count * w =
    at_drop_more (ways values) members i 0 digit.more ∙ ap (λ n. n * w) (sym counted) in
    let split : rest ≡ rest / count * count + rest % count = sym (div-add-mod' rest count) in
    let own = rest % count * w + so_far.own in
    let gathered : rest / count * (count * w) + own ≡ (rest / count * count + rest % count) * w + so_far.own = grind arith in
    record {
      room = length-set into i v ∙ so_far.room;
      within = digit.before;
      own = own;
      whole = so_far.whole ∙ ap (λ r. r * w + so_far.own) split ∙ sym gathered ∙ sym (ap (λ n. rest / count * n + own) opened);
      holds = at_drop_more (λ ms. slice_get (value_lists values ms) own) members i 0 digit.more
          ∙ slice_get-pieces (λ v. map (λ rest. v ∷ rest) (value_lists values (drop (i + 1) members))) w (values (get_or members i 0)) (rest % count) so_far.own
          own v (v ∷ drop (i + 1) into)
          (λ v. length-map (value_lists values (drop (i + 1) members)) (λ rest. v ∷ rest) ∙ length-value_lists values (drop (i + 1) members)) refl here
          (slice_get-map (λ rest. v ∷ rest) (value_lists values (drop (i + 1) members)) so_far.own ∙ ap (option_map (λ rest. v ∷ rest)) so_far.holds)
          ∙ ap Some (sym (drop-set into i v (omega (arith, so_far.room, digit.more))));
    }

pub put_end : (values : ℕ → List ℕ) (members into : List ℕ) (rest place : ℕ) → PutFrom values members into 0 rest place
    → slice_get (value_lists values members) place ≡ Some into
put_end values members into rest place so_far =
    let none : rest ≡ 0 = omega (arith, so_far.within) in
    let own : place ≡ so_far.own = so_far.whole ∙ ap (λ r. r * ways values members + so_far.own) none ∙ omega arith in
    ap (slice_get (value_lists values members)) own ∙ so_far.holds

-- the tuple at a place among those with a negative value of a member
pub negative_at : (plan : PlanView) (set : List ℕ) (q place each v : ℕ) → place < 2 ^ 26 → place < negative_ways plan set q
    → each ≡ saturated (ways (values_in plan (Negative q 0)) set)
    → v ≡ get_or (negatives_of plan q) (place / each) 0
    → (chosen : List ℕ) → slice_get (value_lists (values_in plan (Negative q v)) set) (place % each) ≡ Some chosen
    → slice_get (negative_lists plan set q) place ≡ Some chosen
negative_at plan set q place each v small within told_ways read chosen inner =
    let cut = parts place (length (negatives_of plan q)) (ways (values_in plan (Negative q 0)) set) each small within told_ways in
    slice_get-pieces (λ v. value_lists (values_in plan (Negative q v)) set) (ways (values_in plan (Negative q 0)) set) (negatives_of plan q) (place / each)
    (place % each) place v chosen
    (length_negative plan set q) cut.whole (slice_get-get_or (negatives_of plan q) (place / each) 0 cut.digit ∙ ap Some (sym read)) inner

-- what is known of a tuple that isn't in the slices so far: it is one with a negative value of a member from i on
pub record HeldFrom (plan : PlanView) (set : List ℕ) (i place rank : ℕ) : Type 0 where
  pub small : place < 2 ^ 26
  pub within : place < sum_by (negative_ways plan set) (drop i set)
  pub holds : (chosen : List ℕ) → slice_get (flat_map (negative_lists plan set) (drop i set)) place ≡ Some chosen → slice_get (tuple_lists plan set) rank
      ≡ Some chosen

pub held_first : (plan : PlanView) (set : List ℕ) (rank positive : ℕ) → rank < 2 ^ 26 → rank < tuple_count plan set
    → positive ≡ saturated (ways (values_in plan Positive) set)
    → positive ≤ rank → HeldFrom plan set 0 (rank - positive) rank
held_first plan set rank positive small within told_ways past =
    let exact : positive ≡ ways (values_in plan Positive) set = omega (arith, told_ways, past, small) in
    record {
      small = omega (arith, small);
      within = omega (arith, within, exact, past);
      holds = λ chosen there.
          slice_get-append_right (value_lists (values_in plan Positive) set) (flat_map (negative_lists plan set) set) rank (rank - positive)
          (omega (arith, length-value_lists (values_in plan Positive) set, exact, past)) ∙ there;
    }

pub held_here : (plan : PlanView) (set : List ℕ) (i place rank count : ℕ) → HeldFrom plan set i place rank → i < length set
    → count ≡ saturated (negative_ways plan set (get_or set i 0))
    → place < count → (chosen : List ℕ) → slice_get (negative_lists plan set (get_or set i 0)) place ≡ Some chosen → slice_get (tuple_lists plan set) rank
    ≡ Some chosen
held_here plan set i place rank count held more told_ways below chosen there =
    held.holds chosen (ap (λ ts. slice_get ts place) (at_drop_more (flat_map (negative_lists plan set)) set i 0 more)
    ∙ slice_get-append_left (negative_lists plan set (get_or set i 0)) (flat_map (negative_lists plan set) (drop (i + 1) set)) place chosen there)

pub held_step : (plan : PlanView) (set : List ℕ) (i place rank count : ℕ) → HeldFrom plan set i place rank → i < length set
    → count ≡ saturated (negative_ways plan set (get_or set i 0))
    → count ≤ place → HeldFrom plan set (i + 1) (place - count) rank
held_step plan set i place rank count held more told_ways past =
    let exact : count ≡ negative_ways plan set (get_or set i 0) = omega (arith, told_ways, past, held.small) in
    let opened : sum_by (negative_ways plan set) (drop i set) ≡ negative_ways plan set (get_or set i 0) + sum_by (negative_ways plan set) (drop (i + 1) set) =
    at_drop_more (sum_by (negative_ways plan set)) set i 0 more ∙ sum_by-cons (negative_ways plan set) (get_or set i 0) (drop (i + 1) set) in
    record {
      small = omega (arith, held.small);
      within = omega (arith, held.within, exact, opened, past);
      holds = λ chosen there.
          held.holds chosen (ap (λ ts. slice_get ts place) (at_drop_more (flat_map (negative_lists plan set)) set i 0 more)
          ∙ slice_get-append_right (negative_lists plan set (get_or set i 0)) (flat_map (negative_lists plan set) (drop (i + 1) set)) place (place - count)
          (omega (arith, length-negative_lists plan set (get_or set i 0), exact, past)) ∙ there);
    }

pub held_none : (plan : PlanView) (set : List ℕ) (i place rank : ℕ) → HeldFrom plan set i place rank → length set ≤ i → ⊥
held_none plan set i place rank held past =
    let none : sum_by (negative_ways plan set) (drop i set) ≡ 0 = at_drop_all (sum_by (negative_ways plan set)) set i past in
    omega (arith, held.within, none)
