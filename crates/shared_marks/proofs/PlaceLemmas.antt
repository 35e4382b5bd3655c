-- The places of the demanded tuples of a set, and which of them a row serves.
use Rattle.std.proofs.Common.{inl, inr, ◌≡◌, ℕ, ◌+◌, ◌-◌, ◌<◌, ◌≤◌, Bool, true, false, ◌&&◌, ◌||◌, cond, ◌⊎◌, List, [], ◌∷◌, ◌++◌, map}
use Rattle.std.proofs.Common.{length, get_or, take, Option, Some, None, ◌∙◌, refl, sym, ap, arith, zero-add}
use Rattle.std.specs.Prelude.{IfSome, nat_le, nat_lt, slice_get, sum}
use Rattle.std.specs.List.{flat_map, range_with_len}
use Rattle.std.specs.Option.{option_map, option_map_or}
use Rattle.std.proofs.lemmas.Bool.{and_from, and_left, and_right, cases_eq, cases_lt, eq-eqb, le-leb, le-ltb, lt-leb, lt-ltb, ne_eqb}
use Rattle.std.proofs.Math.Bool.{or-false}
use Rattle.std.proofs.lemmas.Option.{slice_get-get_or, slice_get_past}
use Rattle.std.proofs.lemmas.List.{get_or-map, length-map, same_lists, take-map, take_all}
use Rattle.std.proofs.lemmas.List.FromFn.{get_or-map-range_with_len, length-map-range_with_len}
use Rattle.std.proofs.lemmas.List.Concat.{get_or-flat_map, length-flat_map}
use Rattle.std.proofs.lemmas.List.Elements.{filter-append}
use Rattle.std.proofs.lemmas.List.Folds.{length-flat_map-take, list_any-append}
use Rattle.std.proofs.lemmas.List.Sums.{sum-map, sum_by_more}
use Rattle.cov_model.specs.believed.Sound.{ModelView}
use Rattle.cov_model.specs.believed.Rows.{is_complete}
use Rattle.cov_model.specs.believed.Valid.{is_valid, serves}
use Rattle.definitions.specs.believed.Demand.{demanded_sets, demanded_tuples, tuples_of}
use Rattle.definitions.specs.believed.Figures.{is_served, tests_of}
use Rattle.tuple_index.specs.Plan.{plan_of, set_at}
use Rattle.shared_marks.specs.Served.{IsServedRank, PlacesAreRanks, base_of, is_rank, is_served_at, served_between}

-- the base of a set
base_is : (m : ModelView) (i : ℕ) → base_of m i ≡ length (flat_map (tuples_of m) (take i (demanded_sets m)))
base_is m i =
    ap sum (take-map (λ set. length (tuples_of m set)) i (demanded_sets m)) ∙ sum-map (λ set. length (tuples_of m set)) (take i (demanded_sets m))
    ∙ sym (length-flat_map (tuples_of m) (take i (demanded_sets m)))

-- the tuple at a place of a set
pub tuple_there : PlacesAreRanks
tuple_there m i rank within inside =
    let set = set_at (plan_of m) i in
    let room = length-flat_map-take (tuples_of m) (demanded_sets m) i [] within in
    let least = base_is m i in
    slice_get-get_or (demanded_tuples m) (base_of m i + rank) [] (omega (arith, room, least, inside))
    ∙ ap Some (ap (λ n. get_or (demanded_tuples m) (n + rank) []) least ∙ get_or-flat_map (tuples_of m) (demanded_sets m) i rank [] [] within inside)
    ∙ sym (slice_get-get_or (tuples_of m set) rank [] inside)

-- all places of a set are among all places
pub set_within : (m : ModelView) (i : ℕ) → i < length (demanded_sets m)
    → base_of m i + length (tuples_of m (set_at (plan_of m) i)) ≤ length (demanded_tuples m)
set_within m i within =
    let room = length-flat_map-take (tuples_of m) (demanded_sets m) i [] within in
    omega (arith, room, base_is m i)

-- it is one of all places
pub place_within : (m : ModelView) (i rank : ℕ) → i < length (demanded_sets m) → rank < length (tuples_of m (set_at (plan_of m) i))
    → base_of m i + rank < length (demanded_tuples m)
place_within m i rank within inside = omega (arith, set_within m i within, inside)

-- the base of the next set, and how many places there are
pub base_more : (m : ModelView) (i : ℕ) → i < length (demanded_sets m) → base_of m (i + 1) ≡ base_of m i + length (tuples_of m (set_at (plan_of m) i))
base_more m i within =
    sum_by_more (λ n. n) (plan_of m).sizes i 0 (rw (length-map (demanded_sets m) (λ set. length (tuples_of m set))) within)
    ∙ ap (λ n. base_of m i + n) (get_or-map (λ set. length (tuples_of m set)) (demanded_sets m) i [] 0 within)

pub all_places : (m : ModelView) → sum (plan_of m).sizes ≡ length (demanded_tuples m)
all_places m = sum-map (λ set. length (tuples_of m set)) (demanded_sets m) ∙ sym (length-flat_map (tuples_of m) (demanded_sets m))

pub base_end : (m : ModelView) (i : ℕ) → length (demanded_sets m) ≤ i → base_of m i ≡ length (demanded_tuples m)
base_end m i past =
    ap sum (take_all i (plan_of m).sizes (rw (length-map (demanded_sets m) (λ set. length (tuples_of m set))) past)) ∙ all_places m

-- a test serves a tuple among the tests of the rows
pub one_row : (m : ModelView) (row tuple : List (Option ℕ)) → (is_complete row && is_valid m row) ≡ true
    → is_served m (tests_of m (row ∷ [])) tuple ≡ serves m row tuple
one_row m row tuple test =
    ap (λ b. is_served m (cond b (row ∷ []) []) tuple) test ∙ or-false (serves m row tuple)

-- a rank behind a base
shifted : (base rank : ℕ) (found : Option ℕ) → is_rank (option_map (λ k. base + k) found) (base + rank) ≡ is_rank found rank
shifted base rank None = refl
shifted base rank (Some k) = elim (cases_eq k rank) [
  | inl same ↦ eq-eqb (base + k) (base + rank) (ap (λ n. base + n) same) ∙ sym (eq-eqb k rank same)
  | inr apart ↦ ne_eqb (base + k) (base + rank) (λ same. apart (omega (arith, same))) ∙ sym (ne_eqb k rank apart)
]

elsewhere : (base size place : ℕ) (found : Option ℕ) → IfSome found (λ rank. rank < size) → (place < base) ⊎ (base + size ≤ place)
    → is_rank (option_map (λ k. base + k) found) place ≡ false
elsewhere base size place None within outside = refl
elsewhere base size place (Some k) within (inl before) = ne_eqb (base + k) place (λ same. omega (arith, same, before))
elsewhere base size place (Some k) within (inr past) = ne_eqb (base + k) place (λ same. omega (arith, same, past, within))

-- of the places of a set it is the one of its rank
pub between_is : (m : ModelView) (row : List (Option ℕ)) (i : ℕ) (found : Option ℕ) → (is_complete row && is_valid m row) ≡ true
    → i < length (demanded_sets m) → IsServedRank m (set_at (plan_of m) i) row found → (place : ℕ)
    → served_between m (row ∷ []) (base_of m i) (base_of m i + length (tuples_of m (set_at (plan_of m) i))) place
    ≡ is_rank (option_map (λ rank. base_of m i + rank) found) place
between_is m row i found test within is place =
    elim (cases_lt place base) [
      | inl before ↦
          and_left (nat_le base place && nat_lt place (base + size)) here (and_left (nat_le base place) (nat_lt place (base + size)) (lt-leb base place before))
          ∙ sym (elsewhere base size place found is.within (inl before))
      | inr from ↦
          elim (cases_lt place (base + size)) [
            | inl inside ↦ ap (λ b. b && here) (and_from (nat_le base place) (nat_lt place (base + size)) (le-leb base place from) (lt-ltb place (base + size) inside)) ∙ served from inside
            | inr past ↦
                and_left (nat_le base place && nat_lt place (base + size)) here
                (and_right (nat_le base place) (nat_lt place (base + size)) (le-ltb place (base + size) past))
                ∙ sym (elsewhere base size place found is.within (inr past))
          ]
    ]
  where
    base : ℕ
    base = base_of m i

    tuples : List (List (Option ℕ))
    tuples = tuples_of m (set_at (plan_of m) i)

    size : ℕ
    size = length tuples

    here : Bool
    here = is_served_at m (row ∷ []) place

    served : base ≤ place → place < base + size → here ≡ is_rank (option_map (λ rank. base + rank) found) place
    served from inside =
        let rank = place - base in
        let own : place ≡ base + rank = omega (arith, from) in
        let least : rank < size = omega (arith, from, inside) in
        let tuple = get_or tuples rank [] in
        let there : slice_get (demanded_tuples m) place ≡ Some tuple =
        ap (slice_get (demanded_tuples m)) own ∙ tuple_there m i rank within least ∙ slice_get-get_or tuples rank [] least in
        ap (λ (t : Option (List (Option ℕ))). option_map_or (is_served m (tests_of m (row ∷ []))) t false) there
        ∙ one_row m row tuple test ∙ is.served rank tuple (slice_get-get_or tuples rank [] least)
        ∙ sym (ap (is_rank (option_map (λ k. base + k) found)) own ∙ shifted base rank found)

-- up to the next set
pub one_set : (m : ModelView) (row : List (Option ℕ)) (i : ℕ) (found : Option ℕ) → (is_complete row && is_valid m row) ≡ true
    → i < length (demanded_sets m) → IsServedRank m (set_at (plan_of m) i) row found → (place : ℕ)
    → served_between m (row ∷ []) (base_of m i) (base_of m (i + 1)) place ≡ is_rank (option_map (λ rank. base_of m i + rank) found) place
one_set m row i found test within is place =
    ap (λ end. served_between m (row ∷ []) (base_of m i) end place) (base_more m i within) ∙ between_is m row i found test within is place

-- places of a range are those up to one between, and those from there on
pub between_more : (m : ModelView) (rows : List (List (Option ℕ))) (from middle to place : ℕ) → from ≤ middle → middle ≤ to
    → (served_between m rows from middle place || served_between m rows middle to place) ≡ served_between m rows from to place
between_more m rows from middle to place first second =
    elim (cases_lt place middle) [
      | inl before ↦
          let low = lt-ltb place middle before in
          let high = lt-leb middle place before in
          let below = lt-ltb place to (omega (arith, before, second)) in
          rw (low, high, below) (or-false ((nat_le from place && true) && is_served_at m rows place))
      | inr past ↦
          let least = le-leb from place (omega (arith, past, first)) in
          let low = le-ltb place middle past in
          let high = le-leb middle place past in
          rw (least, low, high) refl
    ]

-- an empty range has no place
pub between_none : (m : ModelView) (rows : List (List (Option ℕ))) (at place : ℕ) → served_between m rows at at place ≡ false
between_none m rows at place =
    and_left (nat_le at place && nat_lt place at) (is_served_at m rows place)
    (elim (cases_lt place at) [
      | inl before ↦ and_left (nat_le at place) (nat_lt place at) (lt-leb at place before)
      | inr past ↦ and_right (nat_le at place) (nat_lt place at) (le-ltb place at past)
    ])

-- all places are those of the demanded tuples
pub between_all : (m : ModelView) (rows : List (List (Option ℕ))) (place : ℕ)
    → served_between m rows 0 (length (demanded_tuples m)) place ≡ is_served_at m rows place
between_all m rows place = elim (cases_lt place (length (demanded_tuples m))) [
  | inl within ↦
      ap (λ b. b && is_served_at m rows place)
      (and_from (nat_le 0 place) (nat_lt place (length (demanded_tuples m))) (le-leb 0 place (omega arith)) (lt-ltb place (length (demanded_tuples m)) within))
  | inr past ↦
      and_left (nat_le 0 place && nat_lt place (length (demanded_tuples m))) (is_served_at m rows place)
      (and_right (nat_le 0 place) (nat_lt place (length (demanded_tuples m))) (le-ltb place (length (demanded_tuples m)) past))
      ∙ sym (ap (λ (t : Option (List (Option ℕ))). option_map_or (is_served m (tests_of m rows)) t false)
      (slice_get_past (demanded_tuples m) place past))
]

-- what rows and further rows serve
pub served_append : (m : ModelView) (rows others : List (List (Option ℕ))) (place : ℕ)
    → (is_served_at m rows place || is_served_at m others place) ≡ is_served_at m (rows ++ others) place
served_append m rows others place = by_tuple (slice_get (demanded_tuples m) place)
  where
    by_tuple : (tuple : Option (List (Option ℕ)))
        → (option_map_or (is_served m (tests_of m rows)) tuple false || option_map_or (is_served m (tests_of m others)) tuple false)
        ≡ option_map_or (is_served m (tests_of m (rows ++ others))) tuple false
    by_tuple None = refl
    by_tuple (Some tuple) =
        sym (ap (λ tests. is_served m tests tuple) (filter-append (λ r. is_complete r && is_valid m r) rows others)
        ∙ list_any-append (λ r. serves m r tuple) (tests_of m rows) (tests_of m others))

-- without a test nothing is served
pub none_served : (m : ModelView) (rows : List (List (Option ℕ))) (place : ℕ) → tests_of m rows ≡ [] → is_served_at m rows place ≡ false
none_served m rows place none = by_tuple (slice_get (demanded_tuples m) place)
  where
    by_tuple : (tuple : Option (List (Option ℕ))) → option_map_or (is_served m (tests_of m rows)) tuple false ≡ false
    by_tuple None = refl
    by_tuple (Some tuple) = ap (λ tests. is_served m tests tuple) none

-- what the rows serve at all places
pub served_all : (m : ModelView) (rows : List (List (Option ℕ)))
    → map (is_served_at m rows) (range_with_len 0 (length (demanded_tuples m))) ≡ map (is_served m (tests_of m rows)) (demanded_tuples m)
served_all m rows =
    same_lists (map (is_served_at m rows) (range_with_len 0 count)) (map test tuples)
    (length-map-range_with_len (is_served_at m rows) 0 count ∙ sym (length-map tuples test)) (λ place other inside.
    let within : place < count = rw (length-map-range_with_len (is_served_at m rows) 0 count) at inside in
    get_or-map-range_with_len (is_served_at m rows) 0 count place place other within (zero-add place)
    ∙ ap (λ (t : Option (List (Option ℕ))). option_map_or test t false) (slice_get-get_or tuples place [] within)
    ∙ sym (get_or-map test tuples place [] other within))
  where
    tuples : List (List (Option ℕ))
    tuples = demanded_tuples m

    count : ℕ
    count = length tuples

    test : List (Option ℕ) → Bool
    test = is_served m (tests_of m rows)
