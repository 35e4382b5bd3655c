-- The served tuples of the sets in a slice, as marks, and the sums over the slices.
use Rattle.std.proofs.Common.{◌≡◌, ℕ, ◌+◌, ◌<◌, ◌≤◌, Bool, true, false, cond, List, [], ◌∷◌, ◌++◌, map, take, drop, length, get_or, sum_by, Option, refl, ◌∙◌, sym, ap, subst, arith, add_assoc}
use Rattle.std.specs.Prelude.{max, sum}
use Rattle.std.specs.List.{filter, flat_map, range_with_len}
use Rattle.std.proofs.lemmas.Grind.{flat_map-append}
use Rattle.std.proofs.lemmas.List.{append-nil, get_or-drop, get_or-map, get_or-take, length-drop, length-map, length-take-le, map-append, same_lists, take_all, take_more}
use Rattle.std.proofs.lemmas.List.Elements.{filter-append}
use Rattle.std.proofs.lemmas.List.Sums.{sum_by-append, sum_by-cons}
use Rattle.std.proofs.lemmas.Option.{get_or_from_slice_get, slice_get-get_or}
use Rattle.cov_model.specs.declared.slice.Slice.{Slice}
use Rattle.cov_model.specs.declared.slice.Slice.TheVariants.{Negative, Positive}
use Rattle.cov_model.specs.believed.Meaning.{value_at}
use Rattle.cov_model.specs.believed.Slices.{negative_values}
use Rattle.cov_model.specs.believed.Sound.{ModelView}
use Rattle.cov_model.specs.believed.Valid.{param_numbers}
use Rattle.definitions.specs.believed.Demand.{demanded_sets, demanded_tuples, tuples_in, tuples_of}
use Rattle.definitions.specs.believed.Figures.{is_served}
use Rattle.definitions.specs.SliceRows.{IsSliceOf}
use Rattle.shared_marks.specs.Served.{base_of}
use Rattle.shared_marks.proofs.PlaceLemmas.{place_within, set_within, tuple_there}
use Rattle.suite_shrink.specs.Coverage.{AreMarksOf}
use Rattle.shorter_suites.specs.believed.Bounds.{greatest, least_needed, most_served, served_in}
use Rattle.tuple_index.specs.Kept.{IsKept}
use Rattle.tuple_index.specs.Places.{has_part, start_of, ways_in}
use Rattle.tuple_index.specs.Plan.{PlanView, plan_of, set_at}
use Rattle.uncovered_table.proofs.ChoiceLemmas.{tuple_at_place}
use Rattle.uncovered_table.proofs.PartLemmas.{RanksKnown, ranks_known}
use Rattle.value_text.proofs.ListLemmas.{count_marks, range-more}

-- the marks of the tuples of a set in a slice stand one after another
part_marks : (m : ModelView) (test : List (Option ℕ) → Bool) (slice : Slice) (set first count : ℕ) → IsSliceOf m slice → set < length (demanded_sets m)
    → RanksKnown m slice set first count → first + count ≤ length (tuples_of m (set_at (plan_of m) set))
    → base_of m set + first + count ≤ length (demanded_tuples m)
    → take count (drop (base_of m set + first) (map test (demanded_tuples m))) ≡ map test (tuples_in m (set_at (plan_of m) set) slice)
part_marks m test slice set first count own within known inside room =
    same_lists (take count (drop from marks)) (map test tuples) (long ∙ known.many ∙ sym (length-map tuples test)) each
  where
    tuples : List (List (Option ℕ))
    tuples = tuples_in m (set_at (plan_of m) set) slice

    marks : List Bool
    marks = map test (demanded_tuples m)

    from : ℕ
    from = base_of m set + first

    long : length (take count (drop from marks)) ≡ count
    long = length-take-le count (drop from marks) (omega (arith, length-drop from marks, length-map (demanded_tuples m) test, room))

    each : (j : ℕ) (d : Bool) → j < length (take count (drop from marks)) → get_or (take count (drop from marks)) j d ≡ get_or (map test tuples) j d
    each j d below =
        let least : j < count = omega (arith, below, long) in
        let rank : first + j < length (tuples_of m (set_at (plan_of m) set)) = omega (arith, least, inside) in
        let place : from + j ≡ base_of m set + (first + j) = omega arith in
        let there = place_within m set (first + j) within rank in
        get_or-take count (drop from marks) j d least ∙ get_or-drop from marks j d
        ∙ ap (λ k. get_or marks k d) place
        ∙ get_or-map test (demanded_tuples m) (base_of m set + (first + j)) [] d there
        ∙ ap test (get_or_from_slice_get (demanded_tuples m) (base_of m set + (first + j)) (get_or (tuples_of m (set_at (plan_of m) set)) (first + j) []) []
        (tuple_there m set (first + j) within rank ∙ slice_get-get_or (tuples_of m (set_at (plan_of m) set)) (first + j) [] rank)
        ∙ ap (λ k. get_or (tuples_of m (set_at (plan_of m) set)) (k + j) []) (known.start (omega (arith, least)))
        ∙ tuple_at_place m slice set j own (omega (arith, least, known.many)))
        ∙ sym (get_or-map test tuples j [] d (omega (arith, least, known.many)))

-- as many of a set's marks in a slice are set as tuples are served
pub part_counted : (m : ModelView) (plan : PlanView) (marks : List Bool) (slice : Slice) (set base first count result : ℕ) → plan ≡ plan_of m → IsKept plan
    → IsSliceOf m slice → set < length plan.sets → base ≡ sum (take set plan.sizes) → count ≡ ways_in plan (set_at plan set) slice
    → (has_part (set_at plan set) slice ≡ true → first ≡ start_of plan (set_at plan set) slice) → first + count ≤ get_or plan.sizes set 0
    → result ≡ length (filter (λ mark. mark) (take count (drop (base + first) marks))) → (rows : List (List (Option ℕ))) → AreMarksOf m rows marks
    → result ≡ served_in m rows slice (set_at plan set)
part_counted m plan marks slice set base first count result planned kept own exists based many starts inside counted rows are =
    let within : set < length (demanded_sets m) = subst (λ (p : PlanView). set < length p.sets) planned exists in
    let known = ranks_known m slice plan set first count planned kept own within many starts in
    let at : base ≡ base_of m set = based ∙ ap (λ (p : PlanView). sum (take set p.sizes)) planned in
    let sized : get_or plan.sizes set 0 ≡ length (tuples_of m (set_at (plan_of m) set)) =
    ap (λ (p : PlanView). get_or p.sizes set 0) planned ∙ get_or-map (λ members. length (tuples_of m members)) (demanded_sets m) set [] 0 within in
    counted
    ∙ ap (λ (ms : List Bool). length (filter (λ mark. mark) (take count (drop (base + first) ms)))) are
    ∙ ap (λ k. length (filter (λ mark. mark) (take count (drop (k + first) (map (is_served m rows) (demanded_tuples m)))))) at
    ∙ ap (λ (ms : List Bool). length (filter (λ mark. mark) ms))
    (part_marks m (is_served m rows) slice set first count own within known (omega (arith, inside, sized))
    (omega (arith, inside, sized, set_within m set within)))
    ∙ count_marks (is_served m rows) (tuples_in m (set_at (plan_of m) set) slice)
    ∙ ap (λ (p : PlanView). served_in m rows slice (set_at p set)) (sym planned)

-- the greatest of some numbers and one more
greatest_push : (numbers : List ℕ) (n : ℕ) → greatest (numbers ++ n ∷ []) ≡ max (greatest numbers) n
greatest_push [] n = omega arith
greatest_push (k ∷ numbers) n = ap (max k) (greatest_push numbers n) ∙ omega arith

pub greatest_more : {X : Type 0} (f : X → ℕ) (items : List X) (i : ℕ) (d : X) → i < length items
    → greatest (map f (take (i + 1) items)) ≡ max (greatest (map f (take i items))) (f (get_or items i d))
greatest_more f items i d within =
    ap (λ xs. greatest (map f xs)) (take_more items i d within) ∙ ap greatest (map-append f (take i items) (get_or items i d ∷ []))
    ∙ greatest_push (map f (take i items)) (f (get_or items i d))

pub greatest_all : {X : Type 0} (f : X → ℕ) (items : List X) (i : ℕ) → length items ≤ i → greatest (map f (take i items)) ≡ greatest (map f items)
greatest_all f items i past = ap (λ xs. greatest (map f xs)) (take_all i items past)

-- the sum over the slices of a parameter's first values that are negative, so many
abbrev pub by_value : ModelView → List (List (Option ℕ)) → ℕ → ℕ → ℕ
by_value m rows p v = sum_by (most_served m rows) (map (λ w. Negative p w) (filter (λ w. (value_at m p w).negative) (range_with_len 0 v)))

value_step : (m : ModelView) (rows : List (List (Option ℕ))) (p v : ℕ)
    → by_value m rows p (v + 1) ≡ by_value m rows p v + sum_by (most_served m rows) (map (λ w. Negative p w) (cond (value_at m p v).negative (v ∷ []) []))
value_step m rows p v =
    let test : ℕ → Bool = λ w. (value_at m p w).negative in
    let first = filter test (range_with_len 0 v) in
    let last = filter test (v ∷ []) in
    ap (λ vs. sum_by (most_served m rows) (map (λ w. Negative p w) (filter test vs))) (range-more v)
    ∙ ap (λ vs. sum_by (most_served m rows) (map (λ w. Negative p w) vs)) (filter-append test (range_with_len 0 v) (v ∷ []))
    ∙ ap (sum_by (most_served m rows)) (map-append (λ w. Negative p w) first last)
    ∙ sum_by-append (most_served m rows) (map (λ w. Negative p w) first) (map (λ w. Negative p w) last)

pub value_more : (m : ModelView) (rows : List (List (Option ℕ))) (p v : ℕ)
    → by_value m rows p (v + 1) ≡ by_value m rows p v + cond (value_at m p v).negative (most_served m rows (Negative p v)) 0
value_more m rows p v = value_step m rows p v ∙ ap (λ n. by_value m rows p v + n) (one (value_at m p v).negative)
  where
    one : (b : Bool) → sum_by (most_served m rows) (map (λ w. Negative p w) (cond b (v ∷ []) [])) ≡ cond b (most_served m rows (Negative p v)) 0
    one true = sum_by-cons (most_served m rows) (Negative p v) [] ∙ plus (most_served m rows (Negative p v))
      where
        plus : (a : ℕ) → a + 0 ≡ a
        plus a = omega arith
    one false = refl

-- the sum over the slices of the negative values of a parameter, and of the first parameters, so many
abbrev pub by_param : ModelView → List (List (Option ℕ)) → ℕ → ℕ
by_param m rows p = sum_by (most_served m rows) (map (λ v. Negative p v) (negative_values m p))

abbrev pub by_params : ModelView → List (List (Option ℕ)) → ℕ → ℕ
by_params m rows p =
    most_served m rows Positive + sum_by (most_served m rows) (flat_map (λ q. map (λ v. Negative q v) (negative_values m q)) (range_with_len 0 p))

pub param_more : (m : ModelView) (rows : List (List (Option ℕ))) (p : ℕ) → by_params m rows (p + 1) ≡ by_params m rows p + by_param m rows p
param_more m rows p =
    let block : ℕ → List Slice = λ q. map (λ v. Negative q v) (negative_values m q) in
    let before = flat_map block (range_with_len 0 p) in
    ap (λ qs. most_served m rows Positive + sum_by (most_served m rows) (flat_map block qs)) (range-more p)
    ∙ ap (λ ss. most_served m rows Positive + sum_by (most_served m rows) ss)
    (flat_map-append block (range_with_len 0 p) (p ∷ []) ∙ ap (λ ss. before ++ ss) (append-nil (block p)))
    ∙ ap (λ n. most_served m rows Positive + n) (sum_by-append (most_served m rows) before (block p))
    ∙ sym (add_assoc (most_served m rows Positive) (sum_by (most_served m rows) before) (sum_by (most_served m rows) (block p)))

pub params_none : (m : ModelView) (rows : List (List (Option ℕ))) → by_params m rows 0 ≡ most_served m rows Positive
params_none m rows = omega arith

pub params_all : (m : ModelView) (rows : List (List (Option ℕ))) → by_params m rows (length m.params) ≡ least_needed m rows
params_all m rows =
    sym (sum_by-cons (most_served m rows) Positive (flat_map (λ q. map (λ v. Negative q v) (negative_values m q)) (param_numbers m)))
