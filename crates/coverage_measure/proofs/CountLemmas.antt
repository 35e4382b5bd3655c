-- Counts over items one after another: of a parameter's values, of its negative values, and of a set's members.
use Rattle.std.proofs.Common.{◌≡◌, ℕ, ◌+◌, ◌*◌, ◌^◌, ◌<◌, ◌≤◌, Bool, true, false, cond, List, [], ◌∷◌, ◌++◌, map, length, get_or, take, drop, find, sum_by, min}
use Rattle.std.proofs.Common.{Option, None, refl, ◌∙◌, sym, ap, subst, arith, length-append}
use Rattle.std.specs.Prelude.{◌==◌, sum}
use Rattle.std.specs.List.{filter, flat_map}
use Rattle.std.proofs.Math.Nat.{mul-add, mul-le-mul_left}
use Rattle.std.proofs.lemmas.Bool.{eq-eqb, or_left}
use Rattle.std.proofs.lemmas.List.{drop_more, get_or-map, get_or-take, get_or_default, length-take-le, take_all}
use Rattle.std.proofs.lemmas.List.Elements.{All-get_or}
use Rattle.std.proofs.lemmas.List.Folds.{flat_map-map}
use Rattle.std.proofs.lemmas.List.Sums.{get_or-le-sum_by, sum_by_more, sum_by_more_le}
use Rattle.cov_model.specs.declared.slice.Slice.{Slice}
use Rattle.cov_model.specs.declared.slice.Slice.TheVariants.{Negative, Positive}
use Rattle.cov_model.specs.believed.Meaning.{value_at}
use Rattle.cov_model.specs.believed.Sound.{ModelView}
use Rattle.cov_model.specs.believed.Slices.{negative_values, slice_values, value_numbers}
use Rattle.definitions.specs.declared.effort.Effort.{Effort}
use Rattle.definitions.specs.believed.Completion.{preferred_values}
use Rattle.cov_model.specs.believed.Rows.{with_value}
use Rattle.definitions.specs.believed.Demand.{demanded_sets, is_among, tuples_in, tuples_of}
use Rattle.definitions.specs.believed.Search.{Outcome, constrained_params, exceeds, question_cost}
use Rattle.definitions.proofs.Members.{of_among}
use Rattle.definitions.specs.SliceRows.{IsSliceOf}
use Rattle.definitions.proofs.Totals.{count_flat}
use Rattle.feasibility.specs.declared.answer.SearchFault.{SearchFault}
use Rattle.feasibility.specs.Ends.{EndsBy}
use Rattle.full_search.specs.Questions.{QuestionsView}
use Rattle.feasibility.proofs.Alike.{visit_alike}
use Rattle.feasibility.proofs.Nodes.{listed_at}
use Rattle.tuple_index.specs.Kept.{IsKept}
use Rattle.tuple_index.specs.Places.{RisesFrom}
use Rattle.tuple_index.specs.Plan.{PlanView, plan_of, set_at}
use Rattle.tuple_index.proofs.ListingLemmas.{flat_map_same}
use Rattle.tuple_index.proofs.OrderLemmas.{demanded_rise}
use Rattle.tuple_index.proofs.TupleLemmas.{tuples_by_member}
use Rattle.value_text.proofs.ListLemmas.{length-filter-le}
use Rattle.coverage_measure.specs.Asking.{IsBefore, IsFor, is_above, is_found, tally, with_values}
use Rattle.coverage_measure.specs.declared.asking.KeptQuestions.{KeptQuestions}
use Rattle.coverage_measure.proofs.EndLemmas.{ends_item, none_more}
use Rattle.coverage_measure.proofs.QuestionLemmas.{part_few}
use Rattle.coverage_measure.proofs.ValueLemmas.{before_more}
use Rattle.coverage_measure.proofs.StandsLemmas.{IsSameOnAlike, StandFor, ends_tried, none_stands, stand_for}

-- the plain cost of a question is above what one may cost
abbrev pub is_over : ModelView → List (List ℕ) → Effort → List (Option ℕ) → Bool
is_over m pref effort cells = exceeds effort (question_cost m pref cells)

-- the rows of so many of the items are counted, each row that passes for so many, and none of them costs more than it may
pub record IsCounted {X : Type 0} (passes above : List (Option ℕ) → Bool) (rows : X → List (List (Option ℕ))) (items : List X) (each i count : ℕ) : Type 0 where
  pub counted : count ≡ each * sum_by (λ x. tally passes (rows x)) (take i items)
  pub none : find above (flat_map rows (take i items)) ≡ None

-- one more item
pub counted_more : {X : Type 0} (passes above : List (Option ℕ) → Bool) (rows : X → List (List (Option ℕ))) (items : List X)
    (each i count inner next : ℕ) (x : X)
    → i < length items → x ≡ get_or items i x → IsCounted passes above rows items each i count → inner ≡ tally passes (rows x) → find above (rows x) ≡ None
    → next ≡ count + each * inner → IsCounted passes above rows items each (i + 1) next
counted_more passes above rows items each i count inner next x within is so_far inner_is none next_is = record {
  counted =
      next_is ∙ ap (λ n. n + each * inner) so_far.counted
      ∙ ap (λ n. each * sum_by (λ y. tally passes (rows y)) (take i items) + each * n) (inner_is ∙ ap (λ y. tally passes (rows y)) is)
      ∙ sym (mul-add each (sum_by (λ y. tally passes (rows y)) (take i items)) (tally passes (rows (get_or items i x))))
      ∙ ap (λ n. each * n) (sym (sum_by_more (λ y. tally passes (rows y)) items i x within));
  none = none_more above rows items i x within so_far.none (ap (λ y. find above (rows y)) (sym is) ∙ none);
}

-- which is no more than all have
pub counted_within : {X : Type 0} (passes above : List (Option ℕ) → Bool) (rows : X → List (List (Option ℕ))) (items : List X)
    (each i count inner most : ℕ) (x : X)
    → i < length items → x ≡ get_or items i x → IsCounted passes above rows items each i count → inner ≡ tally passes (rows x)
    → each * sum_by (λ y. tally passes (rows y)) items ≤ most → count + each * inner ≤ most
counted_within passes above rows items each i count inner most x within is so_far inner_is few =
    let sums : sum_by (λ y. tally passes (rows y)) (take i items) + tally passes (rows (get_or items i x)) ≤ sum_by (λ y. tally passes (rows y)) items =
    sum_by_more_le (λ y. tally passes (rows y)) items i x within in
    let times = mul-le-mul_left each sums in
    let parts = mul-add each (sum_by (λ y. tally passes (rows y)) (take i items)) (tally passes (rows (get_or items i x))) in
    let here : each * inner ≡ each * tally passes (rows (get_or items i x)) = ap (λ n. each * n) (inner_is ∙ ap (λ y. tally passes (rows y)) is) in
    omega (arith, times, parts, here, so_far.counted, few)

-- the rows of all items
pub counted_all : {X : Type 0} (passes above : List (Option ℕ) → Bool) (rows : X → List (List (Option ℕ))) (items : List X) (each i count : ℕ)
    → length items ≤ i → IsCounted passes above rows items each i count
    → (count ≡ each * sum_by (λ x. tally passes (rows x)) items) × (find above (flat_map rows items) ≡ None)
counted_all passes above rows items each i count past so_far =
    let all = take_all i items past in (
      so_far.counted ∙ ap (λ part. each * sum_by (λ x. tally passes (rows x)) part) all,
      ap (λ part. find above (flat_map rows part)) (sym all) ∙ so_far.none,
    )

-- each item for itself
pub sum_few : {X : Type 0} (passes : List (Option ℕ) → Bool) (rows : X → List (List (Option ℕ))) (items : List X)
    → (1 * sum_by (λ x. tally passes (rows x)) items ≡ tally passes (flat_map rows items)) × (tally passes (flat_map rows items) ≤ length (flat_map rows items))
sum_few passes rows items =
    let sums : ℕ = sum_by (λ x. tally passes (rows x)) items in
    let once : 1 * sums ≡ sums = omega arith in
    (once ∙ sym (count_flat passes rows items), length-filter-le passes (flat_map rows items))

-- what the cells lead to with a value of the member at a place, and then of those behind it
abbrev pub rows_with : ModelView → Slice → List ℕ → ℕ → List (Option ℕ) → ℕ → List (List (Option ℕ))
rows_with m slice members place cells v = with_values (slice_values m slice) (drop (place + 1) members) (with_value cells (get_or members place 0) v)

abbrev pub values_of : ModelView → Slice → List ℕ → ℕ → List ℕ
values_of m slice members place = get_or (slice_values m slice) (get_or members place 0) []

pub rows_split : (m : ModelView) (slice : Slice) (members : List ℕ) (place : ℕ) (cells : List (Option ℕ)) → place < length members
    → with_values (slice_values m slice) (drop place members) cells ≡ flat_map (rows_with m slice members place cells) (values_of m slice members place)
rows_split m slice members place cells within = ap (λ params. with_values (slice_values m slice) params cells) (drop_more members place 0 within)

-- the member at a place is the first of those from there on
pub before_here : (m : ModelView) (slice : Slice) (members : List ℕ) (place : ℕ) (cells : List (Option ℕ)) → place < length members
    → IsBefore m slice (drop place members) cells → IsBefore m slice (get_or members place 0 ∷ drop (place + 1) members) cells
before_here m slice members place cells within before = subst (λ params. IsBefore m slice params cells) (drop_more members place 0 within) before

-- and has no value yet
pub free_here : (m : ModelView) (slice : Slice) (members : List ℕ) (place : ℕ) (cells : List (Option ℕ)) → place < length members
    → IsBefore m slice (drop place members) cells → get_or cells (get_or members place 0) None ≡ None
free_here m slice members place cells within before =
    let p = get_or members place 0 in
    (before_here m slice members place cells within before).free p (or_left (p == p) (is_among (drop (place + 1) members) p) (eq-eqb p p refl))

-- the outcome of a search is the same on alike rows
found_alike : (m : ModelView) (pref : List (List ℕ)) (slice : Slice) → IsSameOnAlike m (is_found m pref slice)
found_alike m pref slice a b alike = ap (λ (o : Outcome). o.found) (visit_alike m (preferred_values m pref slice) (constrained_params m) a b alike)

above_alike : (m : ModelView) (pref : List (List ℕ)) (slice : Slice) (effort : Effort) → IsSameOnAlike m (is_above m pref slice effort)
above_alike m pref slice effort a b alike =
    ap (λ (o : Outcome). exceeds effort o.cost) (visit_alike m (preferred_values m pref slice) (constrained_params m) a b alike)

-- the first of a member's values are tried, each for so many
pub record AreTried (m : ModelView) (pref : List (List ℕ)) (slice : Slice) (effort : Effort) (members : List ℕ) (place : ℕ) (cells : List (Option ℕ))
    (tried each : ℕ) : Type 0 where
  pub found : StandFor (is_found m pref slice) (rows_with m slice members place cells) (values_of m slice members place) tried each
  pub above : StandFor (is_above m pref slice effort) (rows_with m slice members place cells) (values_of m slice members place) tried each

pub are_tried : (m : ModelView) (pref : List (List ℕ)) (slice : Slice) (effort : Effort) (members : List ℕ) (place : ℕ) (cells : List (Option ℕ)) (named : Bool)
    (tried each : ℕ)
    → get_or members place 0 < length m.params → is_among (constrained_params m) (get_or members place 0) ≡ named
    → tried ≡ cond named (length (values_of m slice members place)) (min (length (values_of m slice members place)) 1)
    → each ≡ cond named 1 (length (values_of m slice members place)) → AreTried m pref slice effort members place cells tried each
are_tried m pref slice effort members place cells named tried each within is tried_is each_is = record {
  found = stand_for m (is_found m pref slice) (slice_values m slice) (get_or members place 0) (drop (place + 1) members) cells named tried each
      (found_alike m pref slice) within is tried_is each_is;
  above = stand_for m (is_above m pref slice effort) (slice_values m slice) (get_or members place 0) (drop (place + 1) members) cells named tried each
      (above_alike m pref slice effort) within is tried_is each_is;
}

-- as they are kept with the questions
pub member_tried : (m : ModelView) (pref : List (List ℕ)) (effort : Effort) (one : KeptQuestions) (members : List ℕ) (place : ℕ) (cells : List (Option ℕ))
    (tried each : ℕ)
    → IsFor m pref effort one → get_or members place 0 < length m.params
    → tried ≡ cond (is_among (constrained_params one.questions.model) (get_or members place 0)) (length (get_or one.values (get_or members place 0) []))
    (min (length (get_or one.values (get_or members place 0) [])) 1)
    → each ≡ cond (is_among (constrained_params one.questions.model) (get_or members place 0)) 1 (length (get_or one.values (get_or members place 0) []))
    → AreTried m pref one.slice effort members place cells tried each
member_tried m pref effort one members place cells tried each is within tried_is each_is =
    let p = get_or members place 0 in
    let named : is_among (constrained_params one.questions.model) p ≡ is_among (constrained_params m) p =
    ap (λ (s : QuestionsView). is_among (constrained_params s.model) p) is.questions in
    let count : length (get_or one.values p []) ≡ length (values_of m one.slice members place) = ap (λ lists. length (get_or lists p [])) is.values in
    are_tried m pref one.slice effort members place cells (is_among (constrained_params m) p) tried each within refl
    (tried_is ∙ ap (λ b. cond b (length (get_or one.values p [])) (min (length (get_or one.values p [])) 1)) named
    ∙ ap (λ n. cond (is_among (constrained_params m) p) n (min n 1)) count)
    (each_is ∙ ap (λ b. cond b 1 (length (get_or one.values p []))) named ∙ ap (λ n. cond (is_among (constrained_params m) p) 1 n) count)

-- and these are for no more than all the rows
pub tried_few : (m : ModelView) (pref : List (List ℕ)) (slice : Slice) (effort : Effort) (members : List ℕ) (place : ℕ) (cells : List (Option ℕ)) (tried each : ℕ)
    → place < length members → AreTried m pref slice effort members place cells tried each
    → each * sum_by (λ v. tally (is_found m pref slice) (rows_with m slice members place cells v)) (take tried (values_of m slice members place))
    ≤ length (with_values (slice_values m slice) (drop place members) cells)
tried_few m pref slice effort members place cells tried each within are =
    let rows = rows_with m slice members place cells in
    let values = values_of m slice members place in
    omega (arith, are.found.whole, length-filter-le (is_found m pref slice) (flat_map rows values), ap length (rows_split m slice members place cells within))

-- those that are tried before a number of them are counted
abbrev pub IsCountedTo : ModelView → List (List ℕ) → Slice → Effort → List ℕ → ℕ → List (Option ℕ) → ℕ → ℕ → ℕ → ℕ → Type 0
IsCountedTo m pref slice effort members place cells tried each i count =
    IsCounted (is_found m pref slice) (is_above m pref slice effort) (rows_with m slice members place cells)
    (take tried (values_of m slice members place)) each i count

-- one that is tried is a value of the member
pub record IsTriedAt (m : ModelView) (slice : Slice) (members : List ℕ) (place tried i v : ℕ) : Type 0 where
  pub within : i < length (take tried (values_of m slice members place))
  pub is : v ≡ get_or (take tried (values_of m slice members place)) i v
  pub listed : is_among (values_of m slice members place) v ≡ true

pub tried_at : (m : ModelView) (slice : Slice) (members : List ℕ) (place tried i v : ℕ) → tried ≤ length (values_of m slice members place) → i < tried
    → v ≡ get_or (values_of m slice members place) i 0 → IsTriedAt m slice members place tried i v
tried_at m slice members place tried i v some below is =
    let values = values_of m slice members place in
    let inside : i < length values = omega (arith, some, below) in
    record {
      within = omega (arith, below, length-take-le tried values some);
      is = is ∙ get_or_default values i 0 v inside ∙ sym (get_or-take tried values i v below);
      listed = ap (is_among values) is ∙ listed_at values values i refl inside;
    }

-- with it, the next member is asked, of no more rows
pub before_next : (m : ModelView) (slice : Slice) (members : List ℕ) (place tried i v : ℕ) (cells : List (Option ℕ)) → IsSliceOf m slice
    → place < length members
    → IsBefore m slice (drop place members) cells → IsTriedAt m slice members place tried i v
    → IsBefore m slice (drop (place + 1) members) (with_value cells (get_or members place 0) v)
before_next m slice members place tried i v cells own within before at =
    before_more m slice (get_or members place 0) (drop (place + 1) members) cells v own (before_here m slice members place cells within before) at.listed

pub next_few : (m : ModelView) (slice : Slice) (members : List ℕ) (place tried i v : ℕ) (cells : List (Option ℕ)) → place < length members
    → IsTriedAt m slice members place tried i v
    → length (rows_with m slice members place cells v) ≤ length (with_values (slice_values m slice) (drop place members) cells)
next_few m slice members place tried i v cells within at =
    omega (
      arith,
      part_few (rows_with m slice members place cells) (values_of m slice members place) v (of_among (values_of m slice members place) v at.listed),
      ap length (rows_split m slice members place cells within),
    )

-- a step of the loop over those that are tried: the questions, the cells and the values are the first ones, and the cells get the value
pub record IsStep (m : ModelView) (pref : List (List ℕ)) (slice : Slice) (effort : Effort) (members : List ℕ) (place : ℕ) (cells row : List (Option ℕ))
    (tried each i v : ℕ) : Type 0 where
  pub within : place < length members
  pub are : AreTried m pref slice effort members place cells tried each
  pub at : IsTriedAt m slice members place tried i v
  pub given : row ≡ with_value cells (get_or members place 0) v

pub is_step : (m : ModelView) (pref : List (List ℕ)) (effort : Effort) (one now : KeptQuestions) (members : List ℕ) (place : ℕ) (cells here row : List (Option ℕ))
    (values : List ℕ)
    (tried each i : ℕ) → IsFor m pref effort one → IsBefore m one.slice (drop place members) cells → place < length members
    → tried ≡ cond (is_among (constrained_params one.questions.model) (get_or members place 0)) (length (get_or one.values (get_or members place 0) []))
    (min (length (get_or one.values (get_or members place 0) [])) 1)
    → each ≡ cond (is_among (constrained_params one.questions.model) (get_or members place 0)) 1 (length (get_or one.values (get_or members place 0) []))
    → i < tried → now ≡ one → here ≡ cells → values ≡ get_or now.values (get_or members place 0) []
    → row ≡ with_value here (get_or members place 0) (get_or values i 0)
    → IsStep m pref one.slice effort members place cells row tried each i (get_or values i 0)
is_step m pref effort one now members place cells here row values tried each i is before within tried_is each_is below same_one same_cells values_are row_is =
    let p = get_or members place 0 in
    let are = member_tried m pref effort one members place cells tried each is (before_here m one.slice members place cells within before).rising.1 tried_is
    each_is in
    let all : values ≡ values_of m one.slice members place =
    values_are ∙ ap (λ (kept : KeptQuestions). get_or kept.values p []) same_one ∙ ap (λ lists. get_or lists p []) is.values in
    record {
      within = within;
      are = are;
      at = tried_at m one.slice members place tried i (get_or values i 0) are.found.some below (ap (λ list. get_or list i 0) all);
      given = row_is ∙ ap (λ start. with_value start p (get_or values i 0)) same_cells;
    }

-- what is asked then
pub step_asks : {A : Type 0} (told : Slice → List (List (Option ℕ)) → A) (m : ModelView) (one now : KeptQuestions) (members : List ℕ) (place : ℕ)
    (cells row : List (Option ℕ)) (v : ℕ)
    → now ≡ one → row ≡ with_value cells (get_or members place 0) v
    → told now.slice (with_values (slice_values m now.slice) (drop (place + 1) members) row) ≡ told one.slice (rows_with m one.slice members place cells v)
step_asks told m one now members place cells row v same row_is =
    ap (λ (kept : KeptQuestions). told kept.slice (with_values (slice_values m kept.slice) (drop (place + 1) members) row)) same
    ∙ ap (λ start. told one.slice (with_values (slice_values m one.slice) (drop (place + 1) members) start)) row_is

-- the count with it is no more than all the rows
pub step_few : (m : ModelView) (pref : List (List ℕ)) (slice : Slice) (effort : Effort) (members : List ℕ) (place : ℕ) (cells row : List (Option ℕ))
    (tried each i v count inner : ℕ)
    → IsStep m pref slice effort members place cells row tried each i v → IsCountedTo m pref slice effort members place cells tried each i count
    → inner ≡ tally (is_found m pref slice) (rows_with m slice members place cells v)
    → count + each * inner ≤ length (with_values (slice_values m slice) (drop place members) cells)
step_few m pref slice effort members place cells row tried each i v count inner step so_far inner_is =
    counted_within (is_found m pref slice) (is_above m pref slice effort) (rows_with m slice members place cells)
    (take tried (values_of m slice members place)) each i count inner
    (length (with_values (slice_values m slice) (drop place members) cells)) v step.at.within step.at.is so_far inner_is
    (tried_few m pref slice effort members place cells tried each step.within step.are)

-- all that are tried
pub record AreCounted (m : ModelView) (pref : List (List ℕ)) (slice : Slice) (effort : Effort) (params : List ℕ) (cells : List (Option ℕ)) (count : ℕ) : Type 0 where
  pub counted : count ≡ tally (is_found m pref slice) (with_values (slice_values m slice) params cells)
  pub none : find (is_above m pref slice effort) (with_values (slice_values m slice) params cells) ≡ None

pub tried_all : (m : ModelView) (pref : List (List ℕ)) (slice : Slice) (effort : Effort) (members : List ℕ) (place : ℕ) (cells : List (Option ℕ))
    (tried each i count : ℕ)
    → place < length members → tried ≤ i → AreTried m pref slice effort members place cells tried each
    → IsCountedTo m pref slice effort members place cells tried each i count → AreCounted m pref slice effort (drop place members) cells count
tried_all m pref slice effort members place cells tried each i count within past are so_far =
    let rows = rows_with m slice members place cells in
    let values = values_of m slice members place in
    let split = rows_split m slice members place cells within in
    let all = counted_all (is_found m pref slice) (is_above m pref slice effort) rows (take tried values) each i count
    (omega (arith, past, length-take-le tried values are.found.some)) so_far in
    record {
      counted = all.0 ∙ are.found.whole ∙ ap (tally (is_found m pref slice)) (sym split);
      none = ap (find (is_above m pref slice effort)) split ∙ none_stands (is_above m pref slice effort) rows values tried each are.above all.1;
    }

-- or the first that costs more than it may is among those that a value that is tried leads to
pub tried_ends : (m : ModelView) (pref : List (List ℕ)) (slice : Slice) (effort : Effort) (members : List ℕ) (place : ℕ) (cells : List (Option ℕ))
    (tried each i count v : ℕ)
    (fault : SearchFault) → place < length members → IsTriedAt m slice members place tried i v
    → IsCountedTo m pref slice effort members place cells tried each i count
    → EndsBy (find (is_above m pref slice effort) (rows_with m slice members place cells v)) fault
    → EndsBy (find (is_above m pref slice effort) (with_values (slice_values m slice) (drop place members) cells)) fault
tried_ends m pref slice effort members place cells tried each i count v fault within at so_far ends =
    let rows = rows_with m slice members place cells in
    let values = values_of m slice members place in
    subst (λ all. EndsBy (find (is_above m pref slice effort) all) fault) (sym (rows_split m slice members place cells within))
    (ends_tried (is_above m pref slice effort) rows values tried fault
    (ends_item (is_above m pref slice effort) rows (take tried values) i v fault at.within so_far.none
    (subst (λ w. EndsBy (find (is_above m pref slice effort) (rows w)) fault) at.is ends)))

-- the tuples of a set with a value of a member, if it is a negative one
abbrev pub tuples_with : ModelView → List ℕ → ℕ → ℕ → List (List (Option ℕ))
tuples_with m set q v = cond (value_at m q v).negative (tuples_in m set (Negative q v)) []

-- all its negative values
abbrev pub negative_tuples : ModelView → List ℕ → ℕ → List (List (Option ℕ))
negative_tuples m set q = flat_map (λ v. tuples_in m set (Negative q v)) (negative_values m q)

flat_filter : (test : ℕ → Bool) (rows : ℕ → List (List (Option ℕ))) (values : List ℕ) → flat_map rows (filter test values)
    ≡ flat_map (λ v. cond (test v) (rows v) []) values
flat_filter test rows [] = refl
flat_filter test rows (v ∷ values) = by_test (test v) (flat_filter test rows values)
  where
    by_test : (b : Bool) → flat_map rows (filter test values) ≡ flat_map (λ w. cond (test w) (rows w) []) values
        → flat_map rows (cond b (v ∷ filter test values) (filter test values)) ≡ cond b (rows v) [] ++ flat_map (λ w. cond (test w) (rows w) []) values
    by_test true later = ap (λ rest. rows v ++ rest) later
    by_test false later = later

pub negative_by_value : (m : ModelView) (set : List ℕ) (q : ℕ) → negative_tuples m set q ≡ flat_map (tuples_with m set q) (value_numbers m q)
negative_by_value m set q = flat_filter (λ v. (value_at m q v).negative) (λ v. tuples_in m set (Negative q v)) (value_numbers m q)

pub tuples_by_slice : (m : ModelView) (set : List ℕ) → RisesFrom 0 (length m.params) set
    → tuples_of m set ≡ tuples_in m set Positive ++ flat_map (negative_tuples m set) set
tuples_by_slice m set rises =
    tuples_by_member m set rises
    ∙ ap (λ rest. tuples_in m set Positive ++ rest) (flat_map_same (λ q. flat_map (tuples_in m set) (map (λ v. Negative q v) (negative_values m q)))
    (negative_tuples m set)
    set (λ q. flat_map-map (tuples_in m set) (λ v. Negative q v) (negative_values m q)))

-- a member has no more of them than the set has tuples
pub negative_few : (m : ModelView) (set : List ℕ) (q : ℕ) → RisesFrom 0 (length m.params) set → is_among set q ≡ true
    → length (negative_tuples m set q) ≤ length (tuples_of m set)
negative_few m set q rises among =
    omega (
      arith,
      part_few (negative_tuples m set) set q (of_among set q among),
      ap length (tuples_by_slice m set rises),
      length-append (tuples_in m set Positive) (flat_map (negative_tuples m set) set),
    )

-- the members of a demanded set rise
pub members_rise : (m : ModelView) (plan : PlanView) (set : ℕ) → plan ≡ plan_of m → set < length plan.sets → RisesFrom 0 (length m.params) (set_at plan set)
members_rise m plan set same within =
    subst (λ (p : PlanView). set < length p.sets → RisesFrom 0 (length m.params) (set_at p set)) (sym same)
    (λ inside. All-get_or (RisesFrom 0 (length m.params)) (demanded_sets m) set [] inside (demanded_rise m)) within

-- and it has few tuples
pub tuples_few : (m : ModelView) (plan : PlanView) (set : ℕ) → plan ≡ plan_of m → IsKept plan → set < length plan.sets
    → length (tuples_of m (set_at plan set)) ≤ 2 ^ 26
tuples_few m plan set same kept within =
    subst (λ (p : PlanView). IsKept p → set < length p.sets → length (tuples_of m (set_at p set)) ≤ 2 ^ 26) (sym same)
    (λ (kept : IsKept (plan_of m)) inside.
    let least : get_or (plan_of m).sizes set 0 ≤ sum (plan_of m).sizes = get_or-le-sum_by (λ n. n) (plan_of m).sizes set 0
    (omega (arith, inside, kept.as_many)) in
    omega (
      arith,
      least,
      get_or-map (λ (members : List ℕ). length (tuples_of m members)) (demanded_sets m) set [] 0 inside,
      kept.within,
    )) kept within
