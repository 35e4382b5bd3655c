-- Sets in play, by lines, and places that a seat holds.
use Rattle.std.proofs.Common.{inl, inr, ◌≡◌, ℕ, ◌+◌, ◌-◌, ◌<◌, ◌≤◌, Bool, true, false, ◌&&◌, ◌||◌, not, List, [], ◌∷◌, ◌++◌, length, get_or, Option, ◌∙◌, refl, sym, ap, subst, arith}
use Rattle.std.specs.Prelude.{◌==◌, nat_le, nat_lt}
use Rattle.std.specs.List.{filter}
use Rattle.std.proofs.Math.Bool.{and-or_distrib_right, or-false, or_comm}
use Rattle.std.proofs.Math.Seq.{get_or-append_seam}
use Rattle.std.proofs.lemmas.Bool.{and_from, and_parts, cases_lt, eq-eqb, false≢true, le-leb, lt-ltb, ltb-true, or_cases, or_left, or_right}
use Rattle.std.proofs.lemmas.List.{get_or_append_left, length_push}
use Rattle.std.proofs.lemmas.List.Folds.{list_any-append}
use Rattle.std.proofs.lemmas.List.Sums.{sum_by_more}
use Rattle.cov_model.specs.believed.Slices.{slice_of}
use Rattle.cov_model.specs.believed.Sound.{ModelView}
use Rattle.definitions.specs.believed.Demand.{demanded_sets, demanded_tuples, is_among}
use Rattle.tuple_index.specs.Plan.{PlanView, plan_of, set_at}
use Rattle.shared_marks.specs.declared.holding.Holding.{Holding}
use Rattle.shared_marks.specs.declared.open_sets.Line.{Line}
use Rattle.shared_marks.specs.Adding.{Adds, Marks, nothing}
use Rattle.shared_marks.specs.TestColumns.{is_plain, is_positive}
use Rattle.shared_marks.specs.OpenSets.{AreLines, AreOpen, IsLine, front, is_of, is_of_some, tuples_before}
use Rattle.shared_marks.specs.Seats.{SeatView, is_held, testing, with_holding}
use Rattle.shared_marks.specs.Served.{base_of, is_served_at, served_between}
use Rattle.shared_marks.proofs.AddingLemmas.{adds_held, adds_then, marks_add, marks_hold, marks_then}
use Rattle.shared_marks.proofs.ColumnLemmas.{served_parts}
use Rattle.shared_marks.proofs.PlaceLemmas.{base_end, between_all}

-- the tuples before the next set
pub before_more : (plan : PlanView) (set : ℕ) → set < length plan.sizes → tuples_before plan (set + 1) ≡ tuples_before plan set + get_or plan.sizes set 0
before_more plan set within = sum_by_more (λ n. n) plan.sizes set 0 within

-- the set of a line begins with the same members as that of the last of these lines
pub record FollowsLast (plan : PlanView) (lines : List Line) (line : Line) : Type 0 where
  pub some : 0 < length lines
  pub same : (other : Line) → front (set_at plan line.set) ≡ front (set_at plan (get_or lines (length lines - 1) other).set)

-- one line more
pub lines_pushed : (plan : PlanView) (lines : List Line) (line : Line) → AreLines plan lines → IsLine plan line
    → (line.is_fresh ≡ false → FollowsLast plan lines line) → AreLines plan (lines ++ line ∷ [])
lines_pushed plan lines line are is follows = record {
  each = λ i other within. elim (cases_lt i (length lines)) [
    | inl early ↦ subst (IsLine plan) (sym (get_or_append_left lines (line ∷ []) other i early)) (are.each i other early)
    | inr late ↦ subst (IsLine plan) (sym (last_at i other within late)) is
  ];
  same = λ i other within stale. elim (cases_lt i (length lines)) [
    | inl early ↦
        let here = get_or_append_left lines (line ∷ []) other i early in
        let before = get_or_append_left lines (line ∷ []) other (i - 1) (omega (arith, early)) in
        let known = are.same i other early (sym (ap (λ (l : Line). l.is_fresh) here) ∙ stale) in
        (known.0, ap (λ (l : Line). front (set_at plan l.set)) here ∙ known.1 ∙ sym (ap (λ (l : Line). front (set_at plan l.set)) before))
    | inr late ↦
        let here = last_at i other within late in
        let known = follows (sym (ap (λ (l : Line). l.is_fresh) here) ∙ stale) in
        let at : i ≡ length lines = omega (arith, late, within, long) in
        let before =
        ap (λ n. get_or (lines ++ line ∷ []) (n - 1) other) at
        ∙ get_or_append_left lines (line ∷ []) other (length lines - 1) (omega (arith, known.some)) in (
          omega (arith, at, known.some),
          ap (λ (l : Line). front (set_at plan l.set)) here ∙ known.same other ∙ sym (ap (λ (l : Line). front (set_at plan l.set)) before),
        )
  ];
}
  where
    long : length (lines ++ line ∷ []) ≡ length lines + 1
    long = length_push lines line

    last_at : (i : ℕ) (other : Line) → i < length (lines ++ line ∷ []) → length lines ≤ i → get_or (lines ++ line ∷ []) i other ≡ line
    last_at i other within late =
        ap (λ n. get_or (lines ++ line ∷ []) n other) (omega (arith, late, within, long)) ∙ get_or-append_seam lines line [] other

-- a place that is looked at
grown : (a b c : Bool) → ((a || b) || false) ≡ true → (a || (c || b)) ≡ true
grown true b c given = refl
grown false true c given = or_right c true refl
grown false false c given = absurd (false≢true given)

tested_adds : (place : ℕ) (bit : Bool) (seat : SeatView) → Adds nothing seat (with_holding seat (testing place bit seat.holds))
tested_adds place false seat = record {
  table = refl;
  held = λ other given. sym (or-false (is_held seat.holds other)) ∙ given;
  marked = λ other among. or_left (is_among seat.holds.marked other) false among;
  share = refl;
}
tested_adds place true seat = record {
  table = refl;
  held = λ other given. grown (is_among seat.holds.marked other) (is_among seat.holds.seen other) (place == other) given;
  marked = λ other among. or_left (is_among seat.holds.marked other) false among;
  share = refl;
}

pub record HasLooked (from to : ℕ) (before after : SeatView) : Type 0 where
  pub adds : Adds nothing before after
  pub held : (place : ℕ) → from ≤ place → place < to → is_held after.holds place ≡ true

pub look_more : (from place : ℕ) (bit : Bool) (before between after : SeatView) → HasLooked from place before between
    → after ≡ with_holding between (testing place bit between.holds) → Adds nothing before after × (bit ≡ true → HasLooked from (place + 1) before after)
look_more from place bit before between after looked is = (
  adds,
  λ marked. record {
    adds = adds;
    held = λ other least below.
        elim (cases_lt other place) [
          | inl early ↦ step.held other (or_left (is_held between.holds other) false (looked.held other least early))
          | inr late ↦
              let here : place ≡ other = omega (arith, late, below) in
              ap (λ (s : SeatView). is_held s.holds other) is ∙ ap (λ b. is_held (testing place b between.holds) other) marked
              ∙ or_right (is_among between.holds.marked other) (place == other || is_among between.holds.seen other)
              (or_left (place == other) (is_among between.holds.seen other) (eq-eqb place other here))
        ];
  },
)
  where
    step : Adds nothing between after
    step = subst (Adds nothing between) (sym is) (tested_adds place bit between)

    adds : Adds nothing before after
    adds = adds_then nothing nothing nothing before between after looked.adds step (λ other. refl)

-- places that a seat still holds
pub open_kept : (plan : PlanView) (lines : List Line) (upto : ℕ) (adds : ℕ → Bool) (before after : SeatView) → Adds adds before after
    → AreOpen plan lines upto before.holds → AreOpen plan lines upto after.holds
open_kept plan lines upto adds before after is open_before = record {
  few = open_before.few;
  are = open_before.are;
  rest = λ place below.
      elim (or_cases (is_of_some plan lines place) (is_held before.holds place) (open_before.rest place below)) [
        | inl of_line ↦ or_left (is_of_some plan lines place) (is_held after.holds place) of_line
        | inr held ↦
            or_right (is_of_some plan lines place) (is_held after.holds place)
            (is.held place (or_left (is_held before.holds place) (adds place) held))
      ];
}

-- a set whose places the seat holds
pub open_held : (plan : PlanView) (lines : List Line) (set from to : ℕ) (held : Holding) → AreOpen plan lines set held → set < length plan.sets
    → tuples_before plan (set + 1) ≡ to → tuples_before plan set ≡ from → ((place : ℕ) → from ≤ place → place < to → is_held held place ≡ true)
    → AreOpen plan lines (set + 1) held
open_held plan lines set from to held before within ends begins holds = record {
  few = omega (arith, within);
  are = before.are;
  rest = λ place below. elim (cases_lt place (tuples_before plan set)) [
    | inl early ↦ before.rest place early
    | inr late ↦
        or_right (is_of_some plan lines place) (is_held held place) (holds place (omega (arith, late, begins)) (omega (arith, below, ends)))
  ];
}

-- a set with a line
pub open_pushed : (plan : PlanView) (lines : List Line) (set : ℕ) (line : Line) (held : Holding) → AreOpen plan lines set held → set < length plan.sets
    → line.set ≡ set → IsLine plan line → (line.is_fresh ≡ false → FollowsLast plan lines line) → AreOpen plan (lines ++ line ∷ []) (set + 1) held
open_pushed plan lines set line held before within number is follows = record {
  few = omega (arith, within);
  are = lines_pushed plan lines line before.are is follows;
  rest = λ place below.
      let listed = is_of_some plan lines place in
      let own = is_of plan place line || false in
      let either : ((listed || own) || is_held held place) ≡ true =
      elim (cases_lt place (tuples_before plan set)) [
        | inl early ↦ elim (or_cases listed (is_held held place) (before.rest place early)) [
          | inl of_line ↦ or_left (listed || own) (is_held held place) (or_left listed own of_line)
          | inr already ↦ or_right (listed || own) (is_held held place) already
        ]
        | inr late ↦
            or_left (listed || own) (is_held held place)
            (or_right listed own
            (or_left (is_of plan place line) false
            (and_from (nat_le (tuples_before plan line.set) place) (nat_lt place (tuples_before plan (line.set + 1)))
            (le-leb (tuples_before plan line.set) place (subst (λ n. tuples_before plan n ≤ place) (sym number) late))
            (lt-ltb place (tuples_before plan (line.set + 1)) (subst (λ n. place < tuples_before plan (n + 1)) (sym number) below)))))
      ] in
      ap (λ t. t || is_held held place) (list_any-append (is_of plan place) lines (line ∷ [])) ∙ either;
}

-- no set yet, and sets one after another, as the search for those in play goes over them
pub record IsFound (plan : PlanView) (lines : List Line) (set : ℕ) (before after : SeatView) : Type 0 where
  pub sets : AreOpen plan lines set after.holds
  pub adds : Adds nothing before after

pub found_none : (plan : PlanView) (seat : SeatView) → IsFound plan [] 0 seat seat
found_none plan seat = record {
  sets = record {
    few = omega arith;
    are = record { each = λ i other within. absurd (omega (arith, within)); same = λ i other within. absurd (omega (arith, within)) };
    rest = λ place below. let none : tuples_before plan 0 ≡ 0 = refl in absurd (omega (arith, below, none));
  };
  adds = adds_held nothing seat (λ place none. absurd (false≢true none));
}

looked : (plan : PlanView) (lines : List Line) (set : ℕ) (before between after : SeatView) → IsFound plan lines set before between → Adds nothing between after
    → IsFound plan lines set before after
looked plan lines set before between after found is = record {
  sets = open_kept plan lines set nothing between after is found.sets;
  adds = adds_then nothing nothing nothing before between after found.adds is (λ place. refl);
}

pub found_complete : (plan : PlanView) (lines : List Line) (set base size : ℕ) (marked : Bool) (before between after : SeatView) → IsFound plan lines set before between
    → set < length plan.sets → length plan.sizes ≡ length plan.sets → base ≡ tuples_before plan set → size ≡ get_or plan.sizes set 0
    → Adds nothing between after → (marked ≡ true → (place : ℕ) → base ≤ place → place < base + size → is_held after.holds place ≡ true) → marked ≡ true
    → IsFound plan lines (set + 1) before after
found_complete plan lines set base size marked before between after found within long begins many is holds all =
    let now = looked plan lines set before between after found is in
    let more = before_more plan set (omega (arith, within, long)) in
    record {
      sets = open_held plan lines set base (base + size) after.holds now.sets within (omega (arith, more, begins, many)) (sym begins) (holds all);
      adds = now.adds;
    }

pub found_open : (plan : PlanView) (lines : List Line) (set : ℕ) (line : Line) (before between after : SeatView) → IsFound plan lines set before between
    → set < length plan.sets → Adds nothing between after → line.set ≡ set → IsLine plan line → (line.is_fresh ≡ false → (0 < length lines)
    × ((other : Line) → front (set_at plan set) ≡ front (set_at plan (get_or lines (length lines - 1) other).set)))
    → IsFound plan (lines ++ line ∷ []) (set + 1) before after
found_open plan lines set line before between after found within is number line_is follows =
    let now = looked plan lines set before between after found is in
    record {
      sets = open_pushed plan lines set line after.holds now.sets within number line_is (λ stale.
          let same = follows stale in record { some = same.0; same = λ other. ap (λ n. front (set_at plan n)) number ∙ same.1 other });
      adds = now.adds;
    }

-- what one line more marks
pub line_more : (m : ModelView) (plan : PlanView) (rows : List (List (Option ℕ))) (lines more : List Line) (line : Line) (seat between after : SeatView)
    → plan ≡ plan_of m → more ≡ lines ++ line ∷ [] → Marks (λ place. is_of_some plan lines place && is_served_at m rows place) seat between
    → Marks (served_between m rows (base_of m line.set) (base_of m (line.set + 1))) between after
    → Marks (λ place. is_of_some plan more place && is_served_at m rows place) seat after
line_more m plan rows lines more line seat between after planned are one two =
    marks_then (λ place. is_of_some plan lines place && is_served_at m rows place)
    (served_between m rows (base_of m line.set) (base_of m (line.set + 1)))
    (λ place. is_of_some plan more place && is_served_at m rows place) seat between after one two (λ place.
    let served = is_served_at m rows place in
    ap (λ (p : PlanView). (is_of_some plan lines place && served) || (is_of p place line && served)) (sym planned)
    ∙ sym (and-or_distrib_right (is_of_some plan lines place) (is_of plan place line) served)
    ∙ ap (λ t. t && served)
    (ap (λ t. is_of_some plan lines place || t) (sym (or-false (is_of plan place line))) ∙ sym (list_any-append (is_of plan place) lines (line ∷ []))
    ∙ ap (λ ls. is_of_some plan ls place) (sym are)))

-- what rows serve, where all sets but those of the lines are held
pub lines_add : (m : ModelView) (plan : PlanView) (rows : List (List (Option ℕ))) (lines : List Line) (upto : ℕ) (seat after : SeatView) → plan ≡ plan_of m
    → AreOpen plan lines upto seat.holds → upto ≡ length plan.sets → Marks (λ place. is_of_some plan lines place && is_served_at m rows place) seat after
    → Adds (is_served_at m rows) seat after
lines_add m plan rows lines upto seat after planned sets all marked = record {
  table = marked.table;
  held = λ place given. marks_hold listed seat after marked place (covered place given);
  marked = λ place among. elim (or_cases (is_among seat.holds.marked place) (listed place) (sym (marked.marked place) ∙ among)) [
    | inl before ↦ or_left (is_among seat.holds.marked place) (served place) before
    | inr is ↦ or_right (is_among seat.holds.marked place) (served place) (and_parts (is_of_some plan lines place) (served place) is).1
  ];
  share = (marks_add listed seat after marked).share;
}
  where
    served : ℕ → Bool
    served = is_served_at m rows

    listed : ℕ → Bool
    listed place = is_of_some plan lines place && served place

    covered : (place : ℕ) → (is_held seat.holds place || served place) ≡ true → (is_held seat.holds place || listed place) ≡ true
    covered place given = elim (or_cases (is_held seat.holds place) (served place) given) [
      | inl before ↦ or_left (is_held seat.holds place) (listed place) before
      | inr is ↦
          let range =
          and_parts (nat_le 0 place && nat_lt place (length (demanded_tuples m))) (served place) (between_all m rows place ∙ is) in
          let below = ltb-true place (length (demanded_tuples m)) (and_parts (nat_le 0 place) (nat_lt place (length (demanded_tuples m))) range.0).1 in
          let end : tuples_before plan upto ≡ length (demanded_tuples m) =
          ap (λ n. tuples_before plan n) all ∙ ap (λ (p : PlanView). tuples_before p (length p.sets)) planned
          ∙ base_end m (length (demanded_sets m)) (omega arith) in
          elim (or_cases (is_of_some plan lines place) (is_held seat.holds place) (sets.rest place (omega (arith, below, end)))) [
            | inl of_line ↦ or_right (is_held seat.holds place) (listed place) (and_from (is_of_some plan lines place) (served place) of_line is)
            | inr already ↦ or_left (is_held seat.holds place) (listed place) already
          ]
    ]

-- what rows serve, where those with a negative value are marked first
pub block_adds : (m : ModelView) (plan : PlanView) (rows tests : List (List (Option ℕ))) (lines : List Line) (upto : ℕ) (start seat after : SeatView)
    → plan ≡ plan_of m → AreOpen plan lines upto start.holds → upto ≡ length plan.sets → tests ≡ filter (is_plain m) rows
    → Marks (is_served_at m (filter (λ cells. not (is_positive (slice_of m cells))) rows)) start seat
    → Marks (λ place. is_of_some plan lines place && is_served_at m tests place) seat after → Adds (is_served_at m rows) start after
block_adds m plan rows tests lines upto start seat after planned sets all plain first second =
    adds_then negatives (is_served_at m tests) (is_served_at m rows) start seat after adds
    (lines_add m plan tests lines upto seat after planned (open_kept plan lines upto negatives start seat adds sets) all second) (λ place.
    or_comm (negatives place) (is_served_at m tests place) ∙ ap (λ ts. is_served_at m ts place || negatives place) plain ∙ served_parts m rows place)
  where
    negatives : ℕ → Bool
    negatives = is_served_at m (filter (λ cells. not (is_positive (slice_of m cells))) rows)

    adds : Adds negatives start seat
    adds = marks_add negatives start seat first
