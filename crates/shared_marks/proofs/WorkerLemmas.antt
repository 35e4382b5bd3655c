-- What workers mark together.
use Rattle.std.proofs.Common.{◌≡◌, ℕ, ◌<◌, ◌≤◌, Bool, true, false, ◌||◌, List, map, length, get_or, Option, ◌∙◌, sym, ap, arith, subst, zero-add}
use Rattle.std.specs.Prelude.{slice_range}
use Rattle.std.specs.List.{range_with_len}
use Rattle.std.proofs.Math.Bool.{or-false}
use Rattle.std.proofs.lemmas.Bool.{or_right}
use Rattle.std.proofs.lemmas.List.{same_lists}
use Rattle.std.proofs.lemmas.List.FromFn.{get_or-map-range_with_len, length-map-range_with_len}
use Rattle.atomic_table.specs.Seated.{TableId}
use Rattle.cov_model.specs.believed.Sound.{ModelView}
use Rattle.definitions.specs.believed.Demand.{demanded_tuples, is_among}
use Rattle.definitions.specs.believed.Figures.{is_served, tests_of}
use Rattle.definitions.proofs.Members.{same_answer}
use Rattle.shared_marks.specs.Adding.{Adds, IsSameShare, nothing}
use Rattle.shared_marks.specs.Seats.{IsWhole, SeatView, first_holding, halved, is_held, with_holding, joined, other_half}
use Rattle.shared_marks.specs.Served.{is_served_at}
use Rattle.shared_marks.proofs.AddingLemmas.{adds_then, halves_add, same_is_whole}
use Rattle.shared_marks.proofs.PlaceLemmas.{served_all, served_append}
use Rattle.shared_marks.proofs.RowLemmas.{range_joined}

-- two workers with the halves of a seat, for two parts of a range
pub parts_add : (m : ModelView) (rows : List (List (Option ℕ))) (from middle to : ℕ) (seat left right one other after : SeatView) → from ≤ middle → middle ≤ to
    → left ≡ with_holding seat (halved seat.holds) → right ≡ with_holding seat (other_half seat.holds)
    → Adds (is_served_at m (slice_range rows from middle)) left one → Adds (is_served_at m (slice_range rows middle to)) right other
    → after ≡ with_holding one (joined one.holds other.holds) → Adds (is_served_at m (slice_range rows from to)) seat after
parts_add m rows from middle to seat left right one other after first second halves behind own others both =
    let lower = is_served_at m (slice_range rows from middle) in
    let upper = is_served_at m (slice_range rows middle to) in
    let all = is_served_at m (slice_range rows from to) in
    subst (Adds all seat) (sym both)
    (halves_add lower upper all seat one other (subst (λ s. Adds lower s one) halves own) (subst (λ s. Adds upper s other) behind others) (λ place.
    served_append m (slice_range rows from middle) (slice_range rows middle to) place
    ∙ ap (λ rs. is_served_at m rs place) (range_joined rows from middle to first second)))

-- one round of rows more, once the sets in play were looked for
pub round_adds : (m : ModelView) (rows : List (List (Option ℕ))) (from to : ℕ) (start before between after : SeatView) → from ≤ to
    → Adds (is_served_at m (slice_range rows 0 from)) start before → Adds nothing before between
    → Adds (is_served_at m (slice_range rows from to)) between after → Adds (is_served_at m (slice_range rows 0 to)) start after
round_adds m rows from to start before between after ordered so_far looked more =
    let early = is_served_at m (slice_range rows 0 from) in
    adds_then early (is_served_at m (slice_range rows from to)) (is_served_at m (slice_range rows 0 to)) start between after
    (adds_then early nothing early start before between so_far looked (λ place. or-false (early place))) more (λ place.
    served_append m (slice_range rows 0 from) (slice_range rows from to) place
    ∙ ap (λ rs. is_served_at m rs place) (range_joined rows 0 from to (omega arith) ordered))

-- the marks of all workers, from a new table on
pub all_marked : (m : ModelView) (rows : List (List (Option ℕ))) (table : TableId) (start seat : SeatView) (bits : ℕ) (marks : List Bool)
    → Adds (is_served_at m rows) start seat → start ≡ record { table = table; holds = first_holding } → bits ≡ length (demanded_tuples m)
    → ((place : ℕ) → place < bits → is_held seat.holds place ≡ true → get_or marks place false ≡ true)
    → (IsWhole seat.holds → marks ≡ map (is_among seat.holds.marked) (range_with_len 0 bits))
    → marks ≡ map (is_served m (tests_of m rows)) (demanded_tuples m)
all_marked m rows table start seat bits marks added fresh as_many held whole =
    are
    ∙ same_lists (map marked (range_with_len 0 bits)) (map served (range_with_len 0 bits))
    (length-map-range_with_len marked 0 bits ∙ sym (length-map-range_with_len served 0 bits)) (λ place other inside.
    let within : place < bits = rw (length-map-range_with_len marked 0 bits) at inside in
    listed marked place other within ∙ same place within ∙ sym (listed served place other within))
    ∙ ap (λ n. map served (range_with_len 0 n)) as_many ∙ served_all m rows
  where
    marked : ℕ → Bool
    marked = is_among seat.holds.marked

    served : ℕ → Bool
    served = is_served_at m rows

    are : marks ≡ map marked (range_with_len 0 bits)
    are = whole (same_is_whole seat.holds (subst (λ (s : SeatView). IsSameShare s.holds seat.holds) fresh added.share))

    listed : (test : ℕ → Bool) (place : ℕ) (other : Bool) → place < bits → get_or (map test (range_with_len 0 bits)) place other ≡ test place
    listed test place other within = get_or-map-range_with_len test 0 bits place place other within (zero-add place)

    same : (place : ℕ) → place < bits → marked place ≡ served place
    same place within =
        same_answer (marked place) (served place)
        (λ among. sym (ap (λ (s : SeatView). is_among s.holds.marked place || served place) fresh) ∙ added.marked place among)
        (λ is.
        sym (listed marked place false within) ∙ sym (ap (λ (ms : List Bool). get_or ms place false) are)
        ∙ held place within (added.held place (or_right (is_held start.holds place) (served place) is)))
