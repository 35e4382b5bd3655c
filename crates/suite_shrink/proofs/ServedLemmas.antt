-- The demanded tuples that rows serve, as marks.
use Rattle.std.proofs.Common.{◌≡◌, ℕ, ◌+◌, ◌<◌, ◌≤◌, Bool, true, false, ◌&&◌, ◌||◌, cond, List, [], ◌∷◌, map, take, length, get_or, All, Option, inl, inr, refl, ◌∙◌, sym, ap, subst}
use Rattle.std.specs.List.{list_all, range_with_len}
use Rattle.std.proofs.lemmas.Bool.{and_from, and_parts, false≢true, false_from_ne_true}
use Rattle.std.proofs.lemmas.List.{get_or-map, take_all, take_more}
use Rattle.atomic_table.specs.Seated.{TableId}
use Rattle.cov_model.specs.Fits.{FitsModel}
use Rattle.cov_model.specs.believed.Rows.{contains, is_assigned, is_complete}
use Rattle.cov_model.specs.believed.Sound.{ModelView}
use Rattle.cov_model.specs.believed.Valid.{is_valid, negatives, serves}
use Rattle.definitions.specs.believed.Demand.{demanded_tuples, is_among}
use Rattle.definitions.specs.believed.Figures.{is_served, tests_of}
use Rattle.definitions.proofs.Members.{Has, all_members, has_map}
use Rattle.definitions.proofs.ReadRow.{complete_row}
use Rattle.row_text.specs.declared.row_file.FileRow.{FileRow}
use Rattle.shared_marks.specs.Adding.{Marks}
use Rattle.shared_marks.specs.Seats.{IsWhole, SeatView, first_holding, is_held}
use Rattle.shared_marks.specs.Served.{is_served_at}
use Rattle.shared_marks.proofs.AddingLemmas.{marks_add, marks_same, marks_then}
use Rattle.shared_marks.proofs.OwnTupleLemmas.{of_valid}
use Rattle.shared_marks.proofs.PlaceLemmas.{served_append}
use Rattle.shared_marks.proofs.WorkerLemmas.{all_marked}
use Rattle.shorter_suites.specs.believed.Shrinking.{ServesToo}

-- a row of a file of one row
pub file_fits : (m : ModelView) (rows : List FileRow) (row : List (Option ℕ)) → map (λ one. one.cells) rows ≡ row ∷ [] → FitsModel m row
    → All (λ one. FitsModel m one.cells) rows
file_fits m rows row are fits =
    all_members (λ (one : FileRow). FitsModel m one.cells) rows (λ one has.
    by_cells one (subst (λ all. Has all one.cells) are (has_map (λ (r : FileRow). r.cells) rows one has)))
  where
    by_cells : (one : FileRow) → Has (row ∷ []) one.cells → FitsModel m one.cells
    by_cells one (inl same) = subst (FitsModel m) same fits
    by_cells one (inr none) = absurd none

-- a row that serves a tuple is a test
none_served : (m : ModelView) (row tuple : List (Option ℕ)) → (is_complete row && is_valid m row) ≡ false → serves m row tuple ≡ false
none_served m row tuple away =
    false_from_ne_true (serves m row tuple) (λ holds.
    let valid = (and_parts (is_valid m row) (contains row tuple)
    (and_parts (is_valid m row && contains row tuple) (list_all (is_assigned tuple) (negatives m row)) holds).0).0 in
    false≢true (sym away ∙ and_from (is_complete row) (is_valid m row) (complete_row m row (of_valid m row valid).complete) valid))

pub tests_serve : (m : ModelView) (rows : List (List (Option ℕ))) (tuple : List (Option ℕ)) → is_served m (tests_of m rows) tuple ≡ is_served m rows tuple
tests_serve m [] tuple = refl
tests_serve m (row ∷ rows) tuple = at (is_complete row && is_valid m row) refl (tests_serve m rows tuple)
  where
    at : (b : Bool) → (is_complete row && is_valid m row) ≡ b → is_served m (tests_of m rows) tuple ≡ is_served m rows tuple
        → is_served m (cond b (row ∷ tests_of m rows) (tests_of m rows)) tuple ≡ (serves m row tuple || is_served m rows tuple)
    at true is later = ap (λ b. serves m row tuple || b) later
    at false is later = later ∙ ap (λ b. b || is_served m rows tuple) (sym (none_served m row tuple is))

-- one row more is marked
pub marked_more : (m : ModelView) (rows : List (List (Option ℕ))) (i : ℕ) (before between after : SeatView) → i < length rows
    → Marks (is_served_at m (take i rows)) before between → Marks (is_served_at m (get_or rows i [] ∷ [])) between after
    → Marks (is_served_at m (take (i + 1) rows)) before after
marked_more m rows i before between after within so_far more =
    marks_then _ _ _ _ _ _ so_far more (λ place.
    served_append m (take i rows) (get_or rows i [] ∷ []) place ∙ ap (λ rs. is_served_at m rs place) (sym (take_more rows i [] within)))

pub marked_all : (m : ModelView) (rows : List (List (Option ℕ))) (i : ℕ) (before after : SeatView) → length rows ≤ i
    → Marks (is_served_at m (take i rows)) before after → Marks (is_served_at m rows) before after
marked_all m rows i before after past so_far =
    marks_same _ _ _ _ so_far (λ place. ap (λ rs. is_served_at m rs place) (take_all i rows past))

-- the marks of a closed table
pub marks_are : (m : ModelView) (rows : List (List (Option ℕ))) (table : TableId) (start seat : SeatView) (bits : ℕ) (marks : List Bool)
    → Marks (is_served_at m rows) start seat → start ≡ record { table = table; holds = first_holding } → bits ≡ length (demanded_tuples m)
    → ((place : ℕ) → place < bits → is_held seat.holds place ≡ true → get_or marks place false ≡ true)
    → (IsWhole seat.holds → marks ≡ map (is_among seat.holds.marked) (range_with_len 0 bits))
    → marks ≡ map (is_served m rows) (demanded_tuples m)
marks_are m rows table start seat bits marks marked fresh as_many held whole =
    let each : is_served m (tests_of m rows) ≡ is_served m rows = λ k tuple. (tests_serve m rows tuple) k in
    all_marked m rows table start seat bits marks (marks_add (is_served_at m rows) start seat marked) fresh as_many held whole
    ∙ ap (λ (test : List (Option ℕ) → Bool). map test (demanded_tuples m)) each

-- what is marked for the given rows is marked for the others
pub serve_from : (m : ModelView) (given rows : List (List (Option ℕ))) (marks own : List Bool) → marks ≡ map (is_served m given) (demanded_tuples m)
    → own ≡ map (is_served m rows) (demanded_tuples m) → ((place : ℕ) → get_or marks place false ≡ true → get_or own place false ≡ true)
    → ServesToo m given rows
serve_from m given rows marks own given_are own_are within k d inside served =
    let tuples = demanded_tuples m in
    sym (get_or-map (is_served m rows) tuples k d false inside) ∙ sym (ap (λ ms. get_or ms k false) own_are)
    ∙ within k (ap (λ ms. get_or ms k false) given_are ∙ get_or-map (is_served m given) tuples k d false inside ∙ served)
