-- How the result column of a row file is read beside its rows.
use Rattle.std.proofs.Common.{◌≡◌, ℕ, zero, suc, ◌+◌, ◌<◌, ◌≤◌, Bool, true, false, cond, ◌||◌, List, [], ◌∷◌, ◌++◌, map}
use Rattle.std.proofs.Common.{filter, drop, length, get_or, Option, Some, None, Ok, Err, position, is_none, inl, inr, refl, sym, ap, ◌∙◌, arith}
use Rattle.std.specs.Prelude.{◌==◌, codes, flat_map, remove, IfSome, Result}
use Rattle.std.specs.Char.{to_ascii_lowercase}
use Rattle.std.specs.List.{list_any}
use Rattle.std.proofs.lemmas.Bool.{cases_lt, false≢true, false_from_ne_true}
use Rattle.std.proofs.lemmas.Bool.Decides.{nat_tests}
use Rattle.std.proofs.lemmas.List.{get_or_default, length-drop, length-map, nil_from_length}
use Rattle.std.proofs.lemmas.List.Quantifiers.{position-Some}
use Rattle.std.proofs.lemmas.Slice.Eq.{bytes_eq-Decides}
use Rattle.value_text.proofs.ListLemmas.{position_is}
use Rattle.value_text.specs.believed.Texts.{folded, is_same_text}
use Rattle.cov_model.specs.believed.Sound.{ModelView, IsSound}
use Rattle.cov_model.specs.declared.parameter.Param.{Param}
use Rattle.definitions.specs.believed.RowFile.{cells_of_line, filled_lines, named_param, row_of_line}
use Rattle.definitions.specs.believed.RowReading as rows
use Rattle.definitions.specs.believed.RowReading.{RowReading, RowNote, RowsFault, Suite, UnknownColumn, column_notes, first_fault, read_rows, read_under, unless_fault, value_notes}
use Rattle.row_text.specs.believed.Readings.{note_told}
use Rattle.row_text.proofs.LookingUp.{position_none}
use Rattle.row_text.proofs.LineSteps.{length_cells, tabs_within}
use Rattle.row_text.proofs.RowSteps.{next_of_left}
use Rattle.suspect_tuples.specs.believed.ResultReading as defined
use Rattle.suspect_tuples.specs.believed.ResultReading.{ResultReading, notes_beside, read_results, result_column, results_numbered, results_under, unless_bad}

-- folding keeps a colon, and makes none
colon_kept : (byte : ℕ) → (to_ascii_lowercase byte == 58) ≡ (byte == 58)
colon_kept byte = grind (arith, nat_tests)

colons_kept : (fold : Bool) (text : List ℕ) → list_any (λ byte. byte == 58) (folded fold text) ≡ list_any (λ byte. byte == 58) text
colons_kept false text = refl
colons_kept true [] = refl
colons_kept true (byte ∷ text) = ap (λ b. b || list_any (λ byte. byte == 58) (folded true text)) (colon_kept byte) ∙ ap (λ b. (byte == 58) || b) (colons_kept true text)

-- so no parameter is named like the result column
not_named : (fold : Bool) (name cell : List ℕ) → list_any (λ byte. byte == 58) name ≡ false → is_same_text fold (codes ":result") cell ≡ true → is_same_text fold name cell ≡ false
not_named fold name cell none same = false_from_ne_true (is_same_text fold name cell) (λ named.
    let equal : folded fold name ≡ folded fold (codes ":result") =
    (bytes_eq-Decides (folded fold name) (folded fold cell)).0 named ∙ sym ((bytes_eq-Decides (folded fold (codes ":result")) (folded fold cell)).0 same) in
    let marked : list_any (λ byte. byte == 58) name ≡ true =
    sym (colons_kept fold name) ∙ ap (list_any (λ byte. byte == 58)) equal ∙ colons_kept fold (codes ":result") in
    false≢true (sym none ∙ marked))

unnamed : (m : ModelView) (cell : List ℕ) → IsSound m → is_same_text m.fold (codes ":result") cell ≡ true → named_param m cell ≡ None
unnamed m cell sound same =
    position_none (λ (param : Param). is_same_text m.fold param.name cell) m.params (λ k d within. not_named m.fold (get_or m.params k d).name cell (sound.params k d within).no_colon same)

-- of notes that are all the same, one is left out with its column
one_note : {X Y : Type 0} (test : X → Bool) (note : Y) (xs : List X) (i : ℕ) (d : X) → i < length xs → test (get_or xs i d) ≡ true
    → map (λ _. note) (filter test xs) ≡ note ∷ map (λ _. note) (filter test (remove xs i))
one_note test note [] i d within passes = absurd (omega (arith, within))
one_note test note (x ∷ xs) zero d within passes = ap (λ b. map (λ _. note) (cond b (x ∷ filter test xs) (filter test xs))) passes
one_note test note (x ∷ xs) (suc i) d within passes = at (test x) (one_note test note xs i d (omega (arith, within)) passes)
  where
    at : (b : Bool) → map (λ _. note) (filter test xs) ≡ note ∷ map (λ _. note) (filter test (remove xs i))
        → map (λ _. note) (cond b (x ∷ filter test xs) (filter test xs)) ≡ note ∷ map (λ _. note) (cond b (x ∷ filter test (remove xs i)) (filter test (remove xs i)))
    at true later = ap (λ notes. note ∷ notes) later
    at false later = later

-- the notes of a row file begin with that of its result column
pub first_note : (m : ModelView) (line column : ℕ) (header : List (List ℕ)) (lines : List (ℕ × List ℕ)) → IsSound m → result_column m header ≡ Some column
    → column_notes m line header ++ flat_map (value_notes m header) lines ≡ (line, UnknownColumn) ∷ notes_beside m column line header lines
first_note m line column header lines sound found =
    let at = position-Some (λ cell. is_same_text m.fold (codes ":result") cell) header column [] found in
    ap (λ notes. notes ++ flat_map (value_notes m header) lines)
    (one_note (λ cell. is_none (named_param m cell)) (line, UnknownColumn) header column [] at.0 (ap is_none (unnamed m (get_or header column []) sound at.1)))

-- what is read under a header, where nothing is refused
well_read : (fault : Option RowsFault) (given reading : RowReading) → unless_fault fault given ≡ Ok reading → given ≡ reading
well_read None given reading is = ap (λ r. reading_or r given) is
  where
    reading_or : Result RowReading RowsFault → RowReading → RowReading
    reading_or (Ok r) other = r
    reading_or (Err e) other = other
well_read (Some fault) given reading is = absurd (false≢true (ap is_read is))
  where
    is_read : Result RowReading RowsFault → Bool
    is_read (Ok r) = true
    is_read (Err e) = false

pub read_under_header : (m : ModelView) (bytes : List ℕ) (first : ℕ × List ℕ) (lines : List (ℕ × List ℕ)) (reading : RowReading) → filled_lines bytes ≡ first ∷ lines
    → read_rows m Suite bytes ≡ Ok reading → read_under m first.0 (cells_of_line first.1) lines ≡ reading
read_under_header m bytes first lines reading opened is =
    well_read (first_fault m Suite first.0 (cells_of_line first.1) lines) (read_under m first.0 (cells_of_line first.1) lines) reading
    (sym (ap (rows.read_numbered m Suite) opened) ∙ is)

pub results_opened : (m : ModelView) (bytes : List ℕ) (first : ℕ × List ℕ) (lines : List (ℕ × List ℕ)) (reading : RowReading) → filled_lines bytes ≡ first ∷ lines
    → read_rows m Suite bytes ≡ Ok reading
    → read_results m bytes ≡ results_under m (result_column m (cells_of_line first.1)) first.0 (cells_of_line first.1) lines reading
results_opened m bytes first lines reading opened is =
    ap (λ all. results_numbered m all (read_rows m Suite bytes)) opened ∙ ap (results_numbered m (first ∷ lines)) is

-- the cells of a header, looked at one after another
pub column_found : (fold : Bool) (cells left rest : List (List ℕ)) (place : ℕ) (cell : List ℕ) → left ≡ drop place cells → left ≡ cell ∷ rest
    → ((k : ℕ) → k < place → is_same_text fold (codes ":result") (get_or cells k []) ≡ false) → is_same_text fold (codes ":result") cell ≡ true
    → Some place ≡ position (λ cell. is_same_text fold (codes ":result") cell) cells
column_found fold cells left rest place cell is_left taken before here =
    let next = next_of_left cells left rest place cell is_left taken in
    sym (position_is (λ cell. is_same_text fold (codes ":result") cell) cells place [] next.0 before (ap (is_same_text fold (codes ":result")) (sym next.1) ∙ here))

pub column_passed : (fold : Bool) (cells : List (List ℕ)) (place : ℕ) (cell : List ℕ) → cell ≡ get_or cells place []
    → ((k : ℕ) → k < place → is_same_text fold (codes ":result") (get_or cells k []) ≡ false) → is_same_text fold (codes ":result") cell ≡ false
    → (k : ℕ) → k < place + 1 → is_same_text fold (codes ":result") (get_or cells k []) ≡ false
column_passed fold cells place cell read before here k within =
    elim (cases_lt k place) [
      | inl earlier ↦ before k (omega (arith, earlier))
      | inr same ↦
          let is : k ≡ place = omega (arith, same, within) in
          ap (λ i. is_same_text fold (codes ":result") (get_or cells i [])) is ∙ ap (is_same_text fold (codes ":result")) (sym read) ∙ here
    ]

pub column_nowhere : (fold : Bool) (cells left : List (List ℕ)) (place : ℕ) → left ≡ drop place cells → left ≡ []
    → ((k : ℕ) → k < place → is_same_text fold (codes ":result") (get_or cells k []) ≡ false) → None ≡ position (λ cell. is_same_text fold (codes ":result") cell) cells
column_nowhere fold cells left place is_left none before =
    let past : length cells ≤ place = omega (arith, length-drop place cells, ap length (sym is_left ∙ none)) in
    sym (position_none (λ cell. is_same_text fold (codes ":result") cell) cells (λ k d within.
    ap (is_same_text fold (codes ":result")) (get_or_default cells k d [] within) ∙ before k (omega (arith, within, past))))

-- there are no more cells than bytes, but for one
pub no_more_cells : (header : List ℕ) (cells : List (List ℕ)) (place : ℕ) → cells ≡ drop place (cells_of_line header) → length header + 1 ≤ place → cells ≡ []
no_more_cells header cells place is_left past =
    is_left ∙ nil_from_length (drop place (cells_of_line header))
    (omega (arith, length-drop place (cells_of_line header), length_cells header, tabs_within header, past))

-- the faults of the lines under a header
pub bad_told : (told : Option defined.ResultsFault) (found : Option defined.ResultsFault) (reading : ResultReading) (whole : Result ResultReading defined.ResultsFault)
    → whole ≡ unless_bad found reading → IfSome told (λ given. found ≡ Some given) → IfSome told (λ given. whole ≡ Err given)
bad_told None found reading whole is bad = tt
bad_told (Some given) found reading whole is bad = is ∙ ap (λ fault. unless_bad fault reading) bad

-- the notes and the rows that were read
pub notes_read : (m : ModelView) (bytes : List ℕ) (first : ℕ × List ℕ) (lines : List (ℕ × List ℕ)) (reading : RowReading) (column : ℕ) → IsSound m
    → filled_lines bytes ≡ first ∷ lines → read_rows m Suite bytes ≡ Ok reading → result_column m (cells_of_line first.1) ≡ Some column
    → map note_told reading.notes ≡ note_told (first.0, UnknownColumn) ∷ map note_told (notes_beside m column first.0 (cells_of_line first.1) lines)
notes_read m bytes first lines reading column sound opened is found =
    ap (λ (reading : RowReading). map note_told reading.notes) (sym (read_under_header m bytes first lines reading opened is))
    ∙ ap (map note_told) (first_note m first.0 column (cells_of_line first.1) lines sound found)

pub rows_read : (m : ModelView) (bytes : List ℕ) (first : ℕ × List ℕ) (lines : List (ℕ × List ℕ)) (reading : RowReading)
    → filled_lines bytes ≡ first ∷ lines → read_rows m Suite bytes ≡ Ok reading → length reading.rows ≡ length lines
rows_read m bytes first lines reading opened is =
    ap (λ (reading : RowReading). length reading.rows) (sym (read_under_header m bytes first lines reading opened is))
    ∙ length-map lines (λ (line : ℕ × List ℕ). (line.0, row_of_line m (cells_of_line first.1) line.1))
