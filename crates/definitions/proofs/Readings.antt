-- A suite that is read without a fault has the rows that its bytes hold.
use Rattle.std.proofs.Common.{◌≡◌, ℕ, Bool, true, false, ◌&&◌, ◌||◌, not, cond, List, [], ◌∷◌, map, length}
use Rattle.std.proofs.Common.{Option, Some, None, Result, Ok, Err, find, nat_lt, ◌==◌, ◌∙◌, sym, ap, refl, arith}
use Rattle.std.specs.List.{list_all, list_any}
use Rattle.std.specs.Option.{option_map}
use Rattle.std.proofs.lemmas.Bool.{false≢true, cond-false, or_from}
use Rattle.std.proofs.lemmas.Grind.{common_steps}
use Rattle.value_text.proofs.ListLemmas.{option_or_parts}
use Rattle.cov_model.specs.believed.Sound.{ModelView}
use Rattle.cov_model.specs.believed.Valid.{param_numbers}
use Rattle.definitions.specs.believed.RowFile.{filled_lines, cells_of_line, is_bad_header, row_of_line, rows_of_lines}
use Rattle.definitions.specs.believed.RowReading.{RowReading, RowsFault, Missing, Width, Twice, Suite, column_count, twice_fault, missing_fault}
use Rattle.definitions.specs.believed.RowReading.{count_fault, width_fault, first_fault, read_under, read_numbered, unless_fault}
use Rattle.definitions.specs.Laws.{SuitesAreRead}
use Rattle.definitions.proofs.Nothing.{is_nothing, none_found}

pub not_given : {X : Type 0} (b : Bool) (x : X) → cond b (Some x) None ≡ None → b ≡ false
not_given true x h = absurd (false≢true (ap is_nothing h))
not_given false x h = refl

pub not_mapped : {X Y : Type 0} (f : X → Y) (o : Option X) → option_map f o ≡ None → o ≡ None
not_mapped f (Some x) h = absurd (false≢true (ap is_nothing h))
not_mapped f None h = refl

none_of : {X : Type 0} (f : X → Bool) (xs : List X) → list_all (λ x. not (f x)) xs ≡ true → list_any f xs ≡ false
none_of f [] h = refl
none_of f (x ∷ xs) h = at (f x) h (none_of f xs)
  where
    at : (b : Bool) → (not b && list_all (λ y. not (f y)) xs) ≡ true → (list_all (λ y. not (f y)) xs ≡ true → list_any f xs ≡ false)
        → (b || list_any f xs) ≡ false
    at true h later = absurd (false≢true h)
    at false h later = later h

-- option_or_parts more than one column nor none is one
one_column : (count : ℕ → ℕ) (ps : List ℕ) → list_any (λ p. nat_lt 1 (count p)) ps ≡ false → list_all (λ p. not (count p == 0)) ps ≡ true
    → list_any (λ p. not (count p == 1)) ps ≡ false
one_column count [] twice none = refl
one_column count (p ∷ ps) twice none = grind (arith, common_steps, one_column count ps)

read_well : (fault : Option RowsFault) (given reading : RowReading) → unless_fault fault given ≡ Ok reading → (fault ≡ None) × (given ≡ reading)
read_well None given reading h = (refl, ap (λ r. reading_or r given) h)
  where
    reading_or : Result RowReading RowsFault → RowReading → RowReading
    reading_or (Ok r) other = r
    reading_or (Err e) other = other
read_well (Some fault) given reading h = absurd (false≢true (ap is_read h))
  where
    is_read : Result RowReading RowsFault → Bool
    is_read (Ok r) = true
    is_read (Err e) = false

map_pairs : (f : ℕ × List ℕ → List (Option ℕ)) (lines : List (ℕ × List ℕ))
    → map (λ (row : ℕ × List (Option ℕ)). row.1) (map (λ (line : ℕ × List ℕ). (line.0, f line)) lines) ≡ map f lines
map_pairs f [] = refl
map_pairs f (line ∷ lines) = ap (λ rest. f line ∷ rest) (map_pairs f lines)

numbered_read : (m : ModelView) (lines : List (ℕ × List ℕ)) (reading : RowReading) → read_numbered m Suite lines ≡ Ok reading
    → map (λ row. row.1) reading.rows ≡ rows_of_lines m lines
numbered_read m [] reading h = absurd (false≢true (ap is_ok h))
  where
    is_ok : Result RowReading RowsFault → Bool
    is_ok (Ok r) = true
    is_ok (Err e) = false
numbered_read m (first ∷ lines) reading h =
    let header = cells_of_line first.1 in
    let well = read_well (first_fault m Suite first.0 header lines) (read_under m first.0 header lines) reading h in
    let twice = option_or_parts (twice_fault m first.0 header) _ well.0 in
    let missing = option_or_parts (missing_fault m Suite header) _ twice.1 in
    let wide = option_or_parts (count_fault (length lines)) (width_fault header lines) missing.1 in
    let one = one_column (column_count m header) (param_numbers m)
    (not_given (list_any (λ p. nat_lt 1 (column_count m header p)) (param_numbers m)) (Twice first.0) twice.0)
    (none_found (λ p. column_count m header p == 0) (param_numbers m) (not_mapped Missing (find (λ p. column_count m header p == 0) (param_numbers m)) missing.0)) in
    let narrow = none_of (λ line. nat_lt (length header) (length (cells_of_line line.1))) lines
    (none_found (λ line. nat_lt (length header) (length (cells_of_line line.1))) lines
    (not_mapped (λ line. Width line.0) (find (λ line. nat_lt (length header) (length (cells_of_line line.1))) lines) wide.1)) in
    ap (λ r. map (λ row. row.1) r.rows) (sym well.1)
    ∙ map_pairs (λ line. row_of_line m header line.1) lines
    ∙ sym (cond-false (is_bad_header m header || list_any (λ line. nat_lt (length header) (length (cells_of_line line.1))) lines) _ _ (or_from _ _ one narrow))

pub suites_read : SuitesAreRead
suites_read m bytes reading h = numbered_read m (filled_lines bytes) reading h
