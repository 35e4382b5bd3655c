-- Cells one after another, each with whether it ends its row, as the rows that they are of.
use Rattle.std.proofs.Common.{◌≡◌, ◌<◌, arith, length, Bool, true, false, List, [], ◌∷◌, ◌++◌, ◌∙◌, refl, ap, map}
use Rattle.std.specs.Prelude.{flat_map, Option, ℕ}
use Rattle.std.specs.List.{AllByRecursion}
use Rattle.comma_rows.specs.Rows.{onto_rows, rows_of}
use Rattle.row_forms.specs.believed.Forms.{text_of}

-- the cells of a row, of which the last ends it
abbrev pub ended : List (List ℕ) → List (List ℕ × Bool)
ended [] = []
ended (x ∷ []) = (x, true) ∷ []
ended (x ∷ y ∷ xs) = (x, false) ∷ ended (y ∷ xs)

abbrev pub HasCell : List (List ℕ) → Type 0
HasCell [] = ⊥
HasCell (x ∷ xs) = Unit {0}

onto-map : {A B : Type 0} (f : A → B) (ends : Bool) (x : A) (rows : List (List A)) → onto_rows ends (f x) (map (map f) rows) ≡ map (map f) (onto_rows ends x rows)
onto-map f ends x [] = refl
onto-map f true x (row ∷ rows) = refl
onto-map f false x (row ∷ rows) = refl

-- cells that are changed alike, but for whether they end a row
pub rows-map : {A B : Type 0} (f : A → B) (ends : B → Bool) (xs : List A) → rows_of ends (map f xs) ≡ map (map f) (rows_of (λ x. ends (f x)) xs)
rows-map f ends [] = refl
rows-map f ends (x ∷ xs) = ap (onto_rows (ends (f x)) (f x)) (rows-map f ends xs) ∙ onto-map f (ends (f x)) x (rows_of (λ y. ends (f y)) xs)

onto-end : {A : Type 0} (x : A) (rows : List (List A)) → onto_rows true x rows ≡ (x ∷ []) ∷ rows
onto-end x [] = refl
onto-end x (row ∷ rows) = refl

-- the cells of a row before other cells
row-first : (row : List (List ℕ)) (more : List (List ℕ × Bool)) → HasCell row → rows_of (λ cell. cell.1) (ended row ++ more) ≡ ended row ∷ rows_of (λ cell. cell.1) more
row-first [] more has = absurd has
row-first (x ∷ []) more has = onto-end (x, true) (rows_of (λ cell. cell.1) more)
row-first (x ∷ y ∷ xs) more has = ap (onto_rows false (x, false)) (row-first (y ∷ xs) more tt)

texts-ended : (row : List (List ℕ)) → map (λ cell. cell.0) (ended row) ≡ row
texts-ended [] = refl
texts-ended (x ∷ []) = refl
texts-ended (x ∷ y ∷ xs) = ap (λ (l : List (List ℕ)). x ∷ l) (texts-ended (y ∷ xs))

-- the cells of rows are of these rows
pub rows-ended : (rows : List (List (List ℕ))) → AllByRecursion HasCell rows → map (map (λ cell. cell.0)) (rows_of (λ cell. cell.1) (flat_map ended rows)) ≡ rows
rows-ended [] has = refl
rows-ended (row ∷ rows) has =
    ap (map (map (λ (cell : List ℕ × Bool). cell.0))) (row-first row (flat_map ended rows) has.0)
    ∙ ap (λ (r : List (List ℕ)). r ∷ map (map (λ (cell : List ℕ × Bool). cell.0)) (rows_of (λ cell. cell.1) (flat_map ended rows))) (texts-ended row)
    ∙ ap (λ (rs : List (List (List ℕ))). row ∷ rs) (rows-ended rows has.1)

-- where a table has a column, each row has a cell
pub has-cells : (names : List (List ℕ)) (rows : List (List (Option (List ℕ)))) → 0 < length names → AllByRecursion (λ row. length row ≡ length names) rows
    → AllByRecursion HasCell (map (map text_of) rows)
has-cells names [] some same = tt
has-cells names (row ∷ rows) some same = (has-cell row same.0, has-cells names rows some same.1)
  where
    has-cell : (row : List (Option (List ℕ))) → length row ≡ length names → HasCell (map text_of row)
    has-cell [] same = absurd (omega (arith, some, same))
    has-cell (cell ∷ cells) same = tt

pub has-names : (names : List (List ℕ)) → 0 < length names → HasCell names
has-names [] some = absurd (omega (arith, some))
has-names (name ∷ names) some = tt
