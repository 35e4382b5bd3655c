-- Lines of a report, cell by cell, and the lines of rows, one behind another.
use Rattle.std.proofs.Common.{◌≡◌, ℕ, ◌+◌, ◌<◌, Bool, true, false, if◌then◌else◌, List, [], ◌∷◌, ◌++◌, Option, map, length, get_or, take, sym, refl, ap, ◌∙◌, arith, append_assoc}
use Rattle.std.proofs.lemmas.List.{take_more, length-take-le, get_or-map, length-map, append-nil}
use Rattle.std.specs.List.{join_with_byte}
use Rattle.cov_model.specs.declared.parameter.Value.{Value}
use Rattle.cov_model.specs.believed.Sound.{ModelView}
use Rattle.definitions.specs.believed.Report.{printed, row_line, row_lines}
use Rattle.row_text.specs.Buffering.{separator}

-- a cell at the end of the others
join_with_byte-push : (cells : List (List ℕ)) (cell : List ℕ)
    → join_with_byte 9 (cells ++ cell ∷ []) ≡ join_with_byte 9 cells ++ (separator (length cells) ++ cell)
join_with_byte-push [] cell = refl
join_with_byte-push (a ∷ []) cell = refl
join_with_byte-push (a ∷ b ∷ cells) cell =
    ap (λ rest. a ++ (9 ∷ rest)) (join_with_byte-push (b ∷ cells) cell) ∙ sym (append_assoc a (9 ∷ join_with_byte 9 (b ∷ cells)) (9 ∷ cell))

-- the cells so far, one for each element, and the next
pub line_more : {X : Type 0} (f : X → List ℕ) (xs : List X) (i : ℕ) (d : X) (cell : List ℕ) → i < length xs → cell ≡ f (get_or xs i d)
    → (join_with_byte 9 (take i (map f xs)) ++ separator i) ++ cell ≡ join_with_byte 9 (take (i + 1) (map f xs))
line_more f xs i d cell inside is =
    let cells = map f xs in
    let inside_map : i < length cells = omega (arith, length-map xs f) in
    let same : cell ≡ get_or cells i [] = is ∙ sym (get_or-map f xs i d [] inside) in
    let place : length (take i cells) ≡ i = length-take-le i cells (omega arith) in
    append_assoc (join_with_byte 9 (take i cells)) (separator i) cell
    ∙ sym (ap (join_with_byte 9) (take_more cells i [] inside_map) ∙ join_with_byte-push (take i cells) (get_or cells i [])
    ∙ ap (λ n. join_with_byte 9 (take i cells) ++ (separator n ++ get_or cells i [])) place ∙ ap (λ x. join_with_byte 9 (take i cells) ++ (separator i ++ x))
    (sym same))

-- a row behind the others
row_lines-push : (m : ModelView) (earlier rows : List (List (Option ℕ))) (row : List (Option ℕ))
    → row_lines m earlier (rows ++ row ∷ []) ≡ row_lines m earlier rows ++ row_line m (earlier ++ rows) row
row_lines-push m earlier [] row = append-nil (row_line m earlier row) ∙ ap (λ before. row_line m before row) (sym (append-nil earlier))
row_lines-push m earlier (first ∷ rows) row =
    ap (λ rest. row_line m earlier first ++ rest) (row_lines-push m (earlier ++ first ∷ []) rows row
    ∙ ap (λ before. row_lines m (earlier ++ first ∷ []) rows ++ row_line m before row) (append_assoc earlier (first ∷ []) rows))
    ∙ sym (append_assoc (row_line m earlier first) (row_lines m (earlier ++ first ∷ []) rows) (row_line m (earlier ++ first ∷ rows) row))

-- the rows so far, and the next
pub row_lines-more : (m : ModelView) (rows : List (List (Option ℕ))) (i : ℕ) → i < length rows
    → row_lines m [] (take i rows) ++ row_line m (take i rows) (get_or rows i []) ≡ row_lines m [] (take (i + 1) rows)
row_lines-more m rows i inside = sym (ap (row_lines m []) (take_more rows i [] inside) ∙ row_lines-push m [] (take i rows) (get_or rows i []))

-- the mark, if the value is negative, and its name
pub printed_parts : (m : ModelView) (value : Value) (name : List ℕ) → (if value.negative then m.prefix ∷ [] else []) ++ name ≡ printed m value name
printed_parts m value name = by_sign value.negative
  where
    by_sign : (negative : Bool) → (if negative then m.prefix ∷ [] else []) ++ name ≡ (if negative then m.prefix ∷ name else name)
    by_sign true = refl
    by_sign false = refl
