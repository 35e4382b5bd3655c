-- How a row is read cell by cell under its header.
use Rattle.std.proofs.Common.{◌≡◌, ◌≢◌, ℕ, suc, ◌+◌, ◌-◌, ◌<◌, ◌≤◌, Bool, true, false, cond, List, [], ◌∷◌, ◌++◌, map, filter, length, get_or}
use Rattle.std.proofs.Common.{take, drop, replicate, Option, Some, None, inl, inr, refl, sym, ◌∙◌, ap, ap₂, arith, zero-add}
use Rattle.std.specs.Prelude.{◌==◌, IfSome}
use Rattle.std.specs.List.{range_with_len}
use Rattle.std.specs.Option.{option_map_or}
use Rattle.std.proofs.lemmas.Bool.{cases_eq, cases_lt, eq-eqb}
use Rattle.std.proofs.lemmas.Option.{none-some, same_Some}
use Rattle.std.proofs.lemmas.List.{same_lists, length-append, length-set, length-map, length-replicate, get_or-replicate, get_or-set_same, get_or-set_other, get_or_append_left, get_or_past}
use Rattle.std.proofs.lemmas.List.{get_or_at, get_or-map, drop_more, length-drop, take_more, take_all, length-take-le, map-append, append_assoc, append-nil}
use Rattle.std.proofs.lemmas.List.Elements.{filter-append}
use Rattle.std.proofs.lemmas.List.Folds.{list_any_none}
use Rattle.std.proofs.lemmas.List.FromFn.{length-map-range_with_len, get_or-map-range_with_len}
use Rattle.value_text.specs.believed.Texts.{is_same_text}
use Rattle.value_text.proofs.ListLemmas.{Some-from_equal, range_with_len_more}
use Rattle.cov_model.specs.declared.parameter.Value.{Value}
use Rattle.cov_model.specs.believed.Sound.{ModelView, IsSound, param_at}
use Rattle.cov_model.specs.believed.Valid.{param_numbers}
use Rattle.cov_model.proofs.SoundLemmas.{param_sound}
use Rattle.definitions.specs.believed.Report.{printed}
use Rattle.definitions.specs.believed.RowFile.{cell_at, cells_of_line, columns_of, named_param, named_value, row_of_line}
use Rattle.definitions.specs.believed.RowReading.{UnknownValue, is_unknown, value_notes}
use Rattle.definitions.proofs.Members.{Has, has_filter, has_range, of_filter}
use Rattle.definitions.proofs.Names.{name_cell}
use Rattle.model_lex.specs.declared.note.Note.{Note}
use Rattle.row_text.specs.believed.Readings.{note_told}
use Rattle.row_text.specs.RowLines.{AreOnce, is_unknown_cell, with_cell, with_given}
use Rattle.row_text.proofs.LookingUp.{position_none}

-- ---- an empty cell names no value

not_empty : (fold : Bool) (text : List ℕ) → 0 < length text → is_same_text fold text [] ≡ false
not_empty fold [] some = absurd (omega arith)
not_empty true (b ∷ text) some = refl
not_empty false (b ∷ text) some = refl

printed_some : (m : ModelView) (value : Value) (name : List ℕ) → 0 < length name → 0 < length (printed m value name)
printed_some m value name some = at value.negative
  where
    at : (b : Bool) → 0 < length (cond b (m.prefix ∷ name) name)
    at true = omega arith
    at false = some

pub named_value-empty : (m : ModelView) → IsSound m → (p : ℕ) → p < length m.params → named_value m p [] ≡ None
named_value-empty m sound p within =
    let values = (param_sound m p sound within).values in
    position_none _ (param_at m.params p).values (λ v d in_values.
    list_any_none _ (get_or (param_at m.params p).values v d).names (λ k e in_names.
    not_empty m.fold _ (printed_some m (get_or (param_at m.params p).values v d) _ (name_cell _ ((values v d in_values).named k e in_names)).some)))

-- ---- the columns of a parameter

column_named : (m : ModelView) (header : List (List ℕ)) (p c : ℕ) → Has (columns_of m header p) c → named_param m (get_or header c []) ≡ Some p
column_named m header p c has =
    Some-from_equal (named_param m (get_or header c [])) p (of_filter _ (range_with_len 0 (length header)) c has).1

has_column : (m : ModelView) (header : List (List ℕ)) (p c : ℕ) → c < length header → named_param m (get_or header c []) ≡ Some p → Has (columns_of m header p) c
has_column m header p c within named =
    has_filter _ (range_with_len 0 (length header)) c (has_range 0 (length header) c (omega arith) (omega arith))
    (ap (λ o. option_map_or (λ q. q == p) o false) named ∙ eq-eqb p p refl)

only_one : (columns : List ℕ) (c : ℕ) → length columns ≤ 1 → Has columns c → columns ≡ c ∷ []
only_one [] c few has = absurd has
only_one (x ∷ []) c few (inl is) = ap (λ y. y ∷ []) is
only_one (x ∷ []) c few (inr has) = absurd has
only_one (x ∷ y ∷ columns) c few has = absurd (omega arith)

-- ---- the row that the first cells give

abbrev pub given_by : ModelView → List (List ℕ) → List (List ℕ) → ℕ → Option ℕ
given_by m header cells p = named_value m p (cell_at cells (columns_of m header p))

abbrev pub row_of_cells : ModelView → List (List ℕ) → List (List ℕ) → List (Option ℕ)
row_of_cells m header cells = map (given_by m header cells) (param_numbers m)

row_at : (m : ModelView) (header cells : List (List ℕ)) (p : ℕ) (d : Option ℕ) → p < length m.params → get_or (row_of_cells m header cells) p d ≡ given_by m header cells p
row_at m header cells p d within = get_or-map-range_with_len (given_by m header cells) 0 (length m.params) p p d within (zero-add p)

pub length-row_of_cells : (m : ModelView) (header cells : List (List ℕ)) → length (row_of_cells m header cells) ≡ length m.params
length-row_of_cells m header cells = length-map-range_with_len (given_by m header cells) 0 (length m.params)

cell_at-none : (columns : List ℕ) → cell_at [] columns ≡ []
cell_at-none [] = refl
cell_at-none (c ∷ columns) = refl

-- no cell gives nothing
pub row_none : (m : ModelView) (header : List (List ℕ)) → IsSound m → row_of_cells m header [] ≡ replicate (length m.params) None
row_none m header sound =
    let long = length-row_of_cells m header [] in
    same_lists _ _ (long ∙ sym (length-replicate (length m.params) None)) (λ p d within.
    let inside : p < length m.params = omega (arith, within, long) in
    row_at m header [] p d inside ∙ ap (named_value m p) (cell_at-none (columns_of m header p)) ∙ named_value-empty m sound p inside
    ∙ sym (get_or-replicate (length m.params) p None d inside))

-- one more cell
get_or_other : (cells : List (List ℕ)) (cell : List ℕ) (c : ℕ) → c ≢ length cells → get_or (cells ++ cell ∷ []) c [] ≡ get_or cells c []
get_or_other cells cell c other =
    elim (cases_lt c (length cells)) [
      | inl before ↦ get_or_append_left cells (cell ∷ []) [] c before
      | inr past ↦ let long = length-append cells (cell ∷ []) in get_or_past (cells ++ cell ∷ []) c [] (omega (arith, long, other, past)) ∙ sym (get_or_past cells c [] past)
    ]

cell_at_other : (cells : List (List ℕ)) (cell : List ℕ) (columns : List ℕ) → (Has columns (length cells) → ⊥) → cell_at (cells ++ cell ∷ []) columns ≡ cell_at cells columns
cell_at_other cells cell [] other = refl
cell_at_other cells cell (c ∷ columns) other = get_or_other cells cell c (λ same. other (inl same))

length-with_given : (row : List (Option ℕ)) (p : ℕ) (v : Option ℕ) → length (with_given row p v) ≡ length row
length-with_given row p None = refl
length-with_given row p (Some v) = length-set row p (Some v)

with_given-other : (row : List (Option ℕ)) (p q : ℕ) (v d : Option ℕ) → q ≢ p → get_or (with_given row p v) q d ≡ get_or row q d
with_given-other row p q None d other = refl
with_given-other row p q (Some v) d other = get_or-set_other row p q (Some v) d other

with_given-same : (row : List (Option ℕ)) (p : ℕ) (v d : Option ℕ) → p < length row → get_or row p d ≡ None → get_or (with_given row p v) p d ≡ v
with_given-same row p None d within none = none
with_given-same row p (Some v) d within none = get_or-set_same row p (Some v) d within

module _ (m : ModelView) (sound : IsSound m) (header done : List (List ℕ)) (cell : List ℕ) (once : AreOnce m header) (within : length done < length header) where
  -- a parameter that the column isn't of
  kept : (q : ℕ) → (named_param m (get_or header (length done) []) ≡ Some q → ⊥) → given_by m header (done ++ cell ∷ []) q ≡ given_by m header done q
  kept q other = ap (named_value m q) (cell_at_other done cell (columns_of m header q) (λ has. other (column_named m header q (length done) has)))

  -- and the one that it is of
  own : (p : ℕ) → p < length m.params → named_param m (get_or header (length done) []) ≡ Some p → (cells : List (List ℕ))
      → given_by m header cells p ≡ named_value m p (get_or cells (length done) [])
  own p inside named cells =
      ap (λ columns. named_value m p (cell_at cells columns))
      (only_one (columns_of m header p) (length done) (once p inside) (has_column m header p (length done) within named))

  pub row_more : (column : Option ℕ) → named_param m (get_or header (length done) []) ≡ column → IfSome column (λ p. p < length m.params)
      → row_of_cells m header (done ++ cell ∷ []) ≡ with_cell m column cell (row_of_cells m header done)
  row_more None named inside =
      same_lists _ _ (length-row_of_cells m header (done ++ cell ∷ []) ∙ sym (length-row_of_cells m header done)) (λ q d few.
      let has : q < length m.params = omega (arith, few, length-row_of_cells m header (done ++ cell ∷ [])) in
      row_at m header (done ++ cell ∷ []) q d has ∙ kept q (λ is. none-some q (sym named ∙ is)) ∙ sym (row_at m header done q d has))
  row_more (Some p) named inside =
      let row = row_of_cells m header done in
      let v = named_value m p cell in
      let long = length-row_of_cells m header done in
      same_lists _ _ (length-row_of_cells m header (done ++ cell ∷ []) ∙ sym (length-with_given row p v ∙ long)) (λ q d few.
      let has : q < length m.params = omega (arith, few, length-row_of_cells m header (done ++ cell ∷ [])) in
      elim (cases_eq q p) [
        | inl same ↦
            let new : given_by m header (done ++ cell ∷ []) p ≡ v = own p inside named (done ++ cell ∷ []) ∙ ap (named_value m p) (get_or_at done cell [] [] (length done) refl) in
            let old : get_or row p d ≡ None =
            row_at m header done p d inside ∙ own p inside named done ∙ ap (named_value m p) (get_or_past done (length done) [] (omega arith)) ∙ named_value-empty m sound p inside in
            let in_row : p < length row = omega (arith, long, inside) in
            row_at m header (done ++ cell ∷ []) q d has ∙ ap (given_by m header (done ++ cell ∷ [])) same ∙ new
            ∙ sym (with_given-same row p v d in_row old) ∙ ap (λ k. get_or (with_given row p v) k d) (sym same)
        | inr other ↦
            row_at m header (done ++ cell ∷ []) q d has ∙ kept q (λ is. other (same_Some q p (sym is ∙ named)))
            ∙ sym (row_at m header done q d has) ∙ sym (with_given-other row p q v d other)
      ])

-- ---- the notes on the first cells

abbrev pub notes_on : ModelView → List (List ℕ) → List (List ℕ) → ℕ → ℕ → List Note
notes_on m header cells line k = map note_told (map (λ column. (line, UnknownValue)) (filter (is_unknown m header cells) (range_with_len 0 k)))

note_where : (b : Bool) (line k : ℕ) → map note_told (map (λ (column : ℕ). (line, UnknownValue)) (cond b (k ∷ []) [])) ≡ cond b (note_told (line, UnknownValue) ∷ []) []
note_where true line k = refl
note_where false line k = refl

pub notes_more : (m : ModelView) (header cells : List (List ℕ)) (line k : ℕ)
    → notes_on m header cells line (k + 1) ≡ notes_on m header cells line k ++ cond (is_unknown m header cells k) (note_told (line, UnknownValue) ∷ []) []
notes_more m header cells line k =
    let told : List ℕ → List Note = λ columns. map note_told (map (λ column. (line, UnknownValue)) columns) in
    let test = is_unknown m header cells in
    ap (λ columns. told (filter test columns)) (range_with_len_more 0 k ∙ ap (λ n. range_with_len 0 k ++ n ∷ []) (zero-add k))
    ∙ ap told (filter-append test (range_with_len 0 k) (k ∷ []))
    ∙ ap (map note_told) (map-append (λ column. (line, UnknownValue)) (filter test (range_with_len 0 k)) (filter test (k ∷ [])))
    ∙ map-append note_told (map (λ column. (line, UnknownValue)) (filter test (range_with_len 0 k))) (map (λ column. (line, UnknownValue)) (filter test (k ∷ [])))
    ∙ ap (λ notes. notes_on m header cells line k ++ notes) (note_where (test k) line k)

-- ---- a row that is read as far as its first cells

-- the next of the cells that are left
pub next_of_left : (cells left rest : List (List ℕ)) (k : ℕ) (cell : List ℕ) → left ≡ drop k cells → left ≡ cell ∷ rest
    → (k < length cells) × (cell ≡ get_or cells k []) × (rest ≡ drop (k + 1) cells)
next_of_left cells left rest k cell is next =
    let long : length cells - k ≡ suc (length rest) = sym (length-drop k cells) ∙ ap length (sym is ∙ next) in
    let within : k < length cells = omega (arith, long) in
    let same : cell ∷ rest ≡ get_or cells k [] ∷ drop (k + 1) cells = sym next ∙ is ∙ drop_more cells k [] within in
    (within, cc, cc)

pub record RowSoFar (m : ModelView) (columns : List (Option ℕ)) (cells left : List (List ℕ)) (line : ℕ) (start : List Note) (k : ℕ) (row : List (Option ℕ)) (notes : List Note) : Type 0 where
  pub is_left : left ≡ drop k cells
  pub long : length row ≡ length m.params
  pub reads : (header : List (List ℕ)) → columns ≡ map (named_param m) header → AreOnce m header → row ≡ row_of_cells m header (take k cells)
  pub tells : (header : List (List ℕ)) → columns ≡ map (named_param m) header → notes ≡ start ++ notes_on m header cells line k

pub row_begins : (m : ModelView) (columns : List (Option ℕ)) (cells left : List (List ℕ)) (line : ℕ) (start : List Note) (row : List (Option ℕ)) → IsSound m → left ≡ cells
    → row ≡ replicate (length m.params) None → RowSoFar m columns cells left line start 0 row start
row_begins m columns cells left line start row sound all is = record {
  is_left = all;
  long = ap length is ∙ length-replicate (length m.params) None;
  reads = λ header same once. is ∙ sym (row_none m header sound);
  tells = λ header same. sym (append-nil start);
}

pub row_goes_on : (m : ModelView) (columns : List (Option ℕ)) (cells left rest : List (List ℕ)) (line : ℕ) (start : List Note) (k : ℕ) (row new_row : List (Option ℕ)) (notes new_notes : List Note)
    (column : Option ℕ) (cell : List ℕ) → IsSound m → RowSoFar m columns cells left line start k row notes → left ≡ cell ∷ rest → k < length columns
    → column ≡ get_or columns k None → IfSome column (λ p. p < length m.params)
    → new_row ≡ with_cell m column cell row → length new_row ≡ length row
    → new_notes ≡ notes ++ cond (is_unknown_cell m column cell) (note_told (line, UnknownValue) ∷ []) []
    → RowSoFar m columns cells rest line start (k + 1) new_row new_notes
row_goes_on m columns cells left rest line start k row new_row notes new_notes column cell sound so_far next in_columns is_column inside is_row same_long is_notes = record {
  is_left = taken.2;
  long = same_long ∙ so_far.long;
  reads = λ header same once.
      let done : List (List ℕ) = take k cells in
      let count : length done ≡ k = length-take-le k cells (omega (arith, taken.0)) in
      let few : length done < length header = omega (arith, count, ap length same, length-map header (named_param m), in_columns) in
      let named : named_param m (get_or header (length done) []) ≡ column = ap (λ n. named_param m (get_or header n [])) count ∙ named_at header same in
      is_row ∙ ap (with_cell m column cell) (so_far.reads header same once)
      ∙ sym (row_more m sound header done cell once few column named inside)
      ∙ ap (λ c. row_of_cells m header (done ++ c ∷ [])) taken.1
      ∙ ap (row_of_cells m header) (sym (take_more cells k [] taken.0));
  tells = λ header same.
      let due : is_unknown_cell m column cell ≡ is_unknown m header cells k =
      ap (λ c. is_unknown_cell m column c) taken.1 ∙ ap (λ o. is_unknown_cell m o (get_or cells k [])) (sym (named_at header same)) in
      is_notes ∙ ap₂ (λ (front : List Note) (b : Bool). front ++ cond b (note_told (line, UnknownValue) ∷ []) []) (so_far.tells header same) due
      ∙ append_assoc start (notes_on m header cells line k) (cond (is_unknown m header cells k) (note_told (line, UnknownValue) ∷ []) [])
      ∙ ap (λ rest. start ++ rest) (sym (notes_more m header cells line k));
}
  where
    taken : (k < length cells) × (cell ≡ get_or cells k []) × (rest ≡ drop (k + 1) cells)
    taken = next_of_left cells left rest k cell so_far.is_left next

    named_at : (header : List (List ℕ)) → columns ≡ map (named_param m) header → named_param m (get_or header k []) ≡ column
    named_at header same =
        let inside : k < length header = omega (arith, ap length same, length-map header (named_param m), in_columns) in
        sym (is_column ∙ ap (λ list. get_or list k None) same ∙ get_or-map (named_param m) header k [] None inside)

pub row_ends : (m : ModelView) (columns : List (Option ℕ)) (left : List (List ℕ)) (line : ℕ) (text : List ℕ) (start : List Note) (k : ℕ) (row : List (Option ℕ)) (notes : List Note)
    → RowSoFar m columns (cells_of_line text) left line start k row notes → left ≡ [] → k ≤ length (cells_of_line text)
    → ((header : List (List ℕ)) → columns ≡ map (named_param m) header → AreOnce m header → row ≡ row_of_line m header text)
    × ((header : List (List ℕ)) → columns ≡ map (named_param m) header → notes ≡ start ++ map note_told (value_notes m header (line, text)))
row_ends m columns left line text start k row notes so_far none few = (
  λ header same once. so_far.reads header same once ∙ ap (row_of_cells m header) (take_all k (cells_of_line text) (omega (arith, all))),
  λ header same. so_far.tells header same ∙ ap (λ n. start ++ notes_on m header (cells_of_line text) line n) all,
)
  where
    all : k ≡ length (cells_of_line text)
    all = omega (arith, few, length-drop k (cells_of_line text), ap length (sym so_far.is_left ∙ none))
