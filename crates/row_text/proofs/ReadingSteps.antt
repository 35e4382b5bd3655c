-- How a row file is read line by line, and what its checks find.
use Rattle.std.proofs.Common.{◌≡◌, ℕ, suc, ◌<◌, ◌≤◌, Bool, true, not, List, [], ◌∷◌, ◌++◌, map, length, get_or, All, AllPairs, Option, Some, None}
use Rattle.std.proofs.Common.{is_some, unwrap_or, Ok, Err, find, nat_lt, refl, sym, ◌∙◌, ap, ap₂, subst, arith, zero-add}
use Rattle.std.specs.Prelude.{IfSome}
use Rattle.std.specs.List.{flat_map, list_any}
use Rattle.std.specs.Option.{option_or}
use Rattle.std.proofs.lemmas.Bool.{both_ways, false_from_ne_true, ltb-false, not-true, true≢false}
use Rattle.std.proofs.lemmas.Option.{none-some}
use Rattle.std.proofs.lemmas.List.{append-nil, append_assoc, get_or-map, length-map, map-append}
use Rattle.std.proofs.lemmas.List.Elements.{All-head, All-tail}
use Rattle.std.proofs.lemmas.List.Folds.{list_any_at}
use Rattle.std.proofs.lemmas.List.FromFn.{get_or-map-range_with_len, get_or-range_with_len, length-map-range_with_len, length-range_with_len}
use Rattle.std.proofs.lemmas.List.Quantifiers.{position-Some}
use Rattle.std.proofs.lemmas.List.Sums.{AllPass-from_list_all}
use Rattle.value_text.proofs.ListLemmas.{option_or_parts}
use Rattle.cov_model.specs.believed.Sound.{ModelView, param_at}
use Rattle.value_text.specs.believed.Texts.{is_same_text}
use Rattle.cov_model.specs.Fits.{FitsModel}
use Rattle.cov_model.specs.believed.Meaning.{no_value}
use Rattle.definitions.specs.believed.Report.{printed}
use Rattle.cov_model.specs.believed.Valid.{param_numbers}
use Rattle.cov_model.proofs.CellLemmas.{assigned_within}
use Rattle.definitions.specs.believed.Limits.{Rows, most_counted}
use Rattle.definitions.specs.believed.RowFile.{cell_at, cells_of_line, columns_of, filled_lines, named_param, named_value, row_of_line}
use Rattle.definitions.specs.believed.RowReading as defined
use Rattle.definitions.specs.believed.RowReading.{RowReading, column_count, column_notes, count_fault, first_fault, missing_fault, read_numbered}
use Rattle.definitions.specs.believed.RowReading.{read_under, twice_fault, unless_fault, value_notes, width_fault}
use Rattle.definitions.proofs.Nothing.{none_found}
use Rattle.model_lex.specs.believed.Lines.{file_lines, without_mark}
use Rattle.model_lex.specs.declared.note.Note.{Note}
use Rattle.row_text.specs.Readings.{HoldsReading, IsFileOf, fault_of}
use Rattle.row_text.specs.believed.Readings.{note_told}
use Rattle.row_text.specs.RowFiles.{row_seen, seeds_seen}
use Rattle.row_text.specs.RowLines.{AreOnce}
use Rattle.row_text.specs.declared.filled_lines.FilledLine.{FilledLine}
use Rattle.row_text.specs.declared.row_file.FileRow.{FileRow}
use Rattle.row_text.specs.declared.row_file.RowFile.{RowFile}
use Rattle.row_text.specs.declared.rows_fault.RowsFault.{RowsFault}
use Rattle.row_text.proofs.LineSteps.{rising}
use Rattle.definitions.proofs.Readings.{not_given, not_mapped}

-- ---- line by line

-- the row of a line, with its number
abbrev pub numbered_row : ModelView → List (List ℕ) → ℕ × List ℕ → ℕ × List (Option ℕ)
numbered_row m header line = (line.0, row_of_line m header line.1)

pub record LinesSoFar (m : ModelView) (columns : List (Option ℕ)) (start : List Note) (lines left : List (ℕ × List ℕ)) (rows : List FileRow) (notes : List Note) : Type 0 where
  pub narrow : All (λ line. length (cells_of_line line.1) ≤ length columns) left
  pub reads : (header : List (List ℕ)) → columns ≡ map (named_param m) header → AreOnce m header
      → map row_seen rows ++ map (numbered_row m header) left ≡ map (numbered_row m header) lines
  pub tells : (header : List (List ℕ)) → columns ≡ map (named_param m) header
      → notes ++ map note_told (flat_map (value_notes m header) left) ≡ start ++ map note_told (flat_map (value_notes m header) lines)

pub lines_begin : (m : ModelView) (columns : List (Option ℕ)) (start : List Note) (lines : List (ℕ × List ℕ))
    → All (λ line. length (cells_of_line line.1) ≤ length columns) lines → LinesSoFar m columns start lines lines [] start
lines_begin m columns start lines narrow = record { narrow = narrow; reads = λ header same once. refl; tells = λ header same. refl }

module _ (m : ModelView) (columns : List (Option ℕ)) (start : List Note) (lines left rest : List (ℕ × List ℕ)) (line : ℕ × List ℕ) (rows : List FileRow) (notes : List Note)
    (so_far : LinesSoFar m columns start lines left rows notes) (next : left ≡ line ∷ rest) where
  pub line_narrow : length (cells_of_line line.1) ≤ length columns
  line_narrow =
      All-head (λ l. length (cells_of_line l.1) ≤ length columns) line rest (subst (All (λ l. length (cells_of_line l.1) ≤ length columns)) next so_far.narrow)

  pub line_goes_on : (row : FileRow) (new_rows : List FileRow) (new_notes : List Note) → row.line ≡ line.0
      → ((header : List (List ℕ)) → columns ≡ map (named_param m) header → AreOnce m header → row.cells ≡ row_of_line m header line.1)
      → ((header : List (List ℕ)) → columns ≡ map (named_param m) header → new_notes ≡ notes ++ map note_told (value_notes m header line))
      → new_rows ≡ rows ++ row ∷ [] → LinesSoFar m columns start lines rest new_rows new_notes
  line_goes_on row new_rows new_notes number cells told pushed = record {
    narrow = All-tail (λ l. length (cells_of_line l.1) ≤ length columns) line rest (subst (All (λ l. length (cells_of_line l.1) ≤ length columns)) next so_far.narrow);
    reads = λ header same once.
        let f = numbered_row m header in
        ap (λ list. map row_seen list ++ map f rest) pushed ∙ ap (λ list. list ++ map f rest) (map-append row_seen rows (row ∷ []))
        ∙ append_assoc (map row_seen rows) (row_seen row ∷ []) (map f rest)
        ∙ ap₂ (λ n c. map row_seen rows ++ (n, c) ∷ map f rest) number (cells header same once)
        ∙ ap (λ list. map row_seen rows ++ map f list) (sym next) ∙ so_far.reads header same once;
    tells = λ header same.
        let f = value_notes m header in
        ap (λ list. list ++ map note_told (flat_map f rest)) (told header same)
        ∙ append_assoc notes (map note_told (f line)) (map note_told (flat_map f rest))
        ∙ ap (λ list. notes ++ list) (sym (map-append note_told (f line) (flat_map f rest)))
        ∙ ap (λ list. notes ++ map note_told (flat_map f list)) (sym next) ∙ so_far.tells header same;
  }

pub lines_end : (m : ModelView) (columns : List (Option ℕ)) (start : List Note) (lines left : List (ℕ × List ℕ)) (rows : List FileRow) (notes : List Note)
    → LinesSoFar m columns start lines left rows notes → left ≡ []
    → ((header : List (List ℕ)) → columns ≡ map (named_param m) header → AreOnce m header → map row_seen rows ≡ map (numbered_row m header) lines)
    × ((header : List (List ℕ)) → columns ≡ map (named_param m) header → notes ≡ start ++ map note_told (flat_map (value_notes m header) lines))
lines_end m columns start lines left rows notes so_far none = (
  λ header same once.
      sym (append-nil (map row_seen rows)) ∙ ap (λ list. map row_seen rows ++ map (numbered_row m header) list) (sym none) ∙ so_far.reads header same once,
  λ header same.
      sym (append-nil notes) ∙ ap (λ list. notes ++ map note_told (flat_map (value_notes m header) list)) (sym none) ∙ so_far.tells header same,
)

-- ---- what follows where no fault is found

pub once_from_fault : (m : ModelView) (line : ℕ) (header : List (List ℕ)) → twice_fault m line header ≡ None → AreOnce m header
once_from_fault m line header none p within =
    let test : ℕ → Bool = λ q. nat_lt 1 (column_count m header q) in
    let size = length-range_with_len 0 (length m.params) in
    let at : get_or (param_numbers m) p 0 ≡ p = get_or-range_with_len 0 (length m.params) p 0 within ∙ zero-add p in
    ltb-false 1 (column_count m header p) (false_from_ne_true (test p) (λ is.
    both_ways (list_any test (param_numbers m)) (not_given (list_any test (param_numbers m)) (defined.Twice line) none)
    (list_any_at test (param_numbers m) p 0 (omega (arith, size, within)) (ap test at ∙ is))))

pub narrow_from_fault : (header : List (List ℕ)) (lines : List (ℕ × List ℕ)) → width_fault header lines ≡ None → All (λ line. length (cells_of_line line.1) ≤ length header) lines
narrow_from_fault header lines none k d within =
    let test : ℕ × List ℕ → Bool = λ line. nat_lt (length header) (length (cells_of_line line.1)) in
    let none_wide = none_found test lines (not_mapped (λ line. defined.Width line.0) (find test lines) none) in
    ltb-false (length header) (length (cells_of_line (get_or lines k d).1))
    (not-true (test (get_or lines k d)) (AllPass-from_list_all (λ line. not (test line)) lines none_wide k d within))

pub few_from_fault : (count : ℕ) → count_fault count ≡ None → count ≤ most_counted Rows
few_from_fault count none = ltb-false (most_counted Rows) count (not_given (nat_lt (most_counted Rows) count) (defined.TooManyRows count) none)

-- ---- what every row that is read keeps

value_exists : (m : ModelView) (p : ℕ) (cell : List ℕ) (v : Option ℕ) → named_value m p cell ≡ v → is_some v ≡ true → unwrap_or v 0 < length (param_at m.params p).values
value_exists m p cell None named some = absurd (true≢false (sym some))
value_exists m p cell (Some v) named some = (position-Some (λ value. list_any (λ name. is_same_text m.fold (printed m value name) cell) value.names) (param_at m.params p).values v no_value named).0

pub row_fits : (m : ModelView) (header : List (List ℕ)) (text : List ℕ) → FitsModel m (row_of_line m header text)
row_fits m header text =
    let f : ℕ → Option ℕ = λ p. named_value m p (cell_at (cells_of_line text) (columns_of m header p)) in
    let long = length-map-range_with_len f 0 (length m.params) in
    record {
      as_long = long;
      exist = λ p assigned.
          let within : p < length m.params = omega (arith, long, assigned_within (row_of_line m header text) p assigned) in
          let at : f p ≡ get_or (row_of_line m header text) p None = sym (get_or-map-range_with_len f 0 (length m.params) p p None within (zero-add p)) in
          value_exists m p (cell_at (cells_of_line text) (columns_of m header p)) (get_or (row_of_line m header text) p None) at assigned;
    }

no_row : FileRow
no_row = record { line = 0; cells = [] }

-- a row of the file is that of a line
row_is : (m : ModelView) (header : List (List ℕ)) (rows : List FileRow) (lines : List (ℕ × List ℕ)) (k : ℕ) (d : FileRow) → map row_seen rows ≡ map (numbered_row m header) lines
    → k < length rows → row_seen (get_or rows k d) ≡ numbered_row m header (get_or lines k (0, []))
row_is m header rows lines k d same within =
    let size = ap length same in
    sym (get_or-map row_seen rows k d (0, []) within) ∙ ap (λ list. get_or list k (0, [])) same
    ∙ get_or-map (numbered_row m header) lines k (0, []) (0, []) (omega (arith, within, size, length-map rows row_seen, length-map lines (numbered_row m header)))

pub file_keeps : (m : ModelView) (header : List (List ℕ)) (file : RowFile) (bytes : List ℕ) (first : ℕ × List ℕ) (lines : List (ℕ × List ℕ))
    → filled_lines bytes ≡ first ∷ lines → seeds_seen file ≡ map (numbered_row m header) lines → length lines ≤ most_counted Rows → IsFileOf m file
file_keeps m header file bytes first lines all same few =
    let size : length file.rows ≡ length lines = sym (length-map file.rows row_seen) ∙ ap length same ∙ length-map lines (numbered_row m header) in
    let numbers = subst (AllPairs (λ a b. a.0 < b.0)) all (rising (λ line. nat_lt 0 (length line.1)) 1 (file_lines (without_mark bytes))) in
    record {
      fit = λ k d within. subst (FitsModel m) (sym (ap (λ row. row.1) (row_is m header file.rows lines k d same within))) (row_fits m header (get_or lines k (0, [])).1);
      few = omega (arith, size, few);
      rising = λ i j d before within.
          let a = ap (λ row. row.0) (row_is m header file.rows lines i d same (omega arith)) in
          let b = ap (λ row. row.0) (row_is m header file.rows lines j d same within) in
          omega (arith, a, b, numbers (suc i) (suc j) (0, []) (omega arith) (omega (arith, size, within)));
    }

-- ---- under a header that is read

-- the columns, also as they are lent, are of the parameters that its cells name
pub record UnderHeader (m : ModelView) (first : FilledLine) (columns lent : List (Option ℕ)) : Type 0 where
  pub named : columns ≡ map (named_param m) (cells_of_line first.text.now)
  pub lent_named : lent ≡ map (named_param m) (cells_of_line first.text.now)
  pub size : length (cells_of_line first.text.now) ≡ length lent

pub under_header : (m : ModelView) (first : FilledLine) (columns lent : List (Option ℕ)) → columns ≡ map (named_param m) (cells_of_line first.text.now) → lent ≡ columns
    → UnderHeader m first columns lent
under_header m first columns lent named is_lent =
    let cells = cells_of_line first.text.now in
    record { named = named; lent_named = is_lent ∙ named; size = sym (ap length (is_lent ∙ named) ∙ length-map cells (named_param m)) }

-- ---- the answer

-- the rows and the notes of lines under the names of the model
pub rows_under : (m names : ModelView) (header : List (List ℕ)) (columns : List (Option ℕ)) (rows : List (ℕ × List (Option ℕ))) (lines : List (ℕ × List ℕ)) → names ≡ m
    → columns ≡ map (named_param m) header → AreOnce m header
    → ((cells : List (List ℕ)) → columns ≡ map (named_param names) cells → AreOnce names cells → rows ≡ map (numbered_row names cells) lines)
    → rows ≡ map (numbered_row m header) lines
rows_under m names header columns rows lines same are once read =
    read header (are ∙ ap (λ n. map (named_param n) header) (sym same)) (subst (λ n. AreOnce n header) (sym same) once) ∙ ap (λ n. map (numbered_row n header) lines) same

pub notes_under_names : (m names : ModelView) (header : List (List ℕ)) (columns : List (Option ℕ)) (start notes : List Note) (lines : List (ℕ × List ℕ)) → names ≡ m
    → columns ≡ map (named_param m) header
    → ((cells : List (List ℕ)) → columns ≡ map (named_param names) cells → notes ≡ start ++ map note_told (flat_map (value_notes names cells) lines))
    → notes ≡ start ++ map note_told (flat_map (value_notes m header) lines)
notes_under_names m names header columns start notes lines same are read =
    read header (are ∙ ap (λ n. map (named_param n) header) (sym same)) ∙ ap (λ n. start ++ map note_told (flat_map (value_notes n header) lines)) same

first_found : {X : Type 0} (a b c : Option X) (x : X) → option_or a b ≡ Some x → option_or a (option_or b c) ≡ Some x
first_found (Some y) b c x found = found
first_found None (Some y) c x found = found
first_found None None c x found = absurd (none-some x found)

-- want of memory tells no fault
told : (o : Option defined.RowsFault) (found whole : Option defined.RowsFault) (reading : RowReading) → IfSome o (λ given. found ≡ Some given)
    → ((fault : defined.RowsFault) → found ≡ Some fault → whole ≡ Some fault) → IfSome o (λ given. unless_fault whole reading ≡ Err given)
told None found whole reading tells more = tt
told (Some given) found whole reading tells more = ap (λ fault. unless_fault fault reading) (more given tells)

module _ (m : ModelView) (mode : defined.RowMode) (first : ℕ × List ℕ) (lines : List (ℕ × List ℕ)) where
  abbrev header : List (List ℕ)
  header = cells_of_line first.1

  abbrev above : Option defined.RowsFault
  above = option_or (twice_fault m first.0 header) (missing_fault m mode header)

  abbrev under : Option defined.RowsFault
  under = option_or (count_fault (length lines)) (width_fault header lines)

  pub refused_above : (fault : RowsFault) → IfSome (fault_of fault) (λ given. above ≡ Some given)
      → IfSome (fault_of fault) (λ given. read_numbered m mode (first ∷ lines) ≡ Err given)
  refused_above fault finds =
      told (fault_of fault) above (first_fault m mode first.0 header lines) (read_under m first.0 header lines) finds
      (λ given found. first_found (twice_fault m first.0 header) (missing_fault m mode header) under given found)

  none_above : above ≡ None → first_fault m mode first.0 header lines ≡ under
  none_above none =
      let parts = option_or_parts (twice_fault m first.0 header) (missing_fault m mode header) none in
      ap₂ (λ a b. option_or a (option_or b under)) parts.0 parts.1

  pub refused_under : (fault : RowsFault) → above ≡ None → IfSome (fault_of fault) (λ given. under ≡ Some given)
      → IfSome (fault_of fault) (λ given. read_numbered m mode (first ∷ lines) ≡ Err given)
  refused_under fault none finds =
      told (fault_of fault) under (first_fault m mode first.0 header lines) (read_under m first.0 header lines) finds (λ given found. none_above none ∙ found)

  pub accepted : (file : RowFile) (notes : List Note) → above ≡ None → under ≡ None
      → seeds_seen file ≡ map (numbered_row m header) lines → notes ≡ map note_told (column_notes m first.0 header)
      → file.notes ≡ notes ++ map note_told (flat_map (value_notes m header) lines)
      → (read : RowReading) × (read_numbered m mode (first ∷ lines) ≡ Ok read) × HoldsReading file read
  accepted file notes none_first none_later rows on_header on_lines = (
    read_under m first.0 header lines,
    ap (λ fault. unless_fault fault (read_under m first.0 header lines)) (none_above none_first ∙ none_later),
    record {
      rows = rows;
      notes =
          on_lines ∙ ap (λ front. front ++ map note_told (flat_map (value_notes m header) lines)) on_header
          ∙ sym (map-append note_told (column_notes m first.0 header) (flat_map (value_notes m header) lines));
    },
  )
