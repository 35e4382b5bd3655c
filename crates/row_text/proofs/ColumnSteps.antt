-- How the columns of a header are read and checked.
use Rattle.std.proofs.Common.{◌≡◌, ℕ, ◌+◌, ◌<◌, ◌≤◌, Bool, true, false, cond, List, [], ◌∷◌, ◌++◌, map, filter, length, get_or, set, take, inl, inr, All}
use Rattle.std.proofs.Common.{Option, Some, None, is_none, position, find, nat_lt, refl, sym, ◌∙◌, ap, ap₂, arith, zero-add}
use Rattle.std.specs.Prelude.{◌==◌, IfSome, nat_eq}
use Rattle.std.specs.List.{count_by, list_any, position_or_len, range_with_len, slice_get}
use Rattle.std.proofs.lemmas.Bool.{cases_eq, cond-false, cond-true, eq-eqb, ltb-false, ltb-true, ne_eqb}
use Rattle.std.specs.Option.{option_map, option_map_or}
use Rattle.std.proofs.lemmas.List.{append-nil, append_assoc, get_or-set_other, get_or-set_same, length-set, length-take-le}
use Rattle.std.proofs.lemmas.List.Elements.{All-map}
use Rattle.std.proofs.lemmas.List.Filters.{length-filter_more}
use Rattle.std.proofs.lemmas.List.Folds.{find_at}
use Rattle.std.proofs.lemmas.List.FromFn.{get_or-range_with_len, length-range_with_len}
use Rattle.std.proofs.lemmas.List.Quantifiers.{position-Some}
use Rattle.std.proofs.lemmas.List.Sums.{count_by-le-length, length-filter}
use Rattle.std.proofs.lemmas.Option.{slice_get-get_or, slice_get_past}
use Rattle.value_text.proofs.ListLemmas.{list_any-map, map-get_or-range_with_len, count_map}
use Rattle.value_text.specs.believed.Texts.{is_same_text}
use Rattle.cov_model.specs.believed.Sound.{ModelView, no_param}
use Rattle.cov_model.specs.believed.Valid.{param_numbers}
use Rattle.definitions.specs.believed.RowFile.{named_param}
use Rattle.definitions.specs.believed.RowReading.{UnknownColumn, Missing, Twice, Suite, column_count, column_notes, missing_fault, twice_fault}
use Rattle.model_lex.specs.declared.note.Note.{Note}
use Rattle.row_text.specs.believed.Readings.{note_told}
use Rattle.row_text.proofs.LookingUp.{position-map}

-- ---- the parameter of each column, and the notes

-- a cell names parameters that exist
pub param_exists : (m : ModelView) (cell : List ℕ) (column : Option ℕ) → named_param m cell ≡ column → IfSome column (λ p. p < length m.params)
param_exists m cell None named = tt
param_exists m cell (Some p) named = (position-Some (λ param. is_same_text m.fold param.name cell) m.params p no_param named).0

pub params_exist : (m : ModelView) (cells : List (List ℕ)) → All (λ column. IfSome column (λ p. p < length m.params)) (map (named_param m) cells)
params_exist m cells = All-map (λ column. IfSome column (λ p. p < length m.params)) (named_param m) cells (λ k d within. param_exists m (get_or cells k d) _ refl)

pub record HeaderSoFar (m : ModelView) (cells left : List (List ℕ)) (line : ℕ) (columns : List (Option ℕ)) (notes : List Note) : Type 0 where
  pub reads : columns ++ map (named_param m) left ≡ map (named_param m) cells
  pub tells : notes ++ map note_told (column_notes m line left) ≡ map note_told (column_notes m line cells)

pub header_begins : (m : ModelView) (cells left : List (List ℕ)) (line : ℕ) (columns : List (Option ℕ)) (notes : List Note) → left ≡ cells → columns ≡ [] → notes ≡ []
    → HeaderSoFar m cells left line columns notes
header_begins m cells left line columns notes all none nothing = record {
  reads = ap₂ (λ front list. front ++ map (named_param m) list) none all;
  tells = ap₂ (λ front list. front ++ map note_told (column_notes m line list)) nothing all;
}

-- the note on the first cell
first_note : (m : ModelView) (line : ℕ) (cell : List ℕ) (cells : List (List ℕ))
    → map note_told (column_notes m line (cell ∷ cells)) ≡ cond (is_none (named_param m cell)) (note_told (line, UnknownColumn) ∷ []) [] ++ map note_told (column_notes m line cells)
first_note m line cell cells = at (is_none (named_param m cell))
  where
    kept : List (List ℕ)
    kept = filter (λ c. is_none (named_param m c)) cells

    at : (b : Bool) → map note_told (map (λ c. (line, UnknownColumn)) (cond b (cell ∷ kept) kept))
        ≡ cond b (note_told (line, UnknownColumn) ∷ []) [] ++ map note_told (map (λ c. (line, UnknownColumn)) kept)
    at true = refl
    at false = refl

pub header_goes_on : (m : ModelView) (cells left rest : List (List ℕ)) (line : ℕ) (columns more : List (Option ℕ)) (notes told : List Note) (cell : List ℕ) (column : Option ℕ)
    → HeaderSoFar m cells left line columns notes → left ≡ cell ∷ rest → column ≡ named_param m cell
    → more ≡ columns ++ column ∷ [] → told ≡ notes ++ cond (is_none column) (note_told (line, UnknownColumn) ∷ []) []
    → HeaderSoFar m cells rest line more told
header_goes_on m cells left rest line columns more notes told cell column so_far next is_column is_more is_told = record {
  reads =
      ap (λ list. list ++ map (named_param m) rest) is_more ∙ append_assoc columns (column ∷ []) (map (named_param m) rest)
      ∙ ap (λ c. columns ++ c ∷ map (named_param m) rest) is_column ∙ ap (λ list. columns ++ map (named_param m) list) (sym next) ∙ so_far.reads;
  tells =
      ap (λ list. list ++ map note_told (column_notes m line rest)) is_told
      ∙ append_assoc notes (cond (is_none column) (note_told (line, UnknownColumn) ∷ []) []) (map note_told (column_notes m line rest))
      ∙ ap (λ (c : Option ℕ). notes ++ (cond (is_none c) (note_told (line, UnknownColumn) ∷ []) [] ++ map note_told (column_notes m line rest))) is_column
      ∙ ap (λ list. notes ++ list) (sym (first_note m line cell rest))
      ∙ ap (λ list. notes ++ map note_told (column_notes m line list)) (sym next) ∙ so_far.tells;
}

pub header_ends : (m : ModelView) (cells left : List (List ℕ)) (line : ℕ) (columns : List (Option ℕ)) (notes : List Note) → HeaderSoFar m cells left line columns notes → left ≡ []
    → (columns ≡ map (named_param m) cells) × (notes ≡ map note_told (column_notes m line cells))
header_ends m cells left line columns notes so_far none = (
  sym (append-nil columns) ∙ ap (λ list. columns ++ map (named_param m) list) (sym none) ∙ so_far.reads,
  sym (append-nil notes) ∙ ap (λ list. notes ++ map note_told (column_notes m line list)) (sym none) ∙ so_far.tells,
)

-- ---- how many columns each parameter has

-- whether a column is of the parameter
abbrev pub is_of : ℕ → Option ℕ → Bool
is_of p column = option_map_or (λ q. nat_eq q p) column false

pub column_count-counts : (m : ModelView) (header : List (List ℕ)) (p : ℕ) → column_count m header p ≡ count_by (is_of p) (map (named_param m) header)
column_count-counts m header p =
    let test : List ℕ → Bool = λ cell. is_of p (named_param m cell) in
    length-filter (λ c. test (get_or header c [])) (range_with_len 0 (length header))
    ∙ sym (count_map test (λ c. get_or header c []) (range_with_len 0 (length header)))
    ∙ ap (count_by test) (map-get_or-range_with_len header [])
    ∙ sym (count_map (is_of p) (named_param m) header)

count_more : (p : ℕ) (columns : List (Option ℕ)) (k : ℕ) (d : Option ℕ) → k < length columns
    → count_by (is_of p) (take (k + 1) columns) ≡ count_by (is_of p) (take k columns) + cond (is_of p (get_or columns k d)) 1 0
count_more p columns k d within =
    sym (length-filter (is_of p) (take (k + 1) columns)) ∙ length-filter_more (is_of p) columns k d within
    ∙ ap (λ n. n + cond (is_of p (get_or columns k d)) 1 0) (length-filter (is_of p) (take k columns))

-- the columns of each parameter among the first ones
pub record CountsSoFar (params : ℕ) (columns : List (Option ℕ)) (k : ℕ) (counts : List ℕ) : Type 0 where
  pub long : length counts ≡ params
  pub each : (p : ℕ) → p < params → get_or counts p 0 ≡ count_by (is_of p) (take k columns)

-- each is counted in so many places
pub count_within : (params : ℕ) (columns : List (Option ℕ)) (k : ℕ) (counts : List ℕ) (p : ℕ) → CountsSoFar params columns k counts → k ≤ length columns → p < params
    → get_or counts p 0 ≤ k
count_within params columns k counts p so_far few within =
    omega (arith, so_far.each p within, count_by-le-length (is_of p) (take k columns), length-take-le k columns few)

-- a column of a parameter, and one of none
pub column_counted : (params : ℕ) (columns : List (Option ℕ)) (k : ℕ) (counts more : List ℕ) (p n : ℕ) → CountsSoFar params columns k counts → k < length columns
    → get_or columns k None ≡ Some p → p < params → n ≡ get_or counts p 0 → more ≡ set counts p (n + 1) → CountsSoFar params columns (k + 1) more
column_counted params columns k counts more p n so_far few is_p within is_n is_more = record {
  long = ap length is_more ∙ length-set counts p (n + 1) ∙ so_far.long;
  each = λ q inside.
      let step = count_more q columns k None few ∙ ap (λ column. count_by (is_of q) (take k columns) + cond (is_of q column) 1 0) is_p in
      elim (cases_eq q p) [
        | inl same ↦
            let in_counts : p < length counts = omega (arith, within, so_far.long) in
            let put : get_or more q 0 ≡ n + 1 = ap₂ (λ list at. get_or list at 0) is_more same ∙ get_or-set_same counts p (n + 1) 0 in_counts in
            let one : ◌≡◌ {A = ℕ} (cond (nat_eq p q) 1 0) 1 = cond-true (nat_eq p q) 1 0 (eq-eqb p q (sym same)) in
            omega (arith, put, is_n, ap (λ at. get_or counts at 0) same, so_far.each q inside, step, one)
        | inr other ↦
            let kept : get_or more q 0 ≡ get_or counts q 0 = ap (λ list. get_or list q 0) is_more ∙ get_or-set_other counts p q (n + 1) 0 other in
            let none : ◌≡◌ {A = ℕ} (cond (nat_eq p q) 1 0) 0 = cond-false (nat_eq p q) 1 0 (ne_eqb p q (λ same. other (sym same))) in
            omega (arith, kept, so_far.each q inside, step, none)
      ];
}

pub column_skipped : (params : ℕ) (columns : List (Option ℕ)) (k : ℕ) (counts : List ℕ) → CountsSoFar params columns k counts → k < length columns
    → get_or columns k None ≡ None → CountsSoFar params columns (k + 1) counts
column_skipped params columns k counts so_far few is_none = record {
  long = so_far.long;
  each = λ q inside.
      let step = count_more q columns k None few ∙ ap (λ column. count_by (is_of q) (take k columns) + cond (is_of q column) 1 0) is_none in
      omega (arith, so_far.each q inside, step);
}

-- ---- the first number of a range that passes is at its own place

pub find-range_with_len : (test : ℕ → Bool) (n : ℕ) → find test (range_with_len 0 n) ≡ position test (range_with_len 0 n)
find-range_with_len test n = find_at test (range_with_len 0 n) ∙ at (nat_lt (position_or_len test (range_with_len 0 n)) (length (range_with_len 0 n))) refl
  where
    at : (b : Bool) → nat_lt (position_or_len test (range_with_len 0 n)) (length (range_with_len 0 n)) ≡ b
        → slice_get (range_with_len 0 n) (position_or_len test (range_with_len 0 n)) ≡ cond b (Some (position_or_len test (range_with_len 0 n))) None
    at true e =
        let within = ltb-true _ _ e in
        slice_get-get_or (range_with_len 0 n) _ 0 within
        ∙ ap Some (get_or-range_with_len 0 n _ 0 (omega (arith, within, length-range_with_len 0 n)) ∙ zero-add _)
    at false e = slice_get_past (range_with_len 0 n) _ (ltb-false _ _ e)

-- ---- what the counts tell of the columns

pub twice_is : (m : ModelView) (line : ℕ) (header : List (List ℕ)) (counts : List ℕ) → counts ≡ map (column_count m header) (param_numbers m)
    → twice_fault m line header ≡ cond (list_any (λ count. nat_lt 1 count) counts) (Some (Twice line)) None
twice_is m line header counts are =
    ap (λ b. cond b (Some (Twice line)) None) (sym (list_any-map (λ count. nat_lt 1 count) (column_count m header) (param_numbers m)) ∙ ap (list_any (λ count. nat_lt 1 count)) (sym are))

pub missing_is : (m : ModelView) (header : List (List ℕ)) (counts : List ℕ) → counts ≡ map (column_count m header) (param_numbers m)
    → missing_fault m Suite header ≡ option_map Missing (position (λ count. count == 0) counts)
missing_is m header counts are =
    ap (option_map Missing) (find-range_with_len (λ p. column_count m header p == 0) (length m.params)
    ∙ sym (position-map (λ count. count == 0) (column_count m header) (param_numbers m)) ∙ ap (position (λ count. count == 0)) (sym are))

pub counts_are : (m : ModelView) (header : List (List ℕ)) (columns : List (Option ℕ)) (params : ℕ) (counts : List ℕ) → length m.params ≡ params → columns ≡ map (named_param m) header
    → counts ≡ map (λ p. count_by (is_of p) columns) (range_with_len 0 params) → counts ≡ map (column_count m header) (param_numbers m)
counts_are m header columns params counts long same are =
    are ∙ ap₂ (λ (list : List (Option ℕ)) (n : ℕ). map (λ p. count_by (is_of p) list) (range_with_len 0 n)) same (sym long)
    ∙ map_same (λ p. count_by (is_of p) (map (named_param m) header)) (column_count m header) (λ p. sym (column_count-counts m header p)) (param_numbers m)
  where
    map_same : (f g : ℕ → ℕ) → ((p : ℕ) → f p ≡ g p) → (ps : List ℕ) → map f ps ≡ map g ps
    map_same f g equal [] = refl
    map_same f g equal (p ∷ ps) = ap₂ (λ n rest. n ∷ rest) (equal p) (map_same f g equal ps)
