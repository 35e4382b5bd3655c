-- How the lines of a row file are taken one after another.
use Rattle.std.proofs.Common.{◌≡◌, ℕ, ◌+◌, ◌<◌, ◌≤◌, Bool, true, false, cond, List, [], ◌∷◌, map, filter, length, take, drop, All, AllPairs, Some, None, position, nat_lt, refl, sym, ◌∙◌, ap, arith}
use Rattle.std.specs.Prelude.{◌==◌}
use Rattle.std.specs.List.{enumerate_from, slice_split, count_by, position_or_len, suffix_len}
use Rattle.std.proofs.lemmas.Bool.{cond-false, cond-true, false_from_ne_true, le-ltb, lt-ltb, ltb-false, ltb-true}
use Rattle.std.proofs.lemmas.List.{length-map}
use Rattle.std.proofs.lemmas.List.Elements.{All-nil, All-cons, All-weaker}
use Rattle.std.proofs.lemmas.List.FromFn.{length-enumerate_from}
use Rattle.std.proofs.lemmas.List.Kept.{AllPairs-cons}
use Rattle.std.proofs.lemmas.List.Splits.{length-slice_split, slice_split_first, slice_split_none}
use Rattle.std.proofs.lemmas.List.Sums.{count_by-le-length, fails_before_first, suffix_len-le-length}
use Rattle.std.proofs.lemmas.Option.{none-some}
use Rattle.value_text.proofs.ListLemmas.{length-filter-le}
use Rattle.model_lex.specs.believed.Lines.{ended_lines, file_lines, is_line_feed, without_return}
use Rattle.definitions.specs.believed.RowFile.{cells_of_line, without_spaces}
use Rattle.row_text.specs.RowLines.{filled_from}

-- a line is taken if it has a byte
pub takes : (number : ℕ) (rest text behind : List ℕ) → file_lines rest ≡ text ∷ file_lines behind → 0 < length text
    → filled_from number rest ≡ (number, text) ∷ filled_from (number + 1) behind
takes number rest text behind cut some = rw cut (cond-true (nat_lt 0 (length text)) _ _ (lt-ltb 0 (length text) some))

pub leaves_out : (number : ℕ) (rest text behind : List ℕ) → file_lines rest ≡ text ∷ file_lines behind → length text ≡ 0
    → filled_from number rest ≡ filled_from (number + 1) behind
leaves_out number rest text behind cut none = rw cut (cond-false (nat_lt 0 (length text)) _ _ (le-ltb 0 (length text) (omega arith)))

-- nothing is left of no bytes
pub nothing_left : (number : ℕ) (rest : List ℕ) → length rest ≡ 0 → filled_from number rest ≡ []
nothing_left number [] none = refl
nothing_left number (b ∷ rest) none = absurd (omega arith)

-- there are few
length-ended_lines : (lines : List (List ℕ)) → length (ended_lines lines) ≤ length lines
length-ended_lines [] = omega arith
length-ended_lines (line ∷ []) = at (length line == 0)
  where
    at : (b : Bool) → length (cond b [] (line ∷ [])) ≤ 1
    at true = omega arith
    at false = omega arith
length-ended_lines (line ∷ next ∷ lines) = omega (arith, length-ended_lines (next ∷ lines))

pub few_lines : (number : ℕ) (rest : List ℕ) → length (filled_from number rest) ≤ length rest + 1
few_lines number rest =
    omega (
      arith,
      length-filter-le (λ line. nat_lt 0 (length line.1)) (enumerate_from number (file_lines rest)),
      length-enumerate_from number (file_lines rest),
      length-map (ended_lines (slice_split is_line_feed rest)) without_return,
      length-ended_lines (slice_split is_line_feed rest),
      length-slice_split is_line_feed rest,
      count_by-le-length is_line_feed rest,
    )

-- their numbers rise
least : (p : ℕ × List ℕ → Bool) (number : ℕ) (lines : List (List ℕ)) → All (λ line. number ≤ line.0) (filter p (enumerate_from number lines))
least p number [] = All-nil (λ line. number ≤ line.0)
least p number (text ∷ lines) =
    at (p (number, text)) (All-weaker (λ line. number + 1 ≤ line.0) (λ line. number ≤ line.0) (λ line above. omega arith) (filter p (enumerate_from (number + 1) lines)) (least p (number + 1) lines))
  where
    at : (b : Bool) → All (λ line. number ≤ line.0) (filter p (enumerate_from (number + 1) lines))
        → All (λ line. number ≤ line.0) (cond b ((number, text) ∷ filter p (enumerate_from (number + 1) lines)) (filter p (enumerate_from (number + 1) lines)))
    at true later = All-cons (λ line. number ≤ line.0) (number, text) (filter p (enumerate_from (number + 1) lines)) (omega arith) later
    at false later = later

pub rising : (p : ℕ × List ℕ → Bool) (number : ℕ) (lines : List (List ℕ)) → AllPairs (λ a b. a.0 < b.0) (filter p (enumerate_from number lines))
rising p number [] = λ i j d before within. absurd (omega arith)
rising p number (text ∷ lines) = at (p (number, text)) (rising p (number + 1) lines)
  where
    at : (b : Bool) → AllPairs (λ a b. a.0 < b.0) (filter p (enumerate_from (number + 1) lines))
        → AllPairs (λ a b. a.0 < b.0) (cond b ((number, text) ∷ filter p (enumerate_from (number + 1) lines)) (filter p (enumerate_from (number + 1) lines)))
    at true later = AllPairs-cons (λ a b. a.0 < b.0) (number, text) (filter p (enumerate_from (number + 1) lines))
        (All-weaker (λ line. number + 1 ≤ line.0) (λ line. number < line.0) (λ line above. omega arith) (filter p (enumerate_from (number + 1) lines)) (least p (number + 1) lines)) later
    at false later = later

-- ---- cells

pub tabs_within : (text : List ℕ) → count_by (λ byte. byte == 9) text ≤ length text
tabs_within text = count_by-le-length (λ byte. byte == 9) text

pub length_cells : (text : List ℕ) → length (cells_of_line text) ≡ count_by (λ byte. byte == 9) text + 1
length_cells text = length-map (slice_split (λ byte. byte == 9) text) without_spaces ∙ length-slice_split (λ byte. byte == 9) text

pub spaces_within : (cell : List ℕ) → suffix_len (λ byte. byte == 32) cell ≤ length cell
spaces_within cell = suffix_len-le-length (λ byte. byte == 32) cell

-- the cells up to a tab, and those behind it
pub first_cell : (line : List ℕ) (end : ℕ) → position (λ byte. byte == 9) line ≡ Some end
    → cells_of_line line ≡ without_spaces (take end line) ∷ cells_of_line (drop (end + 1) line)
first_cell line end found = at (nat_lt (position_or_len is_tab line) (length line)) refl found
  where
    is_tab : ℕ → Bool
    is_tab byte = byte == 9

    at :
        (within : Bool) → nat_lt (position_or_len is_tab line) (length line) ≡ within
        → cond within (Some (position_or_len is_tab line)) None ≡ Some end
        → cells_of_line line ≡ without_spaces (take end line) ∷ cells_of_line (drop (end + 1) line)
    at true e is_end =
        let place : position_or_len is_tab line ≡ end = cc in
        rw (← place, slice_split_first is_tab line 0 (ltb-true _ _ e)) refl
    at false e is_end = cc

-- without a tab there is one cell
pub only_cell : (line : List ℕ) → position (λ byte. byte == 9) line ≡ None → cells_of_line line ≡ without_spaces line ∷ []
only_cell line none =
    let is_tab : ℕ → Bool = λ byte. byte == 9 in
    let past : length line ≤ position_or_len is_tab line =
    ltb-false _ _ (false_from_ne_true (nat_lt (position_or_len is_tab line) (length line)) (λ e. none-some _ (sym none ∙ cond-true _ (Some (position_or_len is_tab line)) None e))) in
    ap (map without_spaces) (slice_split_none is_tab line (λ k d within. fails_before_first is_tab line k d (omega arith)))
