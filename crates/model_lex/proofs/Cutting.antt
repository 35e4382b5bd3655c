-- How a file is cut into lines, one after another.
use Rattle.std.proofs.Common.{◌≡◌, ℕ, suc, ◌+◌, ◌<◌, ◌≤◌, Bool, true, false, cond, List, [], ◌∷◌, map, length, take, drop, refl, ap, arith}
use Rattle.std.proofs.lemmas.Bool.{ltb-true, ltb-false, ne_eqb}
use Rattle.std.proofs.lemmas.List.Splits.{slice_split_first, length-slice_split}
use Rattle.std.specs.List.{slice_split, position, position_or_len, before_first, after_first}
use Rattle.std.specs.Prelude.{Some, None, nat_lt}
use Rattle.model_lex.specs.believed.Lines.{ended_lines, file_lines, is_line_feed, without_return}

pub ended_lines-cons : (line : List ℕ) (lines : List (List ℕ)) → 0 < length lines → ended_lines (line ∷ lines) ≡ line ∷ ended_lines lines
ended_lines-cons line [] some = absurd (omega arith)
ended_lines-cons line (next ∷ lines) some = refl

-- a text without line feeds is one piece
pub one_piece : (text : List ℕ) → length text ≤ position_or_len is_line_feed text → slice_split is_line_feed text ≡ text ∷ []
one_piece [] whole = refl
one_piece (b ∷ text) whole = at (is_line_feed b) refl (one_piece text)
  where
    at : (ends : Bool) → is_line_feed b ≡ ends → (length text ≤ position_or_len is_line_feed text → slice_split is_line_feed text ≡ text ∷ [])
        → slice_split is_line_feed (b ∷ text) ≡ (b ∷ text) ∷ []
    at true e rest = let over : suc (length text) ≤ 0 = rw e at whole in absurd (omega arith)
    at false e rest = let left : suc (length text) ≤ 1 + position_or_len is_line_feed text = rw e at whole in rw (e, rest (omega arith)) refl

-- what stands before the first line feed, and the lines behind it
pub first_ended : (text : List ℕ) (end : ℕ) → position is_line_feed text ≡ Some end
    → ended_lines (slice_split is_line_feed text) ≡ take end text ∷ ended_lines (slice_split is_line_feed (drop (end + 1) text))
first_ended text end found = at (nat_lt (position_or_len is_line_feed text) (length text)) refl found
  where
    behind : List ℕ
    behind = after_first is_line_feed text

    at :
        (within : Bool) → nat_lt (position_or_len is_line_feed text) (length text) ≡ within
        → cond within (Some (position_or_len is_line_feed text)) None ≡ Some end
        → ended_lines (slice_split is_line_feed text) ≡ take end text ∷ ended_lines (slice_split is_line_feed (drop (end + 1) text))
    at true e is_end =
        let place : position_or_len is_line_feed text ≡ end = cc in
        rw (
          ← place,
          slice_split_first is_line_feed text 0 (ltb-true _ _ e),
          ended_lines-cons (before_first is_line_feed text) (slice_split is_line_feed behind) (omega (arith, length-slice_split is_line_feed behind)),
        ) refl
    at false e is_end = cc

-- without a line feed there is one line
pub only_ended : (text : List ℕ) → 0 < length text → position is_line_feed text ≡ None
    → ended_lines (slice_split is_line_feed text) ≡ text ∷ ended_lines (slice_split is_line_feed [])
only_ended text some none = at (nat_lt (position_or_len is_line_feed text) (length text)) refl none
  where
    at :
        (within : Bool) → nat_lt (position_or_len is_line_feed text) (length text) ≡ within
        → cond within (Some (position_or_len is_line_feed text)) None ≡ None
        → ended_lines (slice_split is_line_feed text) ≡ text ∷ ended_lines (slice_split is_line_feed [])
    at true e is_none = cc
    at false e is_none = rw (one_piece text (ltb-false _ _ e), ne_eqb (length text) 0 (λ z. omega arith)) refl

-- the same of the lines of a file
pub first_line : (text : List ℕ) (end : ℕ) → position is_line_feed text ≡ Some end → file_lines text ≡ without_return (take end text) ∷ file_lines (drop (end + 1) text)
first_line text end found = ap (map without_return) (first_ended text end found)
