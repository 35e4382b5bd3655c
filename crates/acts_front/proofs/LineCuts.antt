-- The lines of a translation, cut again.
use Rattle.std.proofs.Common.{◌≡◌, ℕ, zero, suc, ◌+◌, ◌-◌, Bool, true, false, not, cond, ◌&&◌, List, [], ◌∷◌, ◌++◌, length, map}
use Rattle.std.proofs.Common.{take, drop, codes, Some, None, refl, sym, ap, ◌∙◌, arith, length-append, append_assoc, one-add}
use Rattle.std.proofs.Math.Seq.{take-append_seam, drop-append-add}
use Rattle.std.proofs.lemmas.Bool.{and_parts, cond-false, cond-true, lt-ltb}
use Rattle.std.proofs.lemmas.Bool.Decides.{nat_tests}
use Rattle.std.specs.List.{enumerate_from, list_all, position, position_or_len}
use Rattle.std.specs.Prelude.{◌==◌, nat_lt, slice_index}
use Rattle.model_lex.specs.believed.Lines.{file_lines, is_line_feed, numbered_lines, without_mark, without_return}
use Rattle.model_lex.proofs.Cutting.{first_line}
use Rattle.acts_front.specs.believed.Lines.{is_allowed}
use Rattle.acts_front.specs.believed.ParameterLines.{Scope}
use Rattle.acts_front.specs.believed.ActsFiles.{Line, and_line}
use Rattle.acts_front.specs.believed.Translation.{translated_text, lines_text}
use Rattle.acts_front.proofs.AllowedTexts.{Allowed, line_allowed}
use Rattle.acts_front.proofs.GivenLines.{AreGiven}

no_feed : (b : ℕ) → is_allowed b ≡ true → is_line_feed b ≡ false
no_feed b allowed = grind (arith, nat_tests)

no_return : (b : ℕ) → is_allowed b ≡ true → (b == 13) ≡ false
no_return b allowed = grind (arith, nat_tests)

-- the first line feed stands behind the text
feed_place : (text rest : List ℕ) → Allowed text → position_or_len is_line_feed (text ++ 10 ∷ rest) ≡ length text
feed_place [] rest all = refl
feed_place (b ∷ text) rest all =
    let parts = and_parts (is_allowed b) (list_all is_allowed text) all in
    ap (λ is. cond (not is) (1 + position_or_len is_line_feed (text ++ 10 ∷ rest)) 0) (no_feed b parts.0) ∙ (ap (λ n. 1 + n) (feed_place text rest parts.1) ∙ one-add (length text))

feed_found : (text rest : List ℕ) → Allowed text → position is_line_feed (text ++ 10 ∷ rest) ≡ Some (length text)
feed_found text rest all =
    let place = feed_place text rest all in
    let within : nat_lt (position_or_len is_line_feed (text ++ 10 ∷ rest)) (length (text ++ 10 ∷ rest)) ≡ true = lt-ltb _ _ (omega (arith, place, length-append text (10 ∷ rest))) in
    cond-true _ (Some (position_or_len is_line_feed (text ++ 10 ∷ rest))) None within ∙ ap Some place

-- no carriage return stands at its end
no_return_at : (text : List ℕ) (place : ℕ) → Allowed text → (slice_index text place == 13) ≡ false
no_return_at [] place all = refl
no_return_at (b ∷ text) zero all = no_return b (and_parts (is_allowed b) (list_all is_allowed text) all).0
no_return_at (b ∷ text) (suc place) all = no_return_at text place (and_parts (is_allowed b) (list_all is_allowed text) all).1

kept_whole : (text : List ℕ) → Allowed text → without_return text ≡ text
kept_whole text all = cond-false (nat_lt 0 (length text) && (slice_index text (length text - 1) == 13)) (take (length text - 1) text) text (by (nat_lt 0 (length text)))
  where
    by : (b : Bool) → (b && (slice_index text (length text - 1) == 13)) ≡ false
    by true = no_return_at text (length text - 1) all
    by false = refl

cut_at : (text rest : List ℕ) → Allowed text → file_lines (text ++ 10 ∷ rest) ≡ text ∷ file_lines rest
cut_at text rest all =
    first_line (text ++ 10 ∷ rest) (length text) (feed_found text rest all)
    ∙ (ap (λ t. without_return t ∷ file_lines (drop (length text + 1) (text ++ 10 ∷ rest))) (take-append_seam text (10 ∷ rest))
    ∙ (ap (λ t. t ∷ file_lines (drop (length text + 1) (text ++ 10 ∷ rest))) (kept_whole text all)
    ∙ ap (λ left. text ∷ file_lines left) (drop-append-add text (10 ∷ rest) 1)))

-- all lines
lines_cut : (scope : Scope) (lines : List Line) → AreGiven scope lines → file_lines (lines_text lines) ≡ map translated_text lines
lines_cut scope [] given = refl
lines_cut scope (line ∷ lines) given =
    let joint : lines_text (line ∷ lines) ≡ translated_text line ++ 10 ∷ lines_text lines = append_assoc (translated_text line) (codes "\n") (lines_text lines) in
    ap file_lines joint
    ∙ (cut_at (translated_text line) (lines_text lines) (line_allowed scope line given.0)
    ∙ ap (λ others. translated_text line ∷ others) (lines_cut (and_line scope line) lines given.1))

-- no byte-order mark stands first
no_mark : (b : ℕ) (rest : List ℕ) → (0xef == b) ≡ false → without_mark (b ∷ rest) ≡ b ∷ rest
no_mark b rest other = rw other refl

other_mark : (b : ℕ) → is_allowed b ≡ true → (0xef == b) ≡ false
other_mark b allowed = grind (arith, nat_tests)

unmarked_at : (text rest : List ℕ) → Allowed text → without_mark (text ++ 10 ∷ rest) ≡ text ++ 10 ∷ rest
unmarked_at [] rest all = no_mark 10 rest refl
unmarked_at (b ∷ text) rest all = no_mark b (text ++ 10 ∷ rest) (other_mark b (and_parts (is_allowed b) (list_all is_allowed text) all).0)

unmarked : (scope : Scope) (lines : List Line) → AreGiven scope lines → without_mark (lines_text lines) ≡ lines_text lines
unmarked scope [] given = refl
unmarked scope (line ∷ lines) given =
    let joint : lines_text (line ∷ lines) ≡ translated_text line ++ 10 ∷ lines_text lines = append_assoc (translated_text line) (codes "\n") (lines_text lines) in
    ap without_mark joint ∙ (unmarked_at (translated_text line) (lines_text lines) (line_allowed scope line given.0) ∙ sym joint)

pub lines_back : (scope : Scope) (lines : List Line) → AreGiven scope lines → numbered_lines (lines_text lines) ≡ enumerate_from 1 (map translated_text lines)
lines_back scope lines given = ap (λ bytes. enumerate_from 1 (file_lines bytes)) (unmarked scope lines given) ∙ ap (enumerate_from 1) (lines_cut scope lines given)
