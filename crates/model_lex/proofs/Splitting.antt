-- How the sections of a file are found line by line.
use Rattle.std.proofs.Common.{◌≡◌, ℕ, ◌+◌, ◌^◌, ◌<◌, ◌≤◌, true, false, List, [], ◌∷◌, ◌++◌, length, refl, arith, ◌∙◌, append_assoc}
use Rattle.std.proofs.lemmas.List.{append-nil}
use Rattle.std.proofs.lemmas.Bool.{false_from_ne_true}
use Rattle.std.proofs.lemmas.Str.{IsUtf8-from_is_utf8, is_utf8-from_IsUtf8}
use Rattle.std.specs.Str.{IsUtf8, is_utf8}
use Rattle.model_lex.specs.declared.diag.DiagCode.TheVariants.{NotText}
use Rattle.std.specs.List.{enumerate_from}
use Rattle.std.specs.Prelude.{Some, None, Result, Ok, Err}
use Rattle.model_lex.specs.believed.Lines.{file_lines}
use Rattle.model_lex.specs.believed.Sections.{Split, is_ignored, kind_of, misplaced, no_lines, refusal_of, sections_behind, with_line}
use Rattle.model_lex.specs.Sections.{put_behind}
use Rattle.model_lex.specs.declared.diag.Diag.{Diag}
use Rattle.model_lex.specs.declared.diag.DiagCode.{DiagCode}
use Rattle.model_lex.specs.declared.line_kind.LineKind.{LineKind}
use Rattle.model_lex.specs.declared.line_kind.LineKind.TheVariants.{Param, Group, Rule}

-- the lines so far, and behind them those of what is left, unless it is refused
abbrev pub joined : Split → Result Split Diag → Result Split Diag
joined front (Ok back) = Ok (record { params = front.params ++ back.params; groups = front.groups ++ back.groups; rules = front.rules ++ back.rules })
joined front (Err diag) = Err diag

joined-first : (back : Result Split Diag) → back ≡ joined no_lines back
joined-first (Ok back) = refl
joined-first (Err diag) = refl

joined-last : (front : Split) → joined front (Ok no_lines) ≡ Ok front
joined-last front = rw (append-nil front.params, append-nil front.groups, append-nil front.rules)

joined-with : (front : Split) (kind : LineKind) (line : ℕ × List ℕ) (back : Result Split Diag) → joined front (with_line kind line back) ≡ joined (put_behind kind line front) back
joined-with front kind line (Err diag) = refl
joined-with front Param line (Ok back) = rw (append_assoc front.params (line ∷ []) back.params)
joined-with front Group line (Ok back) = rw (append_assoc front.groups (line ∷ []) back.groups)
joined-with front Rule line (Ok back) = rw (append_assoc front.rules (line ∷ []) back.rules)

-- what is asked of a whole file, once some lines are sorted and a rest is left
pub record Sorting (whole : Result Split Diag) (front : Split) (before : LineKind) (line : ℕ) (rest : List ℕ) : Type 0 where
  pub same : whole ≡ joined front (sections_behind before (enumerate_from (line + 1) (file_lines rest)))
  pub few : line + length rest ≤ 2 ^ 28

pub begins : (front : Split) (bytes rest : List ℕ) → front ≡ no_lines → length rest ≤ 2 ^ 28 → Sorting (sections_behind Param (enumerate_from 1 (file_lines rest))) front Param 0 rest
begins front bytes rest none few = record { same = rw none (joined-first (sections_behind Param (enumerate_from 1 (file_lines rest)))); few = omega arith }

module _ (whole : Result Split Diag) (front : Split) (before : LineKind) (line : ℕ) (rest text behind : List ℕ)
    (here : Sorting whole front before line rest) (cut : file_lines rest ≡ text ∷ file_lines behind) (shorter : length behind < length rest) where
  pub skips : is_ignored text ≡ true → Sorting whole front before (line + 1) behind
  skips ignored = record { same = here.same ∙ rw (cut, ignored) refl; few = omega arith }

  pub sorts : is_ignored text ≡ false → refusal_of before text ≡ None → Sorting whole (put_behind (kind_of before text) (line + 1, text) front) (kind_of before text) (line + 1) behind
  sorts seen fine = record {
    same = here.same ∙ rw (cut, seen, fine)
        (joined-with front (kind_of before text) (line + 1, text) (sections_behind (kind_of before text) (enumerate_from (line + 1 + 1) (file_lines behind))));
    few = omega arith;
  }

  pub refuses : is_ignored text ≡ false → (code : DiagCode) → refusal_of before text ≡ Some code → whole ≡ Err (record { line = line + 1; code = code })
  refuses seen code fault = here.same ∙ rw (cut, seen, fault) refl

pub ends : (whole : Result Split Diag) (front : Split) (before : LineKind) (line : ℕ) (rest : List ℕ) → Sorting whole front before line rest → length rest ≡ 0 → whole ≡ Ok front
ends whole front before line [] here none = here.same ∙ joined-last front
ends whole front before line (b ∷ rest) here none = absurd (omega arith)

-- a line that isn't UTF-8 is refused, and any other only where it is misplaced
pub refused_text : (before : LineKind) (text : List ℕ) → ¬ (IsUtf8 text) → refusal_of before text ≡ Some NotText
refused_text before text not_utf8 =
    let test : is_utf8 text ≡ false = false_from_ne_true (is_utf8 text) (λ e. not_utf8 (IsUtf8-from_is_utf8 text e)) in
    rw test

pub read_text : (before : LineKind) (text : List ℕ) → IsUtf8 text → refusal_of before text ≡ misplaced before (kind_of before text) text
read_text before text utf8 = rw (is_utf8-from_IsUtf8 text utf8)
