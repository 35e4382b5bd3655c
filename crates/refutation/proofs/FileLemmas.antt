-- A proof file line by line.
use Rattle.std.proofs.Common.{◌≡◌, ℕ, ◌+◌, ◌<◌, cond, List, [], ◌∷◌, ◌++◌, length, get_or, Some, None, Result, Ok, Err, All, ◌∙◌, sym, ap, subst, refl, arith, append_assoc, ne_eqb, eq-eqb}
use Rattle.std.specs.Prelude.{◌==◌}
use Rattle.std.proofs.lemmas.List.{append-nil, get_or-map, length-map}
use Rattle.std.proofs.lemmas.List.Splits.{length-slice_split}
use Rattle.cov_model.specs.believed.Sound.{ModelView}
use Rattle.definitions.specs.Laws.{IsOmissionOf}
use Rattle.definitions.specs.believed.ProofText as texts
use Rattle.refutation.specs.declared.omissions.Omission.{Omission}
use Rattle.refutation.specs.Checking.{AreOfModel}
use Rattle.refutation.specs.Proofs.{omission_meant}
use Rattle.refutation.specs.Reading.{omissions_meant, pieces, with_omissions}

-- lines behind those that were read
pub lines_start : (read : Result (List texts.Omission) ℕ) → with_omissions [] read ≡ read
lines_start (Ok omissions) = refl
lines_start (Err line) = refl

line_then : (m : ModelView) (format n : ℕ) (line : List ℕ) (lines : List (List ℕ)) → 0 < length lines
    → texts.read_lines m format n (line ∷ lines) ≡ texts.before_lines n (texts.read_omission m format line) (texts.read_lines m format (n + 1) lines)
line_then m format n line [] some = absurd (omega arith)
line_then m format n line (next ∷ lines) some = refl

some_piece : (mark : ℕ) (text : List ℕ) → 0 < length (pieces mark text)
some_piece mark text = omega (arith, length-slice_split (λ b. b == mark) text)

pub lines_more : (m : ModelView) (format n : ℕ) (front : List texts.Omission) (omission : texts.Omission) (line rest behind : List ℕ)
    → pieces 10 rest ≡ line ∷ pieces 10 behind
    → texts.read_omission m format line ≡ Some omission
    → with_omissions front (texts.read_lines m format n (pieces 10 rest)) ≡ with_omissions (front ++ omission ∷ []) (texts.read_lines m format (n + 1) (pieces 10 behind))
lines_more m format n front omission line rest behind cut is =
    ap (λ lines. with_omissions front (texts.read_lines m format n lines)) cut
    ∙ ap (with_omissions front) (line_then m format n line (pieces 10 behind) (some_piece 10 behind)
    ∙ ap (λ o. texts.before_lines n o (texts.read_lines m format (n + 1) (pieces 10 behind))) is)
    ∙ at (texts.read_lines m format (n + 1) (pieces 10 behind))
  where
    at : (later : Result (List texts.Omission) ℕ) → with_omissions front (texts.before_lines n (Some omission) later) ≡ with_omissions (front ++ omission ∷ []) later
    at (Ok omissions) = ap Ok (sym (append_assoc front (omission ∷ []) omissions))
    at (Err bad) = refl

pub lines_stop : (m : ModelView) (format n : ℕ) (front : List texts.Omission) (line rest behind : List ℕ) → pieces 10 rest ≡ line ∷ pieces 10 behind
    → texts.read_omission m format line ≡ None → with_omissions front (texts.read_lines m format n (pieces 10 rest)) ≡ Err n
lines_stop m format n front line rest behind cut is =
    ap (λ lines. with_omissions front (texts.read_lines m format n lines)) cut
    ∙ ap (with_omissions front) (line_then m format n line (pieces 10 behind) (some_piece 10 behind)
    ∙ ap (λ o. texts.before_lines n o (texts.read_lines m format (n + 1) (pieces 10 behind))) is)

pub lines_end : (m : ModelView) (format n : ℕ) (front : List texts.Omission) (rest : List ℕ) → pieces 10 rest ≡ rest ∷ [] → length rest ≡ 0
    → with_omissions front (texts.read_lines m format n (pieces 10 rest)) ≡ Ok front
lines_end m format n front rest whole empty =
    ap (λ lines. with_omissions front (texts.read_lines m format n lines)) whole
    ∙ ap (λ b. with_omissions front (cond b (Ok []) (Err n))) (eq-eqb (length rest) 0 empty) ∙ ap Ok (append-nil front)

pub lines_rest : (m : ModelView) (format n : ℕ) (front : List texts.Omission) (rest : List ℕ) → pieces 10 rest ≡ rest ∷ [] → (length rest ≡ 0 → ⊥)
    → with_omissions front (texts.read_lines m format n (pieces 10 rest)) ≡ Err n
lines_rest m format n front rest whole some =
    ap (λ lines. with_omissions front (texts.read_lines m format n lines)) whole
    ∙ ap (λ b. with_omissions front (cond b (Ok []) (Err n))) (ne_eqb (length rest) 0 some)

-- the first line
pub first_none : (m : ModelView) (bytes : List ℕ) → pieces 10 bytes ≡ bytes ∷ [] → texts.omissions_of m bytes ≡ Err 1
first_none m bytes whole = ap (texts.read_pieces m) whole

first_then : (m : ModelView) (line : List ℕ) (lines : List (List ℕ)) (format : ℕ) → 0 < length lines → texts.read_format line ≡ Some format
    → texts.read_pieces m (line ∷ lines) ≡ texts.with_format format (texts.read_lines m format 2 lines)
first_then m line [] format some is = absurd (omega arith)
first_then m line (next ∷ lines) format some is = rw is refl

first_wrong : (m : ModelView) (line : List ℕ) (lines : List (List ℕ)) → texts.read_format line ≡ None → texts.read_pieces m (line ∷ lines) ≡ Err 1
first_wrong m line [] is = refl
first_wrong m line (next ∷ lines) is = rw is refl

pub first_other : (m : ModelView) (bytes line rest : List ℕ) → pieces 10 bytes ≡ line ∷ pieces 10 rest → texts.read_format line ≡ None
    → texts.omissions_of m bytes ≡ Err 1
first_other m bytes line rest cut is = ap (texts.read_pieces m) cut ∙ first_wrong m line (pieces 10 rest) is

pub first_format : (m : ModelView) (bytes line rest : List ℕ) (format : ℕ) → pieces 10 bytes ≡ line ∷ pieces 10 rest → texts.read_format line ≡ Some format
    → texts.omissions_of m bytes ≡ texts.with_format format (texts.read_lines m format 2 (pieces 10 rest))
first_format m bytes line rest format cut is = ap (texts.read_pieces m) cut ∙ first_then m line (pieces 10 rest) format (some_piece 10 rest) is

-- omissions of a model have tuples of the model
pub tuples_exist : (m : ModelView) (format : ℕ) (omissions : List Omission) → All (IsOmissionOf m format) (omissions_meant omissions)
    → All (λ omission. AreOfModel m omission.tuple) omissions
tuples_exist m format omissions are i d within =
    let same : get_or (omissions_meant omissions) i (omission_meant d) ≡ omission_meant (get_or omissions i d) = get_or-map omission_meant omissions i d (omission_meant d) within in
    subst (λ (omission : texts.Omission). AreOfModel m omission.tuple) same (are i (omission_meant d) (omega (arith, length-map omissions omission_meant, within))).exist
