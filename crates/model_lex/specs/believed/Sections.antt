-- The sections of a model file: parameter lines, then group lines, then constraint lines. (PICT's
-- guide for the sections, ACTS guide for relations; the details are this project's rules.)
use Rattle.std.specs.Prelude.{ℕ, ◌-◌, Bool, true, false, not, ◌&&◌, ◌||◌, List, [], ◌∷◌, length}
use Rattle.std.specs.Prelude.{Option, Some, None, Result, Ok, Err, ◌==◌, nat_lt, slice_index, if◌then◌else◌, codes, zero, suc}
use Rattle.std.specs.Char.{is_ascii_alphanumeric}
use Rattle.std.specs.List.{list_any, take_while}
use Rattle.std.specs.Str.{is_utf8, str_eq_ignore_ascii_case}
use Rattle.model_lex.specs.believed.Blanks.{is_all_blank, without_first_blanks}
use Rattle.value_text.specs.believed.Texts.{is_blank}
use Rattle.model_lex.specs.believed.Lines.{numbered_lines}
use Rattle.model_lex.specs.declared.diag.Diag.{Diag}
use Rattle.model_lex.specs.declared.diag.DiagCode.{DiagCode}
use Rattle.model_lex.specs.declared.diag.DiagCode.TheVariants.{NotText, LateParameter, NoColon}
use Rattle.model_lex.specs.declared.line_kind.LineKind.{LineKind}
use Rattle.model_lex.specs.declared.line_kind.LineKind.TheVariants.{Param, Group, Rule}

-- a line that is ignored in every section: blanks alone, or `#` first after blanks
abbrev pub is_comment : List ℕ → Bool
is_comment text = slice_index (without_first_blanks text) 0 == 35

abbrev pub is_ignored : List ℕ → Bool
is_ignored text = is_all_blank text || is_comment text

-- the word at the start of a text: the longest run of ASCII letters, digits and `_`
abbrev pub is_word_byte : ℕ → Bool
is_word_byte byte = is_ascii_alphanumeric byte || (byte == 95)

abbrev pub first_word : List ℕ → List ℕ
first_word text = take_while is_word_byte text

-- whether a word is one of these, in any case
abbrev pub is_word_among : List (List ℕ) → List ℕ → Bool
is_word_among words word = list_any (λ known. str_eq_ignore_ascii_case known word) words

-- the words that may open a constraint, and how long such a word is at the start of a text, if it stands there
abbrev pub opening_words : List (List ℕ)
opening_words = codes "IF" ∷ codes "NOT" ∷ codes "ISNEGATIVE" ∷ codes "ISPOSITIVE" ∷ []

abbrev pub opening_len : List ℕ → ℕ
opening_len text = if is_word_among opening_words (first_word text) then length (first_word text) else 0

-- `[` or `(`
abbrev pub is_opening_mark : ℕ → Bool
is_opening_mark byte = (byte == 91) || (byte == 40)

-- whether opening words alone are left, or opening words before an opening mark: what a constraint
-- may go on with behind the word that opens it. The first `inside` bytes belong to such a word
abbrev pub goes_on : ℕ → List ℕ → Bool
goes_on inside [] = true
goes_on (suc inside) (byte ∷ rest) = goes_on inside rest
goes_on zero (byte ∷ rest) =
    if is_blank byte then goes_on 0 rest
    else if is_opening_mark byte then true
    else nat_lt 0 (opening_len (byte ∷ rest)) && goes_on (opening_len (byte ∷ rest) - 1) rest

-- whether a text opens a constraint: after blanks it begins with `[` or `(`, or with one of the
-- words behind which the text is blank or opens a constraint
abbrev pub opens_rule : List ℕ → Bool
opens_rule text = not (is_all_blank text) && goes_on 0 text

-- whether a line is a group: `{` or `@` first after blanks
abbrev pub opens_group : List ℕ → Bool
opens_group text = (slice_index (without_first_blanks text) 0 == 123) || (slice_index (without_first_blanks text) 0 == 64)

-- the kind of a line that isn't ignored, behind a line of a kind; the first is as behind a parameter
abbrev pub is_rule : LineKind → Bool
is_rule Param = false
is_rule Group = false
is_rule Rule = true

abbrev pub kind_of : LineKind → List ℕ → LineKind
kind_of before text =
    if is_rule before || opens_rule text then Rule
    else if opens_group text then Group
    else Param

-- why a line of a kind, behind one of another kind, is refused
abbrev pub has_colon : List ℕ → Bool
has_colon text = list_any (λ byte. byte == 58) text

abbrev pub misplaced : LineKind → LineKind → List ℕ → Option DiagCode
misplaced Param Param text = if has_colon text then None else Some NoColon
misplaced Group Param text = Some LateParameter
misplaced Rule Param text = None
misplaced before Group text = None
misplaced before Rule text = None

-- why a line that isn't ignored is refused, where it is
abbrev pub refusal_of : LineKind → List ℕ → Option DiagCode
refusal_of before text = if is_utf8 text then misplaced before (kind_of before text) text else Some NotText

-- the lines of each section, each with its number
pub record Split : Type 0 where
  pub params : List (ℕ × List ℕ)
  pub groups : List (ℕ × List ℕ)
  pub rules : List (ℕ × List ℕ)

abbrev pub no_lines : Split
no_lines = record { params = []; groups = []; rules = [] }

-- a line before the lines of its kind
abbrev pub put_before : LineKind → ℕ × List ℕ → Split → Split
put_before Param line split = record split { params = line ∷ split.params }
put_before Group line split = record split { groups = line ∷ split.groups }
put_before Rule line split = record split { rules = line ∷ split.rules }

abbrev pub with_line : LineKind → ℕ × List ℕ → Result Split Diag → Result Split Diag
with_line kind line (Ok split) = Ok (put_before kind line split)
with_line kind line (Err diag) = Err diag

-- the refusal of the line with this number, or else what stands in its place
abbrev pub refused_or : Option DiagCode → ℕ → Result Split Diag → Result Split Diag
refused_or (Some code) number split = Err (record { line = number; code = code })
refused_or None number split = split

-- the sections of lines behind a line of a kind, or the first refusal
abbrev pub sections_behind : LineKind → List (ℕ × List ℕ) → Result Split Diag
sections_behind before [] = Ok no_lines
sections_behind before (line ∷ lines) =
    if is_ignored line.1 then sections_behind before lines
    else refused_or (refusal_of before line.1) line.0 (with_line (kind_of before line.1) line (sections_behind (kind_of before line.1) lines))

-- the sections of a model file, or its first refusal
abbrev pub sections_of : List ℕ → Result Split Diag
sections_of bytes = sections_behind Param (numbered_lines bytes)
