-- What the values of options say. (PICT's guide for the delimiters and the prefix; the ranges and
-- names are this project's rules.)
use Rattle.std.specs.Prelude.{ℕ, ◌-◌, ◌^◌, ◌==◌, ◌&&◌, ◌||◌, not, Bool, true, false, List, [], ◌∷◌}
use Rattle.std.specs.Prelude.{length, Option, Some, None, is_some, option_map, unwrap_or, codes}
use Rattle.std.specs.Prelude.{if◌then◌else◌, nat_le}
use Rattle.std.specs.List.{list_any}
use Rattle.std.specs.Option.{option_map_or}
use Rattle.std.specs.Str.{bytes_eq}
use Rattle.clap.specs.Words.{Row, Text, first_of}
use Rattle.value_text.specs.believed.Numbers.{count_of}
use Rattle.jeldroft_args.specs.believed.Arguments.{name_of}
use Rattle.jeldroft_args.specs.declared.argument.Argument.{Argument}
use Rattle.jeldroft_args.specs.declared.argument.Argument.TheVariants as a
use Rattle.jeldroft_args.specs.declared.strength.Strength.{Strength}
use Rattle.jeldroft_args.specs.declared.strength.Strength.TheVariants.{Number, Max}
use Rattle.jeldroft_args.specs.declared.format.Format.{Format}
use Rattle.jeldroft_args.specs.declared.format.Format.TheVariants as format
use Rattle.jeldroft_args.specs.declared.format.FindingFormat.{FindingFormat}
use Rattle.jeldroft_args.specs.declared.format.FindingFormat.TheVariants as finding
use Rattle.jeldroft_args.specs.declared.delimiter.Delimiter.{Delimiter}
use Rattle.jeldroft_args.specs.declared.delimiter.Delimiter.TheVariants.{Tab, Comma}
use Rattle.jeldroft_args.specs.declared.marks.Marks.{Marks}

-- the value that an argument got, if it got one
abbrev pub value_of : Argument → List Row → Option Text
value_of argument rows = first_of (name_of argument) rows

-- whether an option without a value was used
abbrev pub is_on : Argument → List Row → Bool
is_on argument rows =
    option_map_or (λ text. bytes_eq text (codes "true")) (value_of argument rows) false

-- what a value says, or what holds where there is none
abbrev pub read_or : {X : Type 0} → (Text → Option X) → X → Option Text → X
read_or read usual value = option_map_or (λ text. unwrap_or (read text) usual) value usual

-- ---- numbers

abbrev pub strength_of : Text → Option Strength
strength_of text =
    if bytes_eq text (codes "max") then Some Max else option_map Number (count_of text 1 256)

abbrev pub length_of : Text → Option ℕ
length_of text = count_of text 2 3

abbrev pub proof_format_of : Text → Option ℕ
proof_format_of text = count_of text 1 2

abbrev pub threads_of : Text → Option ℕ
threads_of text = count_of text 1 64

abbrev pub rounds_of : Text → Option ℕ
rounds_of text = count_of text 0 (2 ^ 40)

abbrev pub budget_of : Text → Option ℕ
budget_of text = count_of text 1 (2 ^ 40)

-- the number of a shuffle or of random choices
abbrev pub number_of : Text → Option ℕ
number_of text = count_of text 0 (2 ^ 64 - 1)

-- ---- names

-- the forms of a table
abbrev pub table_format_of : Text → Option Format
table_format_of text =
    if bytes_eq text (codes "tsv") then Some format.Tsv
    else if bytes_eq text (codes "csv") then Some format.Csv
    else if bytes_eq text (codes "json") then Some format.Json
    else if bytes_eq text (codes "markdown") then Some format.Markdown
    else None

-- those of a suite that is shown
abbrev pub format_of : Text → Option Format
format_of text =
    if bytes_eq text (codes "text") then Some format.Text
    else if bytes_eq text (codes "html") then Some format.Html
    else table_format_of text

abbrev pub finding_format_of : Text → Option FindingFormat
finding_format_of text =
    if bytes_eq text (codes "text") then Some finding.Text
    else if bytes_eq text (codes "json") then Some finding.Json
    else None

abbrev pub delimiter_of : Text → Option Delimiter
delimiter_of text =
    if bytes_eq text (codes "tab") then Some Tab
    else if bytes_eq text (codes "comma") then Some Comma
    else None

-- ---- marks

abbrev pub is_letter : ℕ → Bool
is_letter c = (nat_le 65 c && nat_le c 90) || (nat_le 97 c && nat_le c 122)

abbrev pub is_digit : ℕ → Bool
is_digit c = nat_le 48 c && nat_le c 57

-- " # ( ) : < > @ [ \ ] { }
abbrev pub reserved : List ℕ
reserved = 34 ∷ 35 ∷ 40 ∷ 41 ∷ 58 ∷ 60 ∷ 62 ∷ 64 ∷ 91 ∷ 92 ∷ 93 ∷ 123 ∷ 125 ∷ []

-- an ASCII character from 33 to 126 that is no letter, no digit and not reserved
abbrev pub is_mark : ℕ → Bool
is_mark c = nat_le 33 c && nat_le c 126 && not (is_letter c) && not (is_digit c)
    && not (list_any (λ r. r == c) reserved)

abbrev pub mark_of : Text → Option ℕ
mark_of [] = None
mark_of (c ∷ []) = if is_mark c then Some c else None
mark_of (c ∷ d ∷ rest) = None

abbrev pub marks_in : List Row → Marks
marks_in rows = record {
  separator = read_or mark_of 44 (value_of a.Separator rows);
  alias = read_or mark_of 124 (value_of a.AliasSeparator rows);
  invalid = read_or mark_of 126 (value_of a.InvalidMark rows);
}

abbrev pub has_equal_marks : Marks → Bool
has_equal_marks marks = (marks.separator == marks.alias) || (marks.separator == marks.invalid)
    || (marks.alias == marks.invalid)

-- ---- files

abbrev pub is_dash : Text → Bool
is_dash text = bytes_eq text (codes "-")

abbrev pub is_name : Text → Bool
is_name text = not (length text == 0)

-- `-`, standard input, stands only for a model or a table
abbrev pub is_file : Text → Bool
is_file text = is_name text && not (is_dash text)

-- ---- which values have a reading

abbrev pub has_reading : Argument → Text → Bool
has_reading a.Model text = is_name text
has_reading a.Table text = is_name text
has_reading a.Results text = is_name text
has_reading a.TableProof text = is_file text
has_reading a.Events text = is_file text
has_reading a.ActsFile text = is_file text
has_reading a.Seeds text = is_file text
has_reading a.Proof text = is_file text
has_reading a.Output text = is_file text
has_reading a.Report text = is_file text
has_reading a.Strength text = is_some (strength_of text)
has_reading a.SequenceLength text = is_some (length_of text)
has_reading a.ProofFormat text = is_some (proof_format_of text)
has_reading a.TableFormat text = is_some (table_format_of text)
has_reading a.Format text = is_some (format_of text)
has_reading a.FindingFormat text = is_some (finding_format_of text)
has_reading a.Shuffle text = is_some (number_of text)
has_reading a.Random text = is_some (number_of text)
has_reading a.Rounds text = is_some (rounds_of text)
has_reading a.Budget text = is_some (budget_of text)
has_reading a.Threads text = is_some (threads_of text)
has_reading a.Separator text = is_some (mark_of text)
has_reading a.AliasSeparator text = is_some (mark_of text)
has_reading a.InvalidMark text = is_some (mark_of text)
has_reading a.Delimiter text = is_some (delimiter_of text)
has_reading a.ResultColumn text = is_name text
has_reading a.Shrink text = true
has_reading a.Spread text = true
has_reading a.All text = true
has_reading a.CaseSensitive text = true
has_reading a.NoWarnings text = true
has_reading a.Quiet text = true
