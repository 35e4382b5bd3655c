-- The parameter lines of a file in the form of ACTS: `NAME (TYPE): VALUE, VALUE`. (The ACTS guide; the details
-- are this project's rules.)
use Rattle.std.specs.Prelude.{ℕ, Bool, true, false, not, ◌&&◌, ◌||◌, List, [], ◌∷◌, ◌++◌, length, drop, Option, Some, None}
use Rattle.std.specs.Prelude.{Result, Ok, Err, nat_le, nat_lt, slice_index, if◌then◌else◌, codes, find, option_map}
use Rattle.std.specs.Char.{is_ascii_digit}
use Rattle.std.specs.List.{list_all, list_any, before_first, after_first}
use Rattle.std.specs.Str.{str_eq_ignore_ascii_case}
use Rattle.value_text.specs.believed.Numbers.{is_point}
use Rattle.value_text.specs.believed.Texts.{is_same_text}
use Rattle.model_lex.specs.believed.Blanks.{trimmed, without_first_blanks}
use Rattle.model_lex.specs.believed.Sections.{is_word_byte}
use Rattle.model_parse.specs.believed.Pieces.{is_byte, begins_with, pieces}
use Rattle.acts_front.specs.declared.kind.Kind.{Kind}
use Rattle.acts_front.specs.declared.kind.Kind.TheVariants.{Int, Enum, Boolean}
use Rattle.acts_front.specs.declared.code.ActsCode.{ActsCode}
use Rattle.acts_front.specs.declared.code.ActsCode.TheVariants.{A3, A4}

-- a name: a letter or `_`, then letters, digits and `_`
abbrev pub is_name : List ℕ → Bool
is_name text = nat_lt 0 (length text) && not (is_ascii_digit (slice_index text 0)) && list_all is_word_byte text

-- an int value: an optional `-` and 1 to 9 digits
abbrev pub without_minus : List ℕ → List ℕ
without_minus text = if begins_with 45 text then drop 1 text else text

abbrev pub are_few_digits : List ℕ → Bool
are_few_digits text = nat_le 1 (length text) && nat_le (length text) 9 && list_all is_ascii_digit text

abbrev pub is_whole : List ℕ → Bool
is_whole text = are_few_digits (without_minus text)

-- an enum value: a letter or `_`, then letters, digits, `_` and `.`
abbrev pub is_symbol : List ℕ → Bool
is_symbol text =
    nat_lt 0 (length text) && not (is_ascii_digit (slice_index text 0) || is_point (slice_index text 0))
    && list_all (λ byte. is_word_byte byte || is_point byte) text

-- a boolean value: TRUE or FALSE in any case
abbrev pub is_true : List ℕ → Bool
is_true text = str_eq_ignore_ascii_case text (codes "TRUE")

abbrev pub is_false : List ℕ → Bool
is_false text = str_eq_ignore_ascii_case text (codes "FALSE")

-- a value of a type
abbrev pub is_value : Kind → List ℕ → Bool
is_value Int text = is_whole text
is_value Enum text = is_symbol text
is_value Boolean text = is_true text || is_false text

-- the type of a word, in any case
abbrev pub named_kind : List ℕ → Option Kind
named_kind word =
    if str_eq_ignore_ascii_case word (codes "int") then Some Int
    else if str_eq_ignore_ascii_case word (codes "enum") then Some Enum
    else if str_eq_ignore_ascii_case word (codes "boolean") then Some Boolean
    else None

-- a parameter: its name, its type, and its values as they stand
pub record Parameter : Type 0 where
  pub name : List ℕ
  pub kind : Kind
  pub values : List (List ℕ)

-- its name stands before the first `(`, its type before the first `)` behind that, then a colon, and its values
-- behind the colon, parted by commas
abbrev pub behind_name : List ℕ → List ℕ
behind_name text = after_first (is_byte 40) text

abbrev pub behind_kind : List ℕ → List ℕ
behind_kind text = without_first_blanks (after_first (is_byte 41) (behind_name text))

abbrev pub name_in : List ℕ → List ℕ
name_in text = trimmed (before_first (is_byte 40) text)

abbrev pub kind_in : List ℕ → Option Kind
kind_in text = named_kind (trimmed (before_first (is_byte 41) (behind_name text)))

abbrev pub values_in : List ℕ → List (List ℕ)
values_in text = pieces 44 (drop 1 (behind_kind text))

abbrev pub parameter_with : List ℕ → Option Kind → Option Parameter
parameter_with text (Some kind) =
    if is_name (name_in text) && begins_with 58 (behind_kind text) && list_all (is_value kind) (values_in text)
    then Some (record { name = name_in text; kind = kind; values = values_in text }) else None
parameter_with text None = None

-- the parameter of a line, where the line has the form of one
abbrev pub parameter_in : List ℕ → Option Parameter
parameter_in text = parameter_with text (kind_in text)

-- what is known of the parameters that earlier lines declare, and whether letters of either case are one
pub record Declared : Type 0 where
  pub name : List ℕ
  pub kind : Kind

pub record Scope : Type 0 where
  pub fold : Bool
  pub params : List Declared

-- the type of the parameter of a name, where it is declared, under the case rule
abbrev pub has_name : Bool → List ℕ → Declared → Bool
has_name fold name param = is_same_text fold name param.name

abbrev pub kind_named : Scope → List ℕ → Option Kind
kind_named scope name = option_map (λ param. param.kind) (find (has_name scope.fold name) scope.params)

abbrev pub is_declared : Scope → List ℕ → Bool
is_declared scope name = list_any (has_name scope.fold name) scope.params

-- one of some texts is the same as an earlier one, or as one of these
abbrev pub has_repeated : Bool → List (List ℕ) → List (List ℕ) → Bool
has_repeated fold earlier [] = false
has_repeated fold earlier (text ∷ texts) = list_any (is_same_text fold text) earlier || has_repeated fold (earlier ++ text ∷ []) texts

-- boolean values are compared in any case
abbrev pub folds : Bool → Kind → Bool
folds fold Boolean = true
folds fold kind = fold

-- the parameter of a line behind others, or why the line is refused
abbrev pub declared_in : Scope → Option Parameter → Result Parameter ActsCode
declared_in scope None = Err A3
declared_in scope (Some param) =
    if is_declared scope param.name || has_repeated (folds scope.fold param.kind) [] param.values then Err A4 else Ok param

abbrev pub read_parameter : Scope → List ℕ → Result Parameter ActsCode
read_parameter scope text = declared_in scope (parameter_in text)
