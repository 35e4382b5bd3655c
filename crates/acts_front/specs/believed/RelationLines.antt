-- The relation lines of a file in the form of ACTS: `NAME: (P, P, K)`. (The ACTS guide; the details are this
-- project's rules.)
use Rattle.std.specs.Prelude.{ℕ, ◌-◌, Bool, not, ◌&&◌, List, [], length, drop, take, Option, Some, None, Result, Ok, Err, nat_lt, slice_index_or, if◌then◌else◌, is_none}
use Rattle.std.specs.List.{list_all, before_first, after_first}
use Rattle.value_text.specs.believed.Numbers.{count_of}
use Rattle.model_lex.specs.believed.Blanks.{trimmed, without_first_blanks}
use Rattle.model_parse.specs.believed.Pieces.{is_byte, before_end, begins_with, ends_with_byte, pieces}
use Rattle.acts_front.specs.believed.ParameterLines.{Scope, are_few_digits, is_declared, is_name, has_repeated}
use Rattle.acts_front.specs.declared.code.ActsCode.{ActsCode}
use Rattle.acts_front.specs.declared.code.ActsCode.TheVariants.{A5, A6, A7}

-- a relation: the names of its members, and the digits of its strength
pub record Relation : Type 0 where
  pub members : List (List ℕ)
  pub strength : List ℕ

-- behind the name and the first colon stands a list in parentheses, parted by commas
abbrev pub listed : List ℕ → List ℕ
listed text = without_first_blanks (after_first (is_byte 58) text)

abbrev pub parts_in : List ℕ → List (List ℕ)
parts_in text = pieces 44 (before_end (drop 1 (listed text)))

-- the last part is the strength, and those before it, one at least, are members
abbrev pub member_names : List (List ℕ) → List (List ℕ)
member_names parts = take (length parts - 1) parts

abbrev pub strength_of : List (List ℕ) → List ℕ
strength_of parts = slice_index_or parts (length parts - 1) []

abbrev pub relation_in_parts : List (List ℕ) → Option Relation
relation_in_parts parts =
    if nat_lt 0 (length (member_names parts)) && list_all is_name (member_names parts) && are_few_digits (strength_of parts)
    then Some (record { members = member_names parts; strength = strength_of parts }) else None

-- the relation of a line, where the line has the form of one
abbrev pub relation_in : List ℕ → Option Relation
relation_in text =
    if is_name (trimmed (before_first (is_byte 58) text)) && (begins_with 40 (listed text) && ends_with_byte 41 (listed text))
    then relation_in_parts (parts_in text) else None

-- the members of a relation are declared, and none is repeated
abbrev pub are_members : Scope → List (List ℕ) → Bool
are_members scope names = list_all (is_declared scope) names && not (has_repeated scope.fold [] names)

-- the relation of a line behind others, or why the line is refused: its strength is from 1 to the number of its
-- members
abbrev pub related_in : Scope → Option Relation → Result Relation ActsCode
related_in scope None = Err A5
related_in scope (Some relation) =
    if not (are_members scope relation.members) then Err A6
    else if is_none (count_of relation.strength 1 (length relation.members)) then Err A7
    else Ok relation

abbrev pub read_relation : Scope → List ℕ → Result Relation ActsCode
read_relation scope text = related_in scope (relation_in text)
