-- What a piece of a parameter line spells: a value, or the name of another parameter. (PICT's guide; the
-- order of the refusals is this project's rule.)
use Rattle.std.specs.Prelude.{ℕ, Bool, ◌&&◌, ◌||◌, List, [], map, length, drop, Option, Some, None, ◌==◌, nat_le, slice_index_or, if◌then◌else◌}
use Rattle.std.specs.List.{list_any, before_last, after_last}
use Rattle.std.specs.Str.Parse.{digits_value}
use Rattle.value_text.specs.believed.Numbers.{is_digits}
use Rattle.model_lex.specs.believed.Blanks.{trimmed}
use Rattle.model_lex.specs.declared.diag.DiagCode.{DiagCode}
use Rattle.model_lex.specs.declared.diag.DiagCode.TheVariants.{EmptyValueName, BadValueName, BadWeight}
use Rattle.model_lex.specs.declared.options.Marks.{Marks}
use Rattle.cov_model.specs.declared.parameter.Value.{Value}
use Rattle.model_parse.specs.believed.Pieces.{is_byte, pieces, begins_with, ends_with_byte, before_end, is_unfit}
use Rattle.model_parse.specs.believed.Rules.{first_some}

-- the digits of a piece's weight: what stands between its last `(` and the `)` at its end
abbrev pub weight_text : List ℕ → List ℕ
weight_text piece = trimmed (after_last (is_byte 40) (before_end piece))

abbrev pub has_weight : List ℕ → Bool
has_weight piece = ends_with_byte 41 piece && list_any (is_byte 40) (before_end piece) && is_digits (weight_text piece)

abbrev pub weight_of : List ℕ → ℕ
weight_of piece = if has_weight piece then digits_value 10 (weight_text piece) else 1

-- the names of a piece: what stands before its weight
abbrev pub names_text : List ℕ → List ℕ
names_text piece = if has_weight piece then before_last (is_byte 40) (before_end piece) else piece

-- a part without one mark of negative values at its start
abbrev pub without_prefix : ℕ → List ℕ → List ℕ
without_prefix prefix part = if begins_with prefix part then trimmed (drop 1 part) else part

abbrev pub names_of : Marks → List ℕ → List (List ℕ)
names_of marks piece = map (without_prefix marks.prefix) (pieces marks.alias (names_text piece))

-- the value that a piece spells; the mark before its first name makes it negative
abbrev pub value_of : Marks → List ℕ → Value
value_of marks piece =
    let negative = begins_with marks.prefix (slice_index_or (pieces marks.alias (names_text piece)) 0 []) in
    record { names = names_of marks piece; weight = weight_of piece; negative = negative }

-- why a value may not be called so
abbrev pub name_code : ℕ → List ℕ → Option DiagCode
name_code prefix name =
    if length name == 0 then Some EmptyValueName
    else if begins_with prefix name || is_unfit name then Some BadValueName
    else None

-- why a piece spells no value: the weight comes before the names, from the left
abbrev pub piece_code : Marks → List ℕ → Option DiagCode
piece_code marks piece = if nat_le 1 (weight_of piece) && nat_le (weight_of piece) 4294967295 then first_some (map (name_code marks.prefix) (names_of marks piece)) else Some BadWeight

-- `<P>`: the values of the parameter P
abbrev pub is_reference : List ℕ → Bool
is_reference piece = nat_le 2 (length piece) && begins_with 60 piece && ends_with_byte 62 piece

abbrev pub referred : List ℕ → List ℕ
referred piece = trimmed (drop 1 (before_end piece))
