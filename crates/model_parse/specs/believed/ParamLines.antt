-- The parameter lines of a model file. (PICT's guide; the order of the refusals is this project's rule.)
use Rattle.std.specs.Prelude.{ℕ, Bool, not, List, [], ◌∷◌, ◌++◌, map, flat_map, filter, length, Option, Some, None, ◌==◌, nat_lt, if◌then◌else◌, position, is_some}
use Rattle.std.specs.List.{list_any, before_first, after_first}
use Rattle.std.specs.Option.{option_or, option_map, option_map_or}
use Rattle.value_text.specs.believed.Texts.{is_same_text}
use Rattle.model_lex.specs.believed.Blanks.{trimmed}
use Rattle.model_lex.specs.declared.diag.DiagCode.{DiagCode}
use Rattle.model_lex.specs.declared.diag.DiagCode.TheVariants.{EmptyParameterName, BadParameterName, RepeatedParameter, UnknownReference}
use Rattle.model_lex.specs.declared.fault.LimitName.TheVariants.{Values, Names}
use Rattle.model_lex.specs.declared.fault.ModelFault.{ModelFault}
use Rattle.model_lex.specs.declared.note.Note.{Note}
use Rattle.model_lex.specs.declared.note.NoteCode.TheVariants.{RepeatedValueName}
use Rattle.model_lex.specs.declared.options.ModelOpts.{ModelOpts}
use Rattle.cov_model.specs.declared.parameter.Param.{Param}
use Rattle.cov_model.specs.declared.parameter.Value.{Value}
use Rattle.cov_model.specs.believed.Sound.{param_at, is_numeric}
use Rattle.model_parse.specs.believed.Pieces.{is_byte, pieces, is_unfit}
use Rattle.model_parse.specs.believed.Rules.{with_earlier, first_some, bad_line, above}
use Rattle.model_parse.specs.believed.Values.{is_reference, referred, piece_code, value_of}

-- the name of a parameter line, before its first colon, and the pieces of its list of values, behind it
abbrev pub line_name : List ℕ → List ℕ
line_name text = trimmed (before_first (is_byte 58) text)

abbrev pub line_pieces : ModelOpts → List ℕ → List (List ℕ)
line_pieces opts text = pieces opts.marks.separator (after_first (is_byte 58) text)

-- the place of the parameter of a name
abbrev pub place_named : Bool → List Param → List ℕ → Option ℕ
place_named fold params name = position (λ param. is_same_text fold name param.name) params

-- the values that a piece gives behind these parameters: those of the one that it names, or the one that it spells
abbrev pub values_of : ModelOpts → List Param → List ℕ → List Value
values_of opts params piece =
    if is_reference piece then option_map_or (λ p. (param_at params p).values) (place_named opts.fold params (referred piece)) []
    else value_of opts.marks piece ∷ []

-- the values that pieces give in order, copies included, and the names of values in order
abbrev pub given : ModelOpts → List Param → List (List ℕ) → List Value
given opts params pieces = flat_map (values_of opts params) pieces

abbrev pub all_names : List Value → List (List ℕ)
all_names values = flat_map (λ value. value.names) values

-- an earlier text is the same
abbrev pub is_repeated : Bool → List (List ℕ) × List ℕ → Bool
is_repeated fold text = list_any (is_same_text fold text.1) text.0

-- a name is kept exactly if no earlier one is the same
abbrev pub kept_names : Bool → List (List ℕ) → List (List ℕ) → List (List ℕ)
kept_names fold before names = map (λ name. name.1) (filter (λ name. not (is_repeated fold name)) (with_earlier before names))

-- a value with the names that it keeps behind earlier values
abbrev pub kept_value : Bool → List Value × Value → Value
kept_value fold value = record { names = kept_names fold (all_names value.0) value.1.names; weight = value.1.weight; negative = value.1.negative }

-- a value is kept exactly if one of its names is
abbrev pub kept_values : Bool → List Value → List Value
kept_values fold values = filter (λ value. nat_lt 0 (length value.names)) (map (kept_value fold) (with_earlier [] values))

-- the parameter that a line spells behind others
abbrev pub param_of : ModelOpts → List Param → ℕ × List ℕ → Param
param_of opts params line =
    let values = kept_values opts.fold (given opts params (line_pieces opts line.1)) in
    record { name = line_name line.1; line = line.0; numeric = is_numeric values; values = values }

-- one note for each name that isn't kept
abbrev pub notes_of : ModelOpts → List Param → ℕ × List ℕ → List Note
notes_of opts params line =
    map (λ name. record { line = line.0; code = RepeatedValueName }) (filter (is_repeated opts.fold) (with_earlier [] (all_names (given opts params (line_pieces opts line.1)))))

-- why a parameter may not be called so behind others
abbrev pub called_code : Bool → List Param → List ℕ → Option DiagCode
called_code fold params name =
    if length name == 0 then Some EmptyParameterName
    else if is_unfit name then Some BadParameterName
    else if list_any (λ param. is_same_text fold name param.name) params then Some RepeatedParameter
    else None

-- why a piece gives no values: it names no parameter, or spells no value
abbrev pub values_code : ModelOpts → List Param → List ℕ → Option DiagCode
values_code opts params piece =
    if is_reference piece then (if is_some (place_named opts.fold params (referred piece)) then None else Some UnknownReference)
    else piece_code opts.marks piece

-- why a piece is refused behind others of its line: it gives no values, or one that keeps too many names
abbrev pub piece_fault : ModelOpts → ℕ → List Param → List (List ℕ) × List ℕ → Option ModelFault
piece_fault opts line params piece =
    option_or (option_map (bad_line line) (values_code opts params piece.1))
    (first_some (map (λ value. above Names (length (kept_value opts.fold value).names)) (with_earlier (given opts params piece.0) (values_of opts params piece.1))))

-- why a line is refused behind these parameters: its name, the first piece that is refused, too many values
abbrev pub param_fault : ModelOpts → List Param → ℕ × List ℕ → Option ModelFault
param_fault opts params line =
    first_some (option_map (bad_line line.0) (called_code opts.fold params (line_name line.1))
    ∷ map (piece_fault opts line.0 params) (with_earlier [] (line_pieces opts line.1))
    ++ above Values (length (param_of opts params line).values) ∷ [])

-- the parameters that lines spell, each behind those of the lines before it
abbrev pub params_of : ModelOpts → List Param → List (ℕ × List ℕ) → List Param
params_of opts params [] = params
params_of opts params (line ∷ lines) = params_of opts (params ++ param_of opts params line ∷ []) lines
