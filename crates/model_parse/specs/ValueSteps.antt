-- Working notions: the values of a parameter line as they are read, piece by piece. `RuledParams` of proofs/ shows
-- that this is what the rules of `ParamLines` give.
use Rattle.std.specs.Prelude.{ℕ, Bool, ◌&&◌, List, [], ◌∷◌, ◌++◌, map, length, Option, Some, None, Result, Ok, Err, ◌==◌, nat_le, nat_lt, if◌then◌else◌, position}
use Rattle.std.specs.List.{list_any}
use Rattle.std.specs.Str.{bytes_eq}
use Rattle.value_text.specs.believed.Texts.{folded}
use Rattle.model_lex.specs.declared.diag.DiagCode.{DiagCode}
use Rattle.model_lex.specs.declared.diag.DiagCode.TheVariants.{UnknownReference}
use Rattle.model_lex.specs.declared.fault.LimitName.TheVariants.{Names}
use Rattle.model_lex.specs.declared.fault.ModelFault.{ModelFault}
use Rattle.model_lex.specs.declared.fault.ModelFault.TheVariants.{Limit}
use Rattle.model_lex.specs.declared.note.Note.{Note}
use Rattle.model_lex.specs.declared.note.NoteCode.TheVariants.{RepeatedValueName}
use Rattle.model_lex.specs.declared.options.ModelOpts.{ModelOpts}
use Rattle.cov_model.specs.declared.parameter.Param.{Param}
use Rattle.cov_model.specs.declared.parameter.Value.{Value}
use Rattle.cov_model.specs.believed.Sound.{param_at}
use Rattle.model_parse.specs.declared.reading.Reading.{Reading}
use Rattle.model_parse.specs.Steps.{refused, refused_or, and_then, and_each}
use Rattle.model_parse.specs.believed.Values.{is_reference, referred, name_code, piece_code, value_of}
use Rattle.model_parse.specs.believed.Rules.{first_some}

abbrev pub is_weight : ℕ → Bool
is_weight weight = nat_le 1 weight && nat_le weight 4294967295

-- why a value may not have these names: the first reason
abbrev pub names_code : ℕ → List (List ℕ) → Option DiagCode
names_code prefix names = first_some (map (name_code prefix) names)

-- whether a name is among known ones, and its place; the known ones are given as the case rule compares them
abbrev pub is_known : Bool → List (List ℕ) → List ℕ → Bool
is_known fold known name = list_any (bytes_eq (folded fold name)) known

abbrev pub place_of : Bool → List (List ℕ) → List ℕ → Option ℕ
place_of fold known name = position (bytes_eq (folded fold name)) known

-- the values that a piece stands for, behind these parameters with these names
abbrev pub values_at : ℕ → List Param → Option ℕ → Result (List Value) ModelFault
values_at line params (Some p) = Ok (param_at params p).values
values_at line params None = refused line UnknownReference

abbrev pub piece_values : ModelOpts → ℕ → List Param → List (List ℕ) → List ℕ → Result (List Value) ModelFault
piece_values opts line params known piece =
    if is_reference piece then values_at line params (place_of opts.fold known (referred piece))
    else refused_or line (piece_code opts.marks piece) (Ok (value_of opts.marks piece ∷ []))

-- the names that a value keeps, the names of its parameter so far, and the notes
pub record Kept : Type 0 where
  pub names : List (List ℕ)
  pub known : List (List ℕ)
  pub notes : List Note

-- a name that an earlier name of the parameter equals is dropped with a note
abbrev pub keep_name : Bool → ℕ → Kept → List ℕ → Kept
keep_name fold line kept name =
    if is_known fold kept.known name then record kept { notes = kept.notes ++ record { line = line; code = RepeatedValueName } ∷ [] }
    else record kept { names = kept.names ++ name ∷ []; known = kept.known ++ folded fold name ∷ [] }

abbrev pub keep_names : Bool → ℕ → Kept → List (List ℕ) → Kept
keep_names fold line kept [] = kept
keep_names fold line kept (name ∷ names) = keep_names fold line (keep_name fold line kept name) names

-- one more value, unless no name is left of it; more than 64 names are too many
abbrev pub add_kept : List Value → Value → Kept → Result Reading ModelFault
add_kept values value kept =
    if nat_lt 64 (length kept.names) then Err (Limit Names (length kept.names))
    else Ok (record { values = if length kept.names == 0 then values else values ++ record value { names = kept.names } ∷ []; known = kept.known; notes = kept.notes })

abbrev pub add_value : Bool → ℕ → Reading → Value → Result Reading ModelFault
add_value fold line read value =
    add_kept read.values value (keep_names fold line (record { names = []; known = read.known; notes = read.notes }) value.names)

-- one more piece
abbrev pub add_piece : ModelOpts → ℕ → List Param → List (List ℕ) → Reading → List ℕ → Result Reading ModelFault
add_piece opts line params known read piece =
    and_then (piece_values opts line params known piece) (λ values. and_each (add_value opts.fold line) read values)
