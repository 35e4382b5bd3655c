-- Working notions: the parameter lines as they are read, line by line. `RuledParams` of proofs/ shows that this is
-- what the rules of `ParamLines` give.
use Rattle.std.specs.Prelude.{◌≡◌, ℕ, ◌+◌, Bool, List, [], ◌∷◌, ◌++◌, length, Option, Some, None, Result, Ok, Err, ◌==◌, nat_lt, if◌then◌else◌}
use Rattle.std.specs.List.{after_first}
use Rattle.value_text.specs.believed.Texts.{folded}
use Rattle.model_lex.specs.declared.diag.DiagCode.{DiagCode}
use Rattle.model_lex.specs.declared.diag.DiagCode.TheVariants.{EmptyParameterName, BadParameterName, RepeatedParameter, NoParameters}
use Rattle.model_lex.specs.declared.fault.LimitName.TheVariants.{Params, Values}
use Rattle.model_lex.specs.declared.fault.ModelFault.{ModelFault}
use Rattle.model_lex.specs.declared.fault.ModelFault.TheVariants.{Limit}
use Rattle.model_lex.specs.declared.note.Note.{Note}
use Rattle.model_lex.specs.declared.options.ModelOpts.{ModelOpts}
use Rattle.cov_model.specs.declared.parameter.Param.{Param}
use Rattle.cov_model.specs.believed.Sound.{is_numeric}
use Rattle.model_parse.specs.declared.reading.Reading.{Reading}
use Rattle.model_parse.specs.declared.reading.ParamsRead.{ParamsRead}
use Rattle.model_parse.specs.believed.Pieces.{is_byte, pieces, is_unfit}
use Rattle.model_parse.specs.believed.ParamLines.{line_name}
use Rattle.model_parse.specs.Steps.{refused, refused_or, and_then, and_each}
use Rattle.model_parse.specs.ValueSteps.{is_known, add_piece}

-- the list of values of a line
abbrev pub line_list : List ℕ → List ℕ
line_list text = after_first (is_byte 58) text

-- why a parameter may not be called so, behind parameters with these names
abbrev pub param_code : Bool → List (List ℕ) → List ℕ → Option DiagCode
param_code fold known name =
    if length name == 0 then Some EmptyParameterName
    else if is_unfit name then Some BadParameterName
    else if is_known fold known name then Some RepeatedParameter
    else None

-- the values of a list of values, behind parameters with these names, with the notes so far
abbrev pub read_values : ModelOpts → ℕ → List Param → List (List ℕ) → List Note → List ℕ → Result Reading ModelFault
read_values opts line params known notes list =
    and_each (add_piece opts line params known) (record { values = []; known = []; notes = notes }) (pieces opts.marks.separator list)

-- one more parameter of this name with these values; more than 4,095 values are too many
abbrev pub add_param : Bool → ℕ → List ℕ → List Param → List (List ℕ) → Reading → Result ParamsRead ModelFault
add_param fold line name params known values =
    if nat_lt 4095 (length values.values) then Err (Limit Values (length values.values))
    else Ok (record {
      params = params ++ record { name = name; line = line; numeric = is_numeric values.values; values = values.values } ∷ [];
      known = known ++ folded fold name ∷ [];
      notes = values.notes;
    })

-- one more line
abbrev pub read_param : ModelOpts → ParamsRead → ℕ × List ℕ → Result ParamsRead ModelFault
read_param opts read line =
    refused_or line.0 (param_code opts.fold read.known (line_name line.1))
    (and_then (read_values opts line.0 read.params read.known read.notes (line_list line.1)) (λ values. add_param opts.fold line.0 (line_name line.1) read.params read.known values))

-- there are so many parameters, with as many names
pub record Counts (read : ParamsRead) (count : ℕ) : Type 0 where
  pub as_params : length read.params ≡ count
  pub as_known : length read.known ≡ count

-- there is one parameter more, and one name
pub record IsOneMore (params known more_params more_known : ℕ) : Type 0 where
  pub one_param : more_params ≡ params + 1
  pub one_known : more_known ≡ known + 1

abbrev pub no_params : ParamsRead
no_params = record { params = []; known = []; notes = [] }

-- the parameters of all parameter lines: at least one and at most 256
abbrev pub read_params : ModelOpts → List (ℕ × List ℕ) → Result ParamsRead ModelFault
read_params opts lines =
    if length lines == 0 then refused 1 NoParameters
    else if nat_lt 256 (length lines) then Err (Limit Params (length lines))
    else and_each (read_param opts) no_params lines
