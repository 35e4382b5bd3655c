-- A parameter line as it is written: `NAME: a | b (3), ~c, d`. (PICT's guide; the blanks are this project's rule.)
use Rattle.std.specs.Prelude.{◌≡◌, ℕ, true, false, not, ◌&&◌, ◌||◌, List, [], ◌∷◌, ◌++◌, map, length, Ok, ◌==◌, nat_le, if◌then◌else◌, decimal, All}
use Rattle.std.specs.List.{list_any}
use Rattle.model_lex.specs.believed.Sections.{Split}
use Rattle.model_lex.specs.declared.options.Marks.{Marks}
use Rattle.model_lex.specs.declared.options.ModelOpts.{ModelOpts}
use Rattle.cov_model.specs.declared.parameter.Param.{Param}
use Rattle.cov_model.specs.declared.parameter.Value.{Value}
use Rattle.model_parse.specs.declared.raw_model.RawModel.{RawModel}
use Rattle.model_parse.specs.believed.Pieces.{is_byte, ends_with_byte}
use Rattle.model_parse.specs.RawModels.{AreOpts, IsSoundRaw}
use Rattle.model_parse.specs.believed.RawModels.{order_in, raw_model_of}
use Rattle.model_parse.specs.believed.Written.{joined}

-- the names of a value, with the mark of negative values before the first: `a | b`, `~c`
abbrev pub written_names : Marks → Value → List ℕ
written_names marks value = (if value.negative then marks.prefix ∷ [] else []) ++ joined (32 ∷ marks.alias ∷ 32 ∷ []) value.names

-- the weight behind names: ` (3)`; the weight 1 is left out, unless the names end with `)` or `>`
abbrev pub written_weight : List ℕ → ℕ → List ℕ
written_weight names weight =
    if (weight == 1) && not (ends_with_byte 41 names || ends_with_byte 62 names) then []
    else 32 ∷ 40 ∷ (decimal weight ++ 41 ∷ [])

abbrev pub written_value : Marks → Value → List ℕ
written_value marks value = written_names marks value ++ written_weight (written_names marks value) value.weight

abbrev pub written_param : Marks → Param → List ℕ
written_param marks param = param.name ++ 58 ∷ 32 ∷ joined (marks.separator ∷ 32 ∷ []) (map (written_value marks) param.values)

-- the lines of parameters, each at the line that its parameter tells
abbrev pub written_lines : Marks → List Param → Split
written_lines marks params = record { params = map (λ (param : Param). (param.line, written_param marks param)) params; groups = []; rules = [] }

-- neither a separator nor an alias mark stands in a name of a value, and its weight is from 1 to 4294967295
pub record IsWritable (marks : Marks) (value : Value) : Type 0 where
  pub separators : All (λ name. list_any (is_byte marks.separator) name ≡ false) value.names
  pub aliases : All (λ name. list_any (is_byte marks.alias) name ≡ false) value.names
  pub weight : nat_le 1 value.weight && nat_le value.weight 4294967295 ≡ true

-- a model of parameters alone
abbrev pub model_of : ModelOpts → List Param → RawModel
model_of opts params = record { params = params; demand = record { order = order_in opts.order (length params); subs = []; relations = [] }; notes = [] }

-- reading the lines of sound parameters gives them back, with no note
abbrev pub ParamsReadBack : Type 0
ParamsReadBack = (opts : ModelOpts) (params : List Param)
    → AreOpts opts → IsSoundRaw opts (model_of opts params) → All (λ param. All (IsWritable opts.marks) param.values) params
    → raw_model_of opts (written_lines opts.marks params) ≡ Ok (model_of opts params)
