-- What the parameter lines and the group lines of a model file say. (PICT's guide; the ACTS guide.)
use Rattle.std.specs.Prelude.{ℕ, ◌-◌, List, [], ◌∷◌, ◌++◌, map, flat_map, length, Option, Some, None, Result, ◌==◌, nat_lt, slice_index_or, if◌then◌else◌}
use Rattle.model_lex.specs.believed.Sections.{Split}
use Rattle.model_lex.specs.declared.diag.DiagCode.TheVariants.{NoParameters, OrderTooLarge}
use Rattle.model_lex.specs.declared.fault.LimitName.TheVariants.{Params}
use Rattle.model_lex.specs.declared.fault.ModelFault.{ModelFault}
use Rattle.model_lex.specs.declared.options.ModelOpts.{ModelOpts}
use Rattle.model_lex.specs.declared.options.OrderWord.{OrderWord}
use Rattle.model_lex.specs.declared.options.OrderWord.TheVariants.{Number, Max}
use Rattle.model_parse.specs.declared.raw_model.RawModel.{RawModel}
use Rattle.model_parse.specs.believed.ParamLines.{param_fault, params_of, notes_of}
use Rattle.model_parse.specs.believed.GroupLines.{group_fault, demand_of}
use Rattle.model_parse.specs.believed.Rules.{with_earlier, first_some, above, bad_line, read_unless}

-- the order of the whole, where there are so many parameters
abbrev pub order_in : OrderWord → ℕ → ℕ
order_in (Number n) count = n
order_in Max count = count

-- why the order of the whole is refused: it is above the number of parameters; its line is the last of them
abbrev pub order_fault : OrderWord → List (ℕ × List ℕ) → Option ModelFault
order_fault order lines =
    if nat_lt (length lines) (order_in order (length lines)) then Some (bad_line (slice_index_or lines (length lines - 1) (0, [])).0 OrderTooLarge)
    else None

-- the first refusal of the lines of a file: there is no parameter line, there are too many, then line by line, last the order
abbrev pub raw_fault : ModelOpts → Split → Option ModelFault
raw_fault opts split =
    first_some ((if length split.params == 0 then Some (bad_line 1 NoParameters) else None) ∷ above Params (length split.params)
    ∷ map (λ line. param_fault opts (params_of opts [] line.0) line.1) (with_earlier [] split.params)
    ++ map (group_fault opts (params_of opts [] split.params) (order_in opts.order (length split.params))) split.groups
    ++ order_fault opts.order split.params ∷ [])

-- the raw model of the lines of a file, or its first refusal
abbrev pub raw_model_of : ModelOpts → Split → Result RawModel ModelFault
raw_model_of opts split = read_unless (raw_fault opts split) (record {
  params = params_of opts [] split.params;
  demand = demand_of opts (params_of opts [] split.params) (order_in opts.order (length split.params)) split.groups;
  notes = flat_map (λ line. notes_of opts (params_of opts [] line.0) line.1) (with_earlier [] split.params);
})
