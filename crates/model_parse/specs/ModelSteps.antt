-- Working notions: a model file as it is read, its parameter lines before its group lines. `RuledGroups` of proofs/
-- shows that this is what the rules of `RawModels` give.
use Rattle.std.specs.Prelude.{ℕ, ◌-◌, List, [], length, Result, Ok, nat_lt, slice_index_or, if◌then◌else◌}
use Rattle.cov_model.specs.declared.demand.Demand.{Demand}
use Rattle.model_lex.specs.believed.Sections.{Split}
use Rattle.model_lex.specs.declared.diag.DiagCode.TheVariants.{OrderTooLarge}
use Rattle.model_lex.specs.declared.fault.ModelFault.{ModelFault}
use Rattle.model_lex.specs.declared.options.ModelOpts.{ModelOpts}
use Rattle.model_parse.specs.declared.reading.ParamsRead.{ParamsRead}
use Rattle.model_parse.specs.declared.raw_model.RawModel.{RawModel}
use Rattle.model_parse.specs.Steps.{refused, and_then}
use Rattle.model_parse.specs.ParamSteps.{read_params}
use Rattle.model_parse.specs.GroupSteps.{read_groups}
use Rattle.model_parse.specs.believed.RawModels.{order_in}

-- the order may not be above the number of parameters; its line is the last of them
abbrev pub with_demand : List (ℕ × List ℕ) → ParamsRead → Demand → Result RawModel ModelFault
with_demand lines read demand =
    if nat_lt (length read.params) demand.order then refused (slice_index_or lines (length lines - 1) (0, [])).0 OrderTooLarge
    else Ok (record { params = read.params; demand = demand; notes = read.notes })

-- the raw model of the lines of a file, or its first refusal
abbrev pub read_raw : ModelOpts → Split → Result RawModel ModelFault
read_raw opts split =
    and_then (read_params opts split.params) (λ read.
    and_then (read_groups opts read.known (order_in opts.order (length read.params)) split.groups) (λ demand.
    with_demand split.params read demand))
