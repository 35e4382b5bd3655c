use Rattle.std.proofs.Common.{◌≡◌, Ok, map, length, refl, sym, ◌∙◌, ap}
use Rattle.model_lex.specs.Sections.{line_seen, split_seen}
use Rattle.model_parse.specs.GroupSteps.{read_groups}
use Rattle.model_parse.specs.RawModels.{IsSoundRaw}
use Rattle.model_parse.specs.believed.RawModels.{order_in, raw_model_of}
use Rattle.model_parse.specs.ModelSteps.{with_demand}
use Rattle.model_parse.specs.Steps.{and_then}
use Rattle.model_parse.specs.declared.raw_model.RawModel.{RawModel}
use Rattle.model_parse.proofs.Answering.{gives_fault, raw_goes, raw_stops}
use Rattle.model_parse.proofs.Keeping.{given_ok}
use Rattle.model_parse.proofs.RuledGroups.{raw_ruled}
use Rattle.model_parse.proofs.SoundGroups.{raw_ok}
use Rattle.model_parse.proofs.raw_model.parse_params.Goals as goal
use Rattle.model_parse.proofs.raw_model.parse_params.Goals.{After-read_demand}

goes : (c : After-read_demand) → raw_model_of c.args.opts.now (split_seen c.args.sections.now)
    ≡ and_then (read_groups c.args.opts.now c.in_ok-read.read.known (order_in c.args.opts.now.order (length c.in_ok-read.read.params)) (map line_seen c.as_slice.result.now))
    (with_demand (map line_seen c.as_slice-lines.result.now) c.in_ok-read.read)
goes c =
    sym (raw_ruled c.args.opts.now (split_seen c.args.sections.now))
    ∙ raw_goes c.args.opts.now (split_seen c.args.sections.now) (map line_seen c.as_slice-lines.result.now) (map line_seen c.as_slice.result.now) c.in_ok-read.read _
    (ap (map line_seen) c.as_slice-lines.ensures) (ap (map line_seen) c.as_slice.ensures) c.in_ok-read.ensures.value refl

pub returns-clause-value : goal.returns-clause-value
returns-clause-value c = goes (goal.at.returns-clause-value c).After-read_demand ∙ c.in_ok-demand.ensures

pub returns-clause-sound : goal.returns-clause-sound
returns-clause-sound c =
    let raw : RawModel = record { params = c.in_ok-read.read.params; demand = c.in_ok-demand.demand; notes = c.in_ok-read.read.notes } in
    given_ok (IsSoundRaw c.args.opts.now) _ (Ok raw) (raw_ok c.args.opts.now (split_seen c.args.sections.now) c.requires)
    (goes (goal.at.returns-clause-sound c).After-read_demand ∙ c.in_ok-demand.ensures)

pub returns-in_err-demand-clause-value : goal.returns-in_err-demand-clause-value
returns-in_err-demand-clause-value c =
    gives_fault (λ raw. raw) _ c.from_residual-in_err-demand.result c.in_err-demand.field-0.0 c.from_residual-in_err-demand.ensures.1
    (λ n. goes (goal.at.returns-in_err-demand-clause-value c).After-read_demand ∙ c.in_err-demand.ensures n)

pub returns-in_err-read-clause-value : goal.returns-in_err-read-clause-value
returns-in_err-read-clause-value c =
    gives_fault (λ raw. raw) _ c.from_residual.result c.in_err-read.field-0.0 c.from_residual.ensures.1
    (λ n. sym (raw_ruled c.args.opts.now (split_seen c.args.sections.now)) ∙ raw_stops c.args.opts.now (split_seen c.args.sections.now) _ c.in_err-read.field-0.0
    (ap (map line_seen) c.as_slice-lines.ensures) (c.in_err-read.ensures.value n))
