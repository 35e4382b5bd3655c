use Rattle.std.proofs.Common.{◌≡◌, map, length, sym, ap, ◌∙◌}
use Rattle.model_lex.specs.Sections.{line_seen}
use Rattle.model_parse.specs.GroupSteps.{read_groups}
use Rattle.model_parse.specs.ModelSteps.{with_demand}
use Rattle.model_parse.specs.believed.RawModels.{order_in}
use Rattle.model_parse.specs.Steps.{and_then}
use Rattle.model_parse.proofs.Answering.{gives_fault}
use Rattle.model_parse.proofs.raw_model.read_demand.Goals as goal
use Rattle.model_parse.proofs.raw_model.read_demand.Goals.{After-read_groups}

-- the demand is read with the order that the definition has
goes : (c : After-read_groups) → read_groups c.args.opts.now c.args.read.now.known (order_in c.args.opts.now.order (length c.args.read.now.params)) (map line_seen c.args.groups.now)
    ≡ read_groups c.args.opts.now c.args.read.now.known c.order_in-order.result (map line_seen c.args.groups.now)
goes c = ap (λ order. read_groups c.args.opts.now c.args.read.now.known order (map line_seen c.args.groups.now))
    (ap (λ count. order_in c.args.opts.now.order count) (sym c.len.ensures) ∙ sym c.order_in-order.ensures)

pub returns : goal.returns
returns c =
    ap (λ demand. and_then demand (with_demand (map line_seen c.args.lines.now) c.args.read.now)) (goes (goal.at.returns c).After-read_groups ∙ c.in_ok-demand.ensures)
    ∙ c.in_ok-check_order.ensures

pub returns-in_err-demand : goal.returns-in_err-demand
returns-in_err-demand c =
    gives_fault _ _ c.from_residual.result c.in_err-demand.field-0.0 c.from_residual.ensures.1
    (λ n. ap (λ demand. and_then demand (with_demand (map line_seen c.args.lines.now) c.args.read.now))
    (goes (goal.at.returns-in_err-demand c).After-read_groups ∙ c.in_err-demand.ensures n))

pub returns-in_err-check_order : goal.returns-in_err-check_order
returns-in_err-check_order c =
    gives_fault _ _ c.from_residual-in_err-check_order.result c.in_err-check_order.field-0.0 c.from_residual-in_err-check_order.ensures.1
    (λ n. ap (λ demand. and_then demand (with_demand (map line_seen c.args.lines.now) c.args.read.now))
    (goes (goal.at.returns-in_err-check_order c).After-read_groups ∙ c.in_ok-demand.ensures) ∙ c.in_err-check_order.ensures n)
