use Rattle.std.proofs.Common.{[]}
use Rattle.model_lex.specs.Sections.{line_seen}
use Rattle.model_lex.specs.declared.sections.NumLine.{NumLine}
use Rattle.model_parse.specs.GroupSteps.{read_group}
use Rattle.model_parse.proofs.Answering.{gives_fault}
use Rattle.model_parse.proofs.Readings.{each_stops}
use Rattle.model_parse.proofs.group.add_groups.Goals as goal

-- what a read past the end of a slice of lines gives
no_line : NumLine
no_line = record { line = 0; text = record { ref_ptr = (0, 0); now = [] } }

pub returns-in_err-read_group : goal.returns-in_err-read_group
unfolding no_line
returns-in_err-read_group c =
    gives_fault _ _ c.from_residual.result c.in_err-read_group.field-0.0 c.from_residual.ensures.1
    (λ n. each_stops (read_group c.args.opts.now c.args.known.now) line_seen c.args.lines.now c.args.demand.now c.loop-line.line-index no_line c.loop-line.demand c.in_err-read_group.field-0.0
    c.loop-line-test.true c.loop-line.invariant (c.in_err-read_group.ensures n))
