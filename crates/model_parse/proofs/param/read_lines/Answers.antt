use Rattle.std.proofs.Common.{◌+◌, [], ap, ◌∙◌, arith}
use Rattle.model_lex.specs.Sections.{line_seen}
use Rattle.model_lex.specs.declared.sections.NumLine.{NumLine}
use Rattle.model_parse.specs.ParamSteps.{read_param, no_params}
use Rattle.model_parse.proofs.Answering.{gives_fault}
use Rattle.model_parse.proofs.Readings.{each_ends, each_next, each_stops}
use Rattle.model_parse.proofs.param.read_lines.Goals as goal

-- what a read past the end of a slice of lines gives
no_line : NumLine
no_line = record { line = 0; text = record { ref_ptr = (0, 0); now = [] } }

pub loop-line-preserved : goal.loop-line-preserved
unfolding no_line
loop-line-preserved c =
    let more = c.in_ok-read_param.ensures.more in (
      each_next (read_param c.args.opts.now) line_seen c.args.lines.now no_params c.loop-line.line-index no_line c.loop-line.read c.read_param.new.read
          c.loop-line-test.true c.loop-line.invariant.0 c.in_ok-read_param.ensures.value,
      record { as_params = more.one_param ∙ ap (λ n. n + 1) c.loop-line.invariant.1.as_params; as_known = more.one_known ∙ ap (λ n. n + 1) c.loop-line.invariant.1.as_known },
    )

pub returns-in_err-read_param-clause-value : goal.returns-in_err-read_param-clause-value
unfolding no_line
returns-in_err-read_param-clause-value c =
    gives_fault _ _ c.from_residual.result c.in_err-read_param.field-0.0 c.from_residual.ensures.1
    (λ n. each_stops (read_param c.args.opts.now) line_seen c.args.lines.now no_params c.loop-line.line-index no_line c.loop-line.read c.in_err-read_param.field-0.0
    c.loop-line-test.true c.loop-line.invariant.0 (c.in_err-read_param.ensures.value n))

pub returns-clause-value : goal.returns-clause-value
returns-clause-value c = each_ends (read_param c.args.opts.now) line_seen c.args.lines.now no_params c.loop-line.line-index c.loop-line.read (omega arith) c.loop-line.invariant.0
