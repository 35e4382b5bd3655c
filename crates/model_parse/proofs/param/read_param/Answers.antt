use Rattle.std.proofs.Common.{◌≡◌, Result, Ok, Err, sym, ◌∙◌, ap}
use Rattle.model_lex.specs.believed.Blanks.{trimmed}
use Rattle.model_lex.specs.Sections.{line_seen}
use Rattle.model_lex.specs.declared.fault.ModelFault.{ModelFault}
use Rattle.model_parse.specs.ParamSteps.{read_values, read_param, add_param}
use Rattle.model_parse.specs.Steps.{and_then}
use Rattle.model_parse.specs.declared.reading.Reading.{Reading}
use Rattle.model_parse.proofs.Answering.{gives_fault, gives_same, read_goes}
use Rattle.model_parse.proofs.param.read_param.Goals as goal
use Rattle.model_parse.proofs.param.read_param.Goals.{After-read_values}

goes : (c : After-read_values) (values : Result Reading ModelFault)
    → read_values c.args.opts.now c.args.line.line c.as_slice.result.now c.args.read.now.known c.replace-notes.result c.cut_colon.result.1.now ≡ values
    → read_param c.args.opts.now c.args.read.now (line_seen c.args.line)
    ≡ and_then values (λ v. add_param c.args.opts.now.fold c.args.line.line c.trimmed-name.result.now c.args.read.now.params c.args.read.now.known v)
goes c values is =
    read_goes c.args.opts.now c.args.read.now (line_seen c.args.line) c.trimmed-name.result.now c.cut_colon.result.1.now values
    (sym c.in_ok-code.ensures ∙ c.in_default.is)
    (c.trimmed-name.ensures ∙ ap trimmed c.cut_colon.ensures.before) c.cut_colon.ensures.behind
    (ap (λ ps. read_values c.args.opts.now c.args.line.line ps c.args.read.now.known c.args.read.now.notes c.cut_colon.result.1.now) (sym c.as_slice.ensures)
    ∙ ap (λ notes. read_values c.args.opts.now c.args.line.line c.as_slice.result.now c.args.read.now.known notes c.cut_colon.result.1.now) (sym c.replace-notes.ensures.value) ∙ is)

pub returns-clause-value : goal.returns-clause-value
returns-clause-value c =
    gives_same (λ done. c.add_param.new.read) c.add_param.result _ _ (sym (goes (goal.at.returns-clause-value c).After-read_values
    (Ok c.in_ok-on_line.on_line) c.in_ok-on_line.ensures)) c.add_param.ensures.value

pub returns-in_err-on_line-clause-value : goal.returns-in_err-on_line-clause-value
returns-in_err-on_line-clause-value c =
    gives_fault _ _ c.from_residual-in_err-on_line.result c.in_err-on_line.field-0.0 c.from_residual-in_err-on_line.ensures.1
    (λ n. goes (goal.at.returns-in_err-on_line-clause-value c).After-read_values (Err c.in_err-on_line.field-0.0) (c.in_err-on_line.ensures n))
