use Rattle.model_lex.specs.Sections.{split_seen}
use Rattle.constraint_ast.proofs.Lexing.{handed_on}
use Rattle.type_check.proofs.OneAnswer.{answers, model_of_file, refusal_of_file, sections_refused}
use Rattle.type_check.proofs.reading.read_model.Goals as goal

pub returns-clause-ok : goal.returns-clause-ok
returns-clause-ok c = model_of_file c.args.opts.now c.args.bytes.now
    (split_seen c.in_ok-sections.sections) c.read_sections.result c.in_ok-sections.ensures c.read_sections.ensures.ok

pub returns-clause-err : goal.returns-clause-err
returns-clause-err c = refusal_of_file c.args.opts.now c.args.bytes.now
    (split_seen c.in_ok-sections.sections) c.read_sections.result c.in_ok-sections.ensures c.read_sections.ensures.err

pub returns-clause-only : goal.returns-clause-only
returns-clause-only c =
    let split = split_seen c.in_ok-sections.sections in
    answers c.args.opts.now c.args.bytes.now c.read_sections.result
    (model_of_file c.args.opts.now c.args.bytes.now split c.read_sections.result c.in_ok-sections.ensures c.read_sections.ensures.ok)
    (refusal_of_file c.args.opts.now c.args.bytes.now split c.read_sections.result c.in_ok-sections.ensures c.read_sections.ensures.err)

pub returns-in_err-sections-clause-err : goal.returns-in_err-sections-clause-err
returns-in_err-sections-clause-err c =
    handed_on _ _ c.from_residual.result c.in_err-sections.field-0.0 c.from_residual.ensures.1
    (sections_refused c.args.opts.now c.args.bytes.now c.in_err-sections.field-0.0 c.in_err-sections.ensures)

pub returns-in_err-sections-clause-only : goal.returns-in_err-sections-clause-only
returns-in_err-sections-clause-only c =
    answers c.args.opts.now c.args.bytes.now c.from_residual.result
    (handed_on _ _ c.from_residual.result c.in_err-sections.field-0.0 c.from_residual.ensures.1 tt)
    (handed_on _ _ c.from_residual.result c.in_err-sections.field-0.0 c.from_residual.ensures.1
    (sections_refused c.args.opts.now c.args.bytes.now c.in_err-sections.field-0.0 c.in_err-sections.ensures))
