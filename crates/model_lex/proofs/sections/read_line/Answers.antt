use Rattle.std.proofs.Common.{sym, ◌∙◌}
use Rattle.model_lex.proofs.Splitting.{read_text, refused_text}
use Rattle.model_lex.proofs.sections.read_line.Goals as goal

pub returns-in_default-clause-err : goal.returns-in_default-clause-err
returns-in_default-clause-err c = refused_text c.args.before c.args.text.now c.in_default.ensures.cases.0

pub returns-in-Some-clause-err : goal.returns-in-Some-clause-err
returns-in-Some-clause-err c =
    read_text c.args.before c.args.text.now c.in-Ok.ensures.cases.1 ∙ (rw (← c.kind_of-kind.ensures) (sym c.in-Some.ensures))

pub returns-in-None-clause-ok : goal.returns-in-None-clause-ok
returns-in-None-clause-ok c =
    (read_text c.args.before c.args.text.now c.in-Ok.ensures.cases.1 ∙ (rw (← c.kind_of-kind.ensures) (sym c.in-None.ensures)), c.kind_of-kind.ensures, c.in-Ok.ensures.cases.0)
