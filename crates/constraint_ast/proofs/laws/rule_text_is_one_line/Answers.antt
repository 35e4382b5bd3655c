use Rattle.constraint_ast.proofs.OneLine as lemmas
use Rattle.constraint_ast.proofs.laws.rule_text_is_one_line.Goals as goal

pub returns : goal.returns
returns c = lemmas.rule_text_is_one_line
