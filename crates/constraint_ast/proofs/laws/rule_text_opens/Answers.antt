use Rattle.constraint_ast.proofs.Openers as lemmas
use Rattle.constraint_ast.proofs.laws.rule_text_opens.Goals as goal

pub returns : goal.returns
returns c = lemmas.rule_text_opens
