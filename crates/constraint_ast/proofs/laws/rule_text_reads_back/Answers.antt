use Rattle.constraint_ast.proofs.RoundTrip as lemmas
use Rattle.constraint_ast.proofs.laws.rule_text_reads_back.Goals as goal

pub returns : goal.returns
returns c = lemmas.rule_text_reads_back
