use Rattle.constraint_ast.proofs.OneReading as lemmas
use Rattle.constraint_ast.proofs.laws.grammar_has_one_reading.Goals as goal

pub returns : goal.returns
returns c = lemmas.grammar_has_one_reading
