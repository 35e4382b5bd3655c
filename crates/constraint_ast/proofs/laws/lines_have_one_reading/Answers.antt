use Rattle.constraint_ast.proofs.OneReading as lemmas
use Rattle.constraint_ast.proofs.laws.lines_have_one_reading.Goals as goal

pub returns : goal.returns
returns c = lemmas.lines_have_one_reading
