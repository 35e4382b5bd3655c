-- Each file has exactly one answer.
use Rattle.type_check.proofs.OneAnswer as lemmas
use Rattle.type_check.proofs.laws.files_have_one_answer.Goals as goal

pub returns : goal.returns
returns c = lemmas.files_have_one_answer
