-- The omissions of a suite's proof are of the model.
use Rattle.definitions.proofs.SuiteLaws as lemmas
use Rattle.definitions.proofs.laws.suite_proofs_are_of_models.Goals as goal

pub returns : goal.returns
returns c = lemmas.suite_proofs_are_of_models
