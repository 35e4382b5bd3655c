-- A model file gives one answer.
use Rattle.jeldroft_inputs.proofs.InputLemmas.{one_model}
use Rattle.jeldroft_inputs.proofs.laws.model_files_give_one_answer.Goals as goal

pub returns : goal.returns
returns c = one_model
