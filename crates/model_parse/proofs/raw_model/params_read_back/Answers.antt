use Rattle.model_parse.proofs.WrittenParams.{read_back}
use Rattle.model_parse.proofs.raw_model.params_read_back.Goals as goal

pub returns : goal.returns
returns c = read_back
