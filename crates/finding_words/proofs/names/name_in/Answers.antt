use Rattle.std.proofs.Common.{ap}
use Rattle.cov_model.specs.believed.Meaning.{no_value}
use Rattle.cov_model.specs.believed.Sound.{first_name}
use Rattle.finding_words.proofs.Lookups.{missing}
use Rattle.finding_words.proofs.names.name_in.Goals as goal

pub returns-in-None : goal.returns-in-None
returns-in-None c = ap first_name (missing c.args.param.now.values c.args.v no_value c.in-None.ensures.value)
