-- No row serves a tuple of a proof whose trees refute.
use Rattle.definitions.proofs.Refuted.{refuted}
use Rattle.definitions.proofs.laws.refuted_are_unserved.Goals as goal

pub returns : goal.returns
returns c = refuted
