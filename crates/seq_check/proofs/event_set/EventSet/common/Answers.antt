use Rattle.seq_check.proofs.SetLemmas.{in_common}
use Rattle.seq_check.proofs.event_set.EventSet.common.Goals as goal

pub returns : goal.returns
returns c = λ event. in_common c.args.self.bits c.args.other.bits event
