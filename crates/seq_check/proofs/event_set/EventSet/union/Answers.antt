use Rattle.seq_check.proofs.SetLemmas.{in_union}
use Rattle.seq_check.proofs.event_set.EventSet.union.Goals as goal

pub returns : goal.returns
returns c = λ event. in_union c.args.self.bits c.args.other.bits event
