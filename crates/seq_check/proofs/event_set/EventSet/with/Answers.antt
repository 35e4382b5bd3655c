use Rattle.seq_check.proofs.SetLemmas.{in_with}
use Rattle.seq_check.proofs.event_set.EventSet.with.Goals as goal

pub returns : goal.returns
returns c = λ other. in_with c.args.self.bits c.args.event other c.requires
