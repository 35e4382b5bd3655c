use Rattle.std.proofs.Common.{arith}
use Rattle.seq_check.proofs.SetLemmas.{in_without}
use Rattle.seq_check.proofs.event_set.EventSet.without.Goals as goal

pub returns : goal.returns
returns c = λ event within. in_without c.args.self.bits c.args.other.bits event (omega arith) within
