use Rattle.std.proofs.Common.{arith}
use Rattle.seq_check.proofs.SetLemmas.{least_in}
use Rattle.seq_check.proofs.event_set.EventSet.first.Goals as goal

pub returns-else-self-eq0-clause-some : goal.returns-else-self-eq0-clause-some
returns-else-self-eq0-clause-some c = least_in c.args.self.bits (omega arith) (omega arith)
