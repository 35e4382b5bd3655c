use Rattle.std.proofs.Common.{arith}
use Rattle.seq_check.proofs.OnesLemmas.{ones_size}
use Rattle.seq_check.proofs.event_set.EventSet.count.Goals as goal

pub returns-clause-value : goal.returns-clause-value
returns-clause-value c = ones_size c.args.self (omega arith)
