use Rattle.std.proofs.Common.{ap}
use Rattle.std.proofs.lemmas.Nat.Bits.{bit_at_ones}
use Rattle.seq_check.proofs.SetLemmas.{is_one}
use Rattle.seq_check.proofs.event_set.EventSet.all.Goals as goal

pub returns : goal.returns
returns c = λ event within. ap is_one (bit_at_ones 64 event within)
