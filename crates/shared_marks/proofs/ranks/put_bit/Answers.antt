use Rattle.shared_marks.proofs.BitLemmas.{bit_marked}
use Rattle.shared_marks.proofs.ranks.put_bit.Goals as goal

pub returns-clause-each : goal.returns-clause-each
returns-clause-each c other = bit_marked c.args.words.now c.args.place other c.requires
