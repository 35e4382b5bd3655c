use Rattle.std.proofs.Common.{arith}
use Rattle.proof_check.proofs.UnservedLemmas.{unserved_read}
use Rattle.proof_check.proofs.uncovered.unserved_from.Goals as goal

pub returns : goal.returns
returns c =
    unserved_read c.args.left.now c.args.served.now c.args.from c.args.count c.marks_from.result c.marks_from-2.result (omega arith) c.requires.few
    c.marks_from.ensures c.marks_from-2.ensures
