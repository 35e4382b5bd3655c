use Rattle.std.proofs.Common.{◌∙◌, sym, arith}
use Rattle.full_search.proofs.KeptConflicts.{next_is}
use Rattle.full_search.proofs.conflict.next_given.Goals as goal

pub returns-in-Some : goal.returns-in-Some
returns-in-Some c =
    next_is c.args.cells.now c.args.from c.loop-p.p c.in-Some.value (omega arith) (sym c.get.ensures ∙ c.in-Some.is) c.loop-p.invariant
