use Rattle.std.proofs.Common.{◌+◌, ◌<◌, arith, subst}
use Rattle.std.proofs.lemmas.List.{take_all}
use Rattle.std.proofs.lemmas.List.Elements.{All-get_or}
use Rattle.shared_marks.specs.Adding.{Marks, are_behind}
use Rattle.shared_marks.proofs.ranks.mark_each.Goals as goal

pub overflow_add-base : goal.overflow_add-base
overflow_add-base c =
    omega (arith, All-get_or (λ rank. c.args.base + rank < c.args.table.now.bits) c.args.ranks.now c.loop-rank.rank-index 0 c.loop-rank-test.true c.requires.within, c.assert_invariant.ensures)

pub returns : goal.returns
returns c =
    subst (λ ranks. Marks (are_behind c.args.base ranks) c.args.seat.now c.loop-rank.seat)
    (take_all c.loop-rank.rank-index c.args.ranks.now c.loop-rank-test.false) c.loop-rank.invariant
