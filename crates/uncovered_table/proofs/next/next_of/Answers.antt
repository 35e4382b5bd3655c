use Rattle.std.proofs.Common.{subst, sym}
use Rattle.std.specs.List.Sorted.{IsNonDecreasingBy}
use Rattle.uncovered_table.proofs.NextLemmas.{begins_at, play_rises}
use Rattle.uncovered_table.proofs.next.next_of.Goals as goal

pub first_set-i-requires : goal.first_set-i-requires
first_set-i-requires c =
    subst (IsNonDecreasingBy (λ s. s)) (sym c.in_play-in_play.ensures.value) (play_rises c.args.sets.now.model c.args.sets.now.slice c.args.column)

pub loop-i-init : goal.loop-i-init
loop-i-init c =
    begins_at c.args.sets.now.model c.args.sets.now.slice c.args.bits.now c.args.from c.first_set-i.result c.in_play-in_play.result.now
    c.first_set-i.ensures.before c.first_set-i.ensures.all
