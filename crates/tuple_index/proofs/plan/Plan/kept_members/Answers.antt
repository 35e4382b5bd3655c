use Rattle.std.proofs.Common.{[], length, sym, subst}
use Rattle.std.proofs.lemmas.List.Elements.{All-get_or}
use Rattle.tuple_index.specs.Places.{RisesFrom}
use Rattle.tuple_index.proofs.LoopLemmas.{rises_within}
use Rattle.tuple_index.proofs.plan.Plan.kept_members.Goals as goal

pub returns-clause-rising : goal.returns-clause-rising
returns-clause-rising c =
    let rises = RisesFrom 0 (length c.args.self.now.positives) in
    subst rises (sym c.members.ensures) (All-get_or rises c.args.self.now.sets c.args.set [] c.requires c.assert_invariant.ensures.rising)

pub returns-clause-exist : goal.returns-clause-exist
returns-clause-exist c = rises_within c.members.result.now 0 (length c.args.self.now.positives) (returns-clause-rising c)
