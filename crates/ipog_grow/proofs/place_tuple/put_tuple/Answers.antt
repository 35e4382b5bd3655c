use Rattle.std.proofs.Common.{◌∙◌, [], length, map, get_or, ap, sym, subst}
use Rattle.std.specs.List.{range_with_len}
use Rattle.std.proofs.lemmas.List.FromFn.{length-map-range_with_len}
use Rattle.tuple_index.specs.Places.{RisesFrom}
use Rattle.tuple_index.specs.Plan.{PlanView, value_given}
use Rattle.tuple_index.proofs.LoopLemmas.{rises_within}
use Rattle.uncovered_table.proofs.PlaceLemmas.{tuple_read}
use Rattle.ipog_grow.proofs.place_tuple.put_tuple.Goals as goal

pub put_given-requires-clause-exist : goal.put_given-requires-clause-exist
put_given-requires-clause-exist c =
    rises_within c.members-members.result.now 0 (length c.args.into.now)
    (subst (RisesFrom 0 (length c.args.into.now)) (sym c.members-members.ensures) c.requires.rise)

pub returns-clause-tuple : goal.returns-clause-tuple
returns-clause-tuple c m planned long =
    c.put_given.ensures.values
    ∙ ap (λ n. map (value_given c.members-members.result.now c.unrank.new.into) (range_with_len 0 n)) long
    ∙ ap (λ set. map (value_given set c.unrank.new.into) (range_with_len 0 (length m.params)))
    (c.members-members.ensures ∙ ap (λ (p : PlanView). get_or p.sets c.args.place.0 []) planned)
    ∙ sym (tuple_read m c.args.plan.now c.args.place.0 c.args.place.1 c.unrank.new.into planned (c.unrank.ensures.tuple m planned))

pub returns-clause-given : goal.returns-clause-given
returns-clause-given c =
    c.put_given.ensures.given (subst (RisesFrom 0 (length c.args.into.now)) (sym c.members-members.ensures) c.requires.rise)

pub returns-clause-long : goal.returns-clause-long
returns-clause-long c = ap length c.put_given.ensures.values ∙ length-map-range_with_len (value_given c.members-members.result.now c.unrank.new.into) 0
    (length c.args.into.now)
