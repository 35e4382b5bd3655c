use Rattle.std.proofs.Common.{◌∙◌, arith}
use Rattle.proof_check.proofs.DemandLemmas.{caller_choice, caller_lacks, caller_of, caller_place, lacks_sign, sets_sorted}
use Rattle.proof_check.proofs.listed.place_of.Goals as goal

pub find_near-requires : goal.find_near-requires
find_near-requires c = sets_sorted c.args.model.now c.args.plan.now c.requires.plan

pub returns-in_default : goal.returns-in_default
returns-in_default c =
    let own =
    caller_of c.args.model.now c.args.plan.now c.args.tuple.now c.as_slice.result.now c.requires.plan c.as_slice-pairs.ensures.rising c.requires.of_model
    (c.as_slice.ensures ∙ c.in_ok-params.ensures) in
    caller_lacks c.args.model.now c.args.plan.now c.args.tuple.now c.as_slice.result.now own c.in_default.ensures

pub returns-then-count_negatives-gt1 : goal.returns-then-count_negatives-gt1
returns-then-count_negatives-gt1 c =
    let own =
    caller_of c.args.model.now c.args.plan.now c.args.tuple.now c.as_slice.result.now c.requires.plan c.as_slice-pairs.ensures.rising c.requires.of_model
    (c.as_slice.ensures ∙ c.in_ok-params.ensures) in
    lacks_sign c.args.model.now c.args.tuple.now own.rising own.each (omega (arith, c.count_negatives.ensures, c.if-count_negatives-gt1.true))

pub rank-requires-clause-choice : goal.rank-requires-clause-choice
rank-requires-clause-choice c =
    let own =
    caller_of c.args.model.now c.args.plan.now c.args.tuple.now c.as_slice.result.now c.requires.plan c.as_slice-pairs.ensures.rising c.requires.of_model
    (c.as_slice.ensures ∙ c.in_ok-params.ensures) in
    caller_choice c.args.model.now c.args.plan.now c.args.tuple.now c.as_slice.result.now c.as_slice-2.result.now c.in-Some.set own c.in-Some.ensures.1
    (c.as_slice-2.ensures ∙ c.in_ok-values.ensures)
    (omega (arith, c.count_negatives.ensures, c.if-count_negatives-gt1.false))

pub returns : goal.returns
returns c =
    let own =
    caller_of c.args.model.now c.args.plan.now c.args.tuple.now c.as_slice.result.now c.requires.plan c.as_slice-pairs.ensures.rising c.requires.of_model
    (c.as_slice.ensures ∙ c.in_ok-params.ensures) in
    caller_place c.args.model.now c.args.plan.now c.args.tuple.now c.as_slice.result.now c.as_slice-2.result.now c.in-Some.set c.rank.result c.base.result own
    c.in-Some.ensures.0 c.in-Some.ensures.1 (c.as_slice-2.ensures ∙ c.in_ok-values.ensures) (c.rank.ensures.tuple c.args.model.now c.requires.plan)
    c.base.ensures
