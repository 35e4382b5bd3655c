use Rattle.std.proofs.Common.{◌+◌, ◌∙◌, Some, sym, ap, arith, subst}
use Rattle.tuple_index.specs.Plan.{plan_of, set_at}
use Rattle.tuple_index.specs.Places.{start_of}
use Rattle.shared_marks.specs.Served.{IsServedRank}
use Rattle.shared_marks.proofs.DigitLemmas.{own_place_of}
use Rattle.shared_marks.proofs.OwnTupleLemmas.{chosen_from, chosen_none}
use Rattle.shared_marks.proofs.served.served_rank.Goals as goal

pub returns-then-not-is_part : goal.returns-then-not-is_part
returns-then-not-is_part c =
    let members = c.members-members.result.now in
    let from =
    chosen_from c.args.model.now c.args.plan.now c.args.set c.args.cells.now members c.requires.plan c.requires.set c.requires.row c.members-members.ensures in
    chosen_none c.args.model.now c.args.plan.now c.args.set c.args.cells.now members c.args.slice from c.requires.slice
    (sym c.is_part.ensures ∙ c.if-not-is_part.true)

pub first_rank-requires-clause-own : goal.first_rank-requires-clause-own
first_rank-requires-clause-own c =
    (own_place_of c.args.model.now c.args.plan.now c.args.set c.args.cells.now c.members-members.result.now c.args.slice c.is_part.result c.requires.plan c.requires.set
    c.requires.row c.members-members.ensures c.assert_invariant.ensures c.requires.slice c.is_part.ensures c.if-not-is_part.false).own

pub first_rank-requires-clause-part : goal.first_rank-requires-clause-part
first_rank-requires-clause-part c =
    (own_place_of c.args.model.now c.args.plan.now c.args.set c.args.cells.now c.members-members.result.now c.args.slice c.is_part.result c.requires.plan c.requires.set
    c.requires.row c.members-members.ensures c.assert_invariant.ensures c.requires.slice c.is_part.ensures c.if-not-is_part.false).part

pub place_in_slice-requires-clause-exist : goal.place_in_slice-requires-clause-exist
place_in_slice-requires-clause-exist c =
    (own_place_of c.args.model.now c.args.plan.now c.args.set c.args.cells.now c.members-members.result.now c.args.slice c.is_part.result c.requires.plan c.requires.set
    c.requires.row c.members-members.ensures c.assert_invariant.ensures c.requires.slice c.is_part.ensures c.if-not-is_part.false).exist

pub place_in_slice-requires-clause-few : goal.place_in_slice-requires-clause-few
place_in_slice-requires-clause-few c =
    let own =
    own_place_of c.args.model.now c.args.plan.now c.args.set c.args.cells.now c.members-members.result.now c.args.slice c.is_part.result c.requires.plan c.requires.set
    c.requires.row c.members-members.ensures c.assert_invariant.ensures c.requires.slice c.is_part.ensures c.if-not-is_part.false in
    omega (arith, own.few)

pub place_in_slice-requires-clause-some : goal.place_in_slice-requires-clause-some
place_in_slice-requires-clause-some c =
    (own_place_of c.args.model.now c.args.plan.now c.args.set c.args.cells.now c.members-members.result.now c.args.slice c.is_part.result c.requires.plan c.requires.set
    c.requires.row c.members-members.ensures c.assert_invariant.ensures c.requires.slice c.is_part.ensures c.if-not-is_part.false).some

pub overflow_add-result : goal.overflow_add-result
overflow_add-result c =
    let own =
    own_place_of c.args.model.now c.args.plan.now c.args.set c.args.cells.now c.members-members.result.now c.args.slice c.is_part.result c.requires.plan c.requires.set
    c.requires.row c.members-members.ensures c.assert_invariant.ensures c.requires.slice c.is_part.ensures c.if-not-is_part.false in
    omega (arith, own.few, c.first_rank.ensures, c.place_in_slice.ensures)

pub returns : goal.returns
returns c =
    let own =
    own_place_of c.args.model.now c.args.plan.now c.args.set c.args.cells.now c.members-members.result.now c.args.slice c.is_part.result c.requires.plan c.requires.set
    c.requires.row c.members-members.ensures c.assert_invariant.ensures c.requires.slice c.is_part.ensures c.if-not-is_part.false in
    subst (λ rank. IsServedRank c.args.model.now (set_at (plan_of c.args.model.now) c.args.set) c.args.cells.now (Some rank))
    (sym (ap (λ start. start + c.place_in_slice.result) c.first_rank.ensures
    ∙ ap (λ k. start_of c.args.plan.now (set_at c.args.plan.now c.args.set) c.args.slice + k) c.place_in_slice.ensures)) own.is
