use Rattle.std.proofs.Common.{◌∙◌, ◌&&◌, ◌||◌, ◌-◌, not, eqb, take, get_or, length, ap, arith}
use Rattle.seq_check.specs.EventSets.{first_of, in_set_at, set_place}
use Rattle.seq_check.proofs.OpenLemmas.{closes_last, first_below, front_is, last_below, place_within}
use Rattle.seq_check.proofs.open.OpenSequences.close.Goals as goal

pub close_at-requires : goal.close_at-requires
close_at-requires c =
    let len = c.args.self.now.len in
    let sequence = c.args.sequence.now in
    rw c.place_of.ensures
    (place_within c.args.self.now 64 (take (length sequence - 1) sequence) (get_or sequence (length sequence - 1) 0) c.assert_invariant.ensures (omega arith)
    (front_is len sequence c.assert_invariant.ensures.0 c.requires.long c.requires.exist) (last_below len sequence c.assert_invariant.ensures.0 c.requires.long c.requires.exist))

pub with-requires : goal.with-requires
with-requires c =
    let len = c.args.self.now.len in
    let sequence = c.args.sequence.now in
    rw c.first_of.ensures
    (first_below len 64 (take (length sequence - 1) sequence) c.assert_invariant.ensures.0
    (front_is len sequence c.assert_invariant.ensures.0 c.requires.long c.requires.exist))

pub returns-in-len1-up-clause-closed : goal.returns-in-len1-up-clause-closed
returns-in-len1-up-clause-closed c = λ front last f below.
    let len = c.args.self.now.len in
    let sequence = c.args.sequence.now in
    let place = set_place front last in
    let closed = set_place (take (length sequence - 1) sequence) (get_or sequence (length sequence - 1) 0) in
    let first = first_of front in
    let old = in_set_at c.args.self.now.sets place first in
    c.close_at.ensures.closed place first (first_below len 64 front c.assert_invariant.ensures.0 f)
    ∙ ap (λ t. old && not (eqb c.place_of.result place && t)) (c.with.ensures first ∙ ap (λ t. t || eqb c.first_of.result first) (c.none.ensures first))
    ∙ ap (λ n. old && not (eqb n place && eqb c.first_of.result first)) c.place_of.ensures
    ∙ ap (λ n. old && not (eqb closed place && eqb n first)) c.first_of.ensures
    ∙ ap (λ t. old && not t) (closes_last len sequence front last c.assert_invariant.ensures.0 c.requires.long c.requires.exist f below)
