use Rattle.std.proofs.Common.{◌≡◌, ◌∙◌, ◌+◌, ◌*◌, ◌&&◌, not, length, ap, sym, subst, arith, inl, inr}
use Rattle.seq_check.specs.EventSets.{IsFront, OpenView, in_set, in_set_at}
use Rattle.seq_check.proofs.OpenLemmas.{ahead_three, ahead_two, three, two}
use Rattle.seq_check.proofs.open.OpenSequences.close_behind.Goals as goal

pub returns-then-self-eq2-clause-closed : goal.returns-then-self-eq2-clause-closed
returns-then-self-eq2-clause-closed c = λ front last f below.
    let n = length c.args.places.now in
    let len : c.args.self.now.len ≡ 2 = sym (ap (λ (v : OpenView). v.len) c.self.view_is) ∙ c.if-self-eq2.true in
    let shape = two n front (subst (λ l. IsFront l n front) len f) in
    let exists = shape.exists in
    rw shape.is
    (c.close_at.ensures.closed last shape.first (omega arith)
    ∙ ap (λ t. in_set_at c.args.self.now.sets last shape.first && not t)
    (ahead_two c.args.places.now n c.args.event shape.first last (in_set c.events_ahead-firsts.result shape.first) exists (c.events_ahead-firsts.ensures shape.first)))

pub returns-else-self-eq2-clause-closed : goal.returns-else-self-eq2-clause-closed
returns-else-self-eq2-clause-closed c = λ front last f below.
    let n = length c.args.places.now in
    let len : c.args.self.now.len ≡ 3 =
    elim c.self.invariant.0 [ inl e ↦ absurd (c.if-self-eq2.false e) | inr e ↦ sym (ap (λ (v : OpenView). v.len) c.self.view_is) ∙ e ] in
    let shape = three n front (subst (λ l. IsFront l n front) len f) in
    let exists = shape.exists in
    let later = shape.later in
    rw shape.is
    (c.close_triples.ensures.closed shape.first shape.second last (omega arith) (omega arith) below
    ∙ ap (λ t. in_set_at c.args.self.now.sets (64 * shape.second + last) shape.first && not t)
    (ahead_three c.args.places.now n c.args.event shape.first shape.second last (in_set c.events_ahead-firsts.result shape.first) exists (c.events_ahead-firsts.ensures shape.first)))
