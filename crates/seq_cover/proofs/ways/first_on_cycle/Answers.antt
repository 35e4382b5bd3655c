use Rattle.std.proofs.Common.{◌∙◌, sym, arith}
use Rattle.seq_check.proofs.FindLemmas.{first_number, no_number}
use Rattle.seq_cover.specs.believed.Ways.{leads}
use Rattle.seq_cover.proofs.ways.first_on_cycle.Goals as goal

pub returns-then-has-clause-value : goal.returns-then-has-clause-value
returns-then-has-clause-value c = λ pairs ways.
    let event = c.loop-event.event in
    sym (first_number (λ k. leads pairs k k) c.args.count event (omega arith)
    (sym (ways event event (omega arith)) ∙ sym (c.ends.ensures event) ∙ sym c.has.ensures ∙ c.if-has.true)
    (λ k below. sym (ways k k (omega arith)) ∙ c.loop-event.invariant k below))

pub returns-clause-value : goal.returns-clause-value
returns-clause-value c = λ pairs ways. sym (no_number (λ k. leads pairs k k) c.args.count (λ k below. sym (ways k k (omega arith)) ∙ c.loop-event.invariant k (omega arith)))
