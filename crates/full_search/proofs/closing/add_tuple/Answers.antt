use Rattle.std.proofs.Common.{◌≡◌, ◌≢◌, ◌+◌, ℕ, List, None, true, get_or, length, arith, sym, subst}
use Rattle.cov_model.specs.believed.Rows.{is_assigned}
use Rattle.cov_model.specs.believed.Tuples.{cells_of}
use Rattle.full_search.proofs.Grown.{GrowsWith}
use Rattle.full_search.proofs.TupleValues.{IsPairBefore, pairs_all, pairs_more, pairs_past}
use Rattle.full_search.proofs.closing.add_tuple.Goals as goal
use Rattle.full_search.proofs.closing.add_tuple.Goals.{then-q-len, else-q-len}

pub loop-q-preserved : goal.loop-q-preserved
loop-q-preserved c =
    let pairs = c.as_slice-q-items.result.now in
    let path = c.args.cells.now in
    let p = c.args.p in
    let old = c.args.why.now in
    let i = c.loop-q.q-index in
    elim c.if-q-len.branch [
      | then-q-len w ↦
          subst (λ why. GrowsWith (IsPairBefore pairs (i + 1)) path p old why) (sym w.why-is)
          (pairs_more pairs i (0, 0) path p old c.loop-q.why w.add_value.new.why c.loop-q-test.true c.loop-q.invariant w.add_value.ensures.grows
          w.add_value.ensures.value)
      | else-q-len w ↦
          subst (λ why. GrowsWith (IsPairBefore pairs (i + 1)) path p old why) (sym w.why-is)
          (pairs_past pairs i (0, 0) path p old c.loop-q.why c.loop-q-test.true (omega (arith, w.if-q-len.false, c.len.ensures)) c.loop-q.invariant)
    ]

pub returns-clause-values : goal.returns-clause-values
returns-clause-values c =
    subst (λ (pairs : List (ℕ × ℕ)). (q : ℕ) → q ≢ c.args.p → is_assigned (cells_of (length c.args.cells.now) pairs) q ≡ true
    → get_or c.loop-q.why q None ≡ get_or c.args.cells.now q None) c.as_slice-q-items.ensures.value
    (pairs_all c.as_slice-q-items.result.now c.loop-q.q-index c.args.cells.now c.args.p c.args.why.now c.loop-q.why c.loop-q-test.false c.loop-q.invariant)
