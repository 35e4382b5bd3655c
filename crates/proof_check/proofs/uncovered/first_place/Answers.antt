use Rattle.std.proofs.Common.{◌≡◌, ◌+◌, w64, arith}
use Rattle.std.specs.Int.{trailing_zeros}
use Rattle.proof_check.specs.Left.{IsFirstLeft}
use Rattle.proof_check.proofs.UnservedLemmas.{first_is, none_more}
use Rattle.proof_check.proofs.uncovered.first_place.Goals as goal

pub unserved_from-unserved-requires-clause-aligned : goal.unserved_from-unserved-requires-clause-aligned
unserved_from-unserved-requires-clause-aligned c = c.loop-from.invariant.1 c.loop-from-test.true

first : (c : goal.Then-unserved-ne0)
    → IsFirstLeft c.args.left.now c.args.served.now (c.loop-from.from + trailing_zeros w64 c.unserved_from-unserved.result)
first c =
    first_is c.args.left.now c.args.served.now c.loop-from.from c.min-count.result c.unserved_from-unserved.result
    (omega (arith, c.len-end.ensures, c.min-count.ensures, c.loop-from-test.true)) (omega (arith, c.min-count.ensures))
    (omega (arith, c.if-unserved-ne0.true)) (omega arith) c.loop-from.invariant.2 c.unserved_from-unserved.ensures

pub returns-then-unserved-ne0 : goal.returns-then-unserved-ne0
returns-then-unserved-ne0 c = first c

pub overflow_add-result : goal.overflow_add-result
overflow_add-result c = let found = first c in omega (arith, found.within, c.len-end.ensures, c.len-end.type_inv)

pub loop-from-preserved : goal.loop-from-preserved
loop-from-preserved c = (
  omega (arith, c.min-count.ensures, c.loop-from-test.true),
  λ more.
      let aligned = c.loop-from.invariant.1 c.loop-from-test.true in
      let whole : c.min-count.result ≡ 64 = omega (arith, c.min-count.ensures, more) in
      omega (arith, aligned, whole),
  none_more c.args.left.now c.args.served.now c.loop-from.from c.min-count.result c.unserved_from-unserved.result c.loop-from.invariant.2
      c.unserved_from-unserved.ensures (omega (arith, c.if-unserved-ne0.false)),
)
