use Rattle.std.proofs.Common.{arith}
use Rattle.suite_shrink.proofs.accepting.is_shrunk.Goals as goal

pub returns : goal.returns
returns c = λ _. record {
  valid = c.in_ok-are_valid.ensures c.if-not-branch.false;
  serves = c.in_ok-serve_too.ensures c.if-not-branch-3.false;
  few = omega (arith, c.if-len.false, c.len.ensures, c.len-2.ensures);
  distinct = c.in_ok-are_distinct.ensures c.if-not-branch-2.false;
  kept = c.keep_seeds.ensures c.if-not-keep_seeds.false;
}
