use Rattle.std.proofs.Common.{◌≡◌, ◌≤◌, get_or, ◌∙◌, sym, ap, arith, inl, inr}
use Rattle.std.proofs.lemmas.Bool.{cases_lt}
use Rattle.ipog_grow.proofs.top_score.greatest_between.Goals as goal

pub loop-k-preserved : goal.loop-k-preserved
loop-k-preserved c = record {
  most = λ j from below. elim (cases_lt j c.loop-k.k) [
    | inl before ↦ omega (arith, c.max-most.ensures, c.loop-k.invariant.most j from before)
    | inr here ↦
        let same : j ≡ c.loop-k.k = omega arith in
        let read : get_or c.args.scores.now j 0 ≡ get_or c.args.scores.now c.loop-k.k 0 = ap (λ i. get_or c.args.scores.now i 0) same in
        omega (arith, c.max-most.ensures, read)
  ];
  own = λ some. elim (cases_lt c.loop-k.most (get_or c.args.scores.now c.loop-k.k 0)) [
    | inl less ↦ (c.loop-k.k, omega arith, omega (arith, c.loop-k-test.true), omega (arith, c.max-most.ensures))
    | inr most ↦
        let is : c.max-most.result ≡ c.loop-k.most = omega (arith, c.max-most.ensures) in
        let own = c.loop-k.invariant.own (omega (arith, is, some)) in
        (own.0, own.1, own.2, own.3 ∙ sym is)
  ];
}
