use Rattle.std.proofs.Common.{ℕ, Some, ◌+◌, ◌++◌, ◌≡◌, ap, arith, sym, subst}
use Rattle.uncovered_table.specs.Bits.{bit_count}
use Rattle.uncovered_table.specs.Words.{AreRaised}
use Rattle.uncovered_table.proofs.LaneLemmas.{raised_by, raised_parts}
use Rattle.uncovered_table.proofs.lanes.+add_marks.Goals as goal

pub returns : goal.returns
returns t c =
    let bits = c.args.bits.now in
    let begin = c.args.begin in
    let added : ℕ → ℕ = λ i. bit_count bits (Some (begin + i)) in
    let now = c.split_at_mut-now.result.0.now in
    let later = c.split_at_mut-now.result.1.now in
    subst (λ xs. AreRaised added xs (c.add_some-2.new.scores ++ c.add_marks.new.scores)) (sym c.split_at_mut-now.ensures.value)
    (raised_parts added now later c.add_some-2.new.scores c.add_marks.new.scores 64 c.split_at_mut-now.ensures.front_len c.add_some-2.ensures
    (raised_by (λ i. bit_count bits (Some (begin + 64 + i))) (λ i. added (64 + i)) later c.add_marks.new.scores
    (λ i within. let same : begin + 64 + i ≡ begin + (64 + i) = omega arith in ap (λ k. bit_count bits (Some k)) same) c.add_marks.ensures))
