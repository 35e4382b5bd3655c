use Rattle.std.proofs.Common.{◌+◌, ◌++◌, ◌/◌, sym, subst}
use Rattle.std.specs.Int.{bit_at}
use Rattle.bit_table.proofs.NextLemmas.{bit_of_rest}
use Rattle.uncovered_table.specs.Words.{AreRaised}
use Rattle.uncovered_table.proofs.LaneLemmas.{raised_by, raised_parts}
use Rattle.uncovered_table.proofs.lanes.add_few.Goals as goal

pub returns : goal.returns
returns c =
    let word = c.args.word in
    let now = c.split_at_mut-now.result.0.now in
    let later = c.split_at_mut-now.result.1.now in
    subst (λ xs. AreRaised (bit_at word) xs (c.add_half.new.scores ++ c.add_each-2.new.scores)) (sym c.split_at_mut-now.ensures.value)
    (raised_parts (bit_at word) now later c.add_half.new.scores c.add_each-2.new.scores 4 c.split_at_mut-now.ensures.front_len c.add_half.ensures
    (raised_by (bit_at (word / 16)) (λ i. bit_at word (4 + i)) later c.add_each-2.new.scores (λ i within. bit_of_rest word 4 i) c.add_each-2.ensures))
