use Rattle.std.proofs.Common.{◌+◌, ◌++◌, ◌/◌, arith, sym, subst}
use Rattle.std.specs.Int.{bit_at}
use Rattle.bit_table.proofs.NextLemmas.{bit_of_rest}
use Rattle.uncovered_table.specs.Words.{AreRaised}
use Rattle.uncovered_table.proofs.LaneLemmas.{later_low, raised_by, raised_parts}
use Rattle.uncovered_table.proofs.lanes.+add_word.Goals as goal

pub add_word-requires : goal.add_word-requires
add_word-requires t c =
    let parts = c.split_at_mut-now.ensures.value in (
      omega (arith, c.decreases, c.split_at_mut-now.ensures.back_len, c.if-scores-lt-LANES.false),
      later_low c.args.scores.now c.split_at_mut-now.result.0.now c.split_at_mut-now.result.1.now parts c.requires.low,
    )

pub returns : goal.returns
returns t c =
    let word = c.args.word in
    let now = c.split_at_mut-now.result.0.now in
    let later = c.split_at_mut-now.result.1.now in
    subst (λ xs. AreRaised (bit_at word) xs (c.add_lanes.new.scores ++ c.add_word.new.scores)) (sym c.split_at_mut-now.ensures.value)
    (raised_parts (bit_at word) now later c.add_lanes.new.scores c.add_word.new.scores 8 c.split_at_mut-now.ensures.front_len c.add_lanes.ensures
    (raised_by (bit_at (word / 256)) (λ i. bit_at word (8 + i)) later c.add_word.new.scores (λ i within. bit_of_rest word 8 i) c.add_word.ensures))
