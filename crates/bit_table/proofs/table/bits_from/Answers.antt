use Rattle.std.proofs.Common.{get_or, arith}
use Rattle.bit_table.proofs.NextLemmas.{bit_of_rest}
use Rattle.bit_table.proofs.table.bits_from.Goals as goal

pub returns-then-bit-count-le-WORD_BITS : goal.returns-then-bit-count-le-WORD_BITS
returns-then-bit-count-le-WORD_BITS c = record {
  below = λ i within near. bit_of_rest (get_or c.args.words.now c.args.at 0) c.args.bit i;
  above = λ i within far. absurd (omega (arith, within, far, c.if-bit-count-le-WORD_BITS.true));
}
