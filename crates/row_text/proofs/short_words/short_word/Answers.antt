use Rattle.std.proofs.Common.{arith}
use Rattle.row_text.proofs.Words.{word_fits}
use Rattle.row_text.proofs.short_words.short_word.Goals as goal

pub overflow_mul-word : goal.overflow_mul-word
overflow_mul-word c =
    let fits = word_fits c.args.fold c.args.text.now c.loop-i.i c.loop-i.word (λ i. omega (arith, c.type_inv.text i)) c.if-text-gt-MOST_BYTES.false c.loop-i-test.true c.loop-i.invariant in
    omega (arith, fits)

pub overflow_add-word : goal.overflow_add-word
overflow_add-word c =
    let fits = word_fits c.args.fold c.args.text.now c.loop-i.i c.loop-i.word (λ i. omega (arith, c.type_inv.text i)) c.if-text-gt-MOST_BYTES.false c.loop-i-test.true c.loop-i.invariant in
    omega (arith, fits, c.folded_byte.type_inv)

pub returns-clause-bytes : goal.returns-clause-bytes
returns-clause-bytes c = λ i. omega (arith, c.type_inv.text i)
