use Rattle.std.proofs.Common.{◌++◌, [], sym, subst, arith}
use Rattle.suspect_tuples.specs.RowBits.{MarksHaving}
use Rattle.suspect_tuples.proofs.RowBitLemmas.{had_by_word, none_had, none_more, word_marks}
use Rattle.suspect_tuples.proofs.row_bits.has_by_words.Goals as goal

pub returns-then-narrowed-ne0 : goal.returns-then-narrowed-ne0
returns-then-narrowed-ne0 c =
    let rows = c.args.rows.now in
    let k = c.loop-k.k in
    let every = subst (MarksHaving rows [] k) (sym c.word.ensures) (word_marks rows [] c.args.all.now k c.requires.kept.every) in
    sym (had_by_word rows (c.args.first.now ++ c.args.second.now) k c.narrowed.result c.narrowed.type_inv (omega (arith, c.if-narrowed-ne0.true))
    (c.narrowed.ensures rows c.args.first.now c.requires.kept.given (c.narrowed-before.ensures rows [] c.requires.kept.given every)))

pub loop-k-preserved : goal.loop-k-preserved
loop-k-preserved c =
    let rows = c.args.rows.now in
    let k = c.loop-k.k in
    let every = subst (MarksHaving rows [] k) (sym c.word.ensures) (word_marks rows [] c.args.all.now k c.requires.kept.every) in
    none_more rows (c.args.first.now ++ c.args.second.now) k c.narrowed.result c.if-narrowed-ne0.false
    (c.narrowed.ensures rows c.args.first.now c.requires.kept.given (c.narrowed-before.ensures rows [] c.requires.kept.given every)) c.loop-k.invariant

pub returns : goal.returns
returns c =
    sym (none_had c.args.rows.now (c.args.first.now ++ c.args.second.now) (λ at within.
    c.loop-k.invariant at (omega (arith, within, c.loop-k-test.false, c.word_count-k-end.ensures, c.len.ensures))))
