use Rattle.std.proofs.Common.{◌++◌, ◌∷◌, [], ◌≡◌, true, take, get_or, bit_and, append_assoc, subst, sym, ap, ◌∙◌}
use Rattle.std.proofs.lemmas.List.{take_all, take_more}
use Rattle.std.proofs.lemmas.List.Elements.{All-get_or}
use Rattle.suspect_tuples.specs.RowBits.{MarksHaving}
use Rattle.suspect_tuples.specs.ValueRows.{is_many, rows_of, words_in}
use Rattle.suspect_tuples.proofs.RowBitLemmas.{both_marked, many_marks, word_marks}
use Rattle.suspect_tuples.proofs.row_bits.narrowed.Goals as goal

pub loop-pair-preserved : goal.loop-pair-preserved
loop-pair-preserved c rows before given marks =
    let tuple = c.args.tuple.now in
    let at = c.loop-pair.pair-index in
    let pair = get_or tuple at (0, 0) in
    let kept = rows_of c.args.giving.now pair in
    let many = All-get_or (λ p. is_many (rows_of c.args.giving.now p) ≡ true) tuple at (0, 0) c.loop-pair-test.true c.requires in
    subst (λ whole. MarksHaving rows whole c.args.k (bit_and c.loop-pair.narrowed c.word_of-narrowed.result))
    (append_assoc before (take at tuple) (pair ∷ []) ∙ ap (λ pairs. before ++ pairs) (sym (take_more tuple at (0, 0) c.loop-pair-test.true)))
    (both_marked rows (before ++ take at tuple) (pair ∷ []) c.args.k c.loop-pair.narrowed c.word_of-narrowed.result (c.loop-pair.invariant rows before given marks)
    (subst (MarksHaving rows (pair ∷ []) c.args.k) (sym c.word_of-narrowed.ensures)
    (word_marks rows (pair ∷ []) (words_in kept) c.args.k (many_marks rows pair kept (given pair) many))))

pub returns : goal.returns
returns c rows before given marks =
    subst (λ tuple. MarksHaving rows (before ++ tuple) c.args.k c.loop-pair.narrowed)
    (take_all c.loop-pair.pair-index c.args.tuple.now c.loop-pair-test.false) (c.loop-pair.invariant rows before given marks)
