use Rattle.std.proofs.Common.{◌<◌, length, sym, ◌∙◌, arith, rules}
use Rattle.std.proofs.lemmas.List.{take_rest}
use Rattle.model_lex.proofs.Opening.{behind_blanks, behind_word}
use Rattle.model_lex.proofs.line_kind.goes_on.Goals as goal

pub loop-rest-init : goal.loop-rest-init
loop-rest-init c = rw c.without_first_blanks-rest.ensures (behind_blanks c.args.text.now)

pub loop-rest-preserved : goal.loop-rest-preserved
loop-rest-preserved c =
    let some : 0 < length c.loop-rest.rest.now = search rules in
    let other = sym c.is_opening_mark.ensures ∙ c.if-is_opening_mark.false in
    rw (c.without_first_blanks-rest-in-loop-rest.ensures, take_rest c.loop-rest.rest.now c.opening_len-len.result)
    (behind_word c.args.text.now c.loop-rest.rest.now c.loop-rest.invariant some other c.opening_len-len.result c.opening_len-len.ensures.value (omega arith))
