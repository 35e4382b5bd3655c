use Rattle.std.proofs.Common.{◌<◌, length, drop, ap, sym, ◌∙◌, arith, length-drop}
use Rattle.model_lex.specs.believed.Tokens.{first_token}
use Rattle.model_lex.specs.Tokens.{lexed_at}
use Rattle.model_lex.proofs.Forms.{HasForm, form_at, has_marks, stands, token_behind_blanks}
use Rattle.model_lex.proofs.token.next_token.Goals as goal
use Rattle.model_lex.proofs.token.next_token.Goals.{In-Ok}

formed : (c : In-Ok) → HasForm (drop c.token_start-start.result c.args.line.now) (c.in-Ok.kind, c.in-Ok.len)
formed c =
    let some : 0 < length (drop c.token_start-start.result c.args.line.now) = omega (arith, length-drop c.token_start-start.result c.args.line.now, c.token_start-start.ensures.cut.0) in
    form_at (drop c.token_start-start.result c.args.line.now) some (c.in-Ok.kind, c.in-Ok.len)
    (sym c.in-Ok.is ∙ (c.first_token.ensures ∙ ap (λ text. first_token text) c.range_from.ensures.value))

pub overflow_add-result : goal.overflow_add-result
overflow_add-result c = omega (arith, length-drop c.token_start-start.result c.args.line.now, (formed c).within, c.token_start-start.ensures.cut.0)

pub returns-in-Ok-clause-answer : goal.returns-in-Ok-clause-answer
returns-in-Ok-clause-answer c =
    ap (λ answer. lexed_at c.token_start-start.result answer) (sym c.in-Ok.is ∙ (c.first_token.ensures ∙ ap (λ text. first_token text) c.range_from.ensures.value))
    ∙ sym (token_behind_blanks c.args.line.now c.args.at c.token_start-start.result c.token_start-start.ensures.value c.if-start-line.false)

pub returns-in-Ok-clause-span : goal.returns-in-Ok-clause-span
returns-in-Ok-clause-span c =
    stands c.args.line.now c.args.at c.token_start-start.result (c.in-Ok.kind, c.in-Ok.len) c.utf8.line c.token_start-start.ensures.behind
    c.token_start-start.ensures.cut.0 c.token_start-start.ensures.cut (formed c)

pub returns-in-Ok-clause-marks : goal.returns-in-Ok-clause-marks
returns-in-Ok-clause-marks c = has_marks c.args.line.now c.token_start-start.result (c.in-Ok.kind, c.in-Ok.len) (formed c)

pub returns-in-Err-clause-answer : goal.returns-in-Err-clause-answer
returns-in-Err-clause-answer c =
    ap (λ answer. lexed_at c.token_start-start.result answer) (sym c.in-Err.is ∙ (c.first_token.ensures ∙ ap (λ text. first_token text) c.range_from.ensures.value))
    ∙ sym (token_behind_blanks c.args.line.now c.args.at c.token_start-start.result c.token_start-start.ensures.value c.if-start-line.false)
