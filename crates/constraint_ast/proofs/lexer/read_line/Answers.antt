use Rattle.std.proofs.Common.{◌≡◌, ap, sym, subst, ◌∙◌}
use Rattle.std.specs.Prelude.{Err}
use Rattle.constraint_ast.specs.believed.Lexing.{meant, tokens_in}
use Rattle.constraint_ast.specs.Reading.{IfRefused}
use Rattle.constraint_ast.proofs.Lexing.{at_start, ends_line, handed_on, next_token, no_meaning_fault, no_token, slice_marks}
use Rattle.constraint_ast.proofs.lexer.read_line.Goals as goal

pub loop-code-init : goal.loop-code-init
loop-code-init c = at_start c.args.number c.args.text.now c.args.tokens.now c.utf8.text

pub returns-in-End-clause-ok : goal.returns-in-End-clause-ok
returns-in-End-clause-ok c = ends_line c.args.number c.args.text.now c.args.tokens.now c.loop-code.tokens c.loop-code.at c.loop-code.invariant (sym c.in-End.ensures.answer)

pub returns-in-Bad-clause-err : goal.returns-in-Bad-clause-err
returns-in-Bad-clause-err c =
    subst (λ fault. IfRefused fault (λ diag. tokens_in c.args.number 0 c.args.text.now ≡ Err diag)) (sym c.bad.ensures)
    (no_token c.args.number c.args.text.now c.args.tokens.now c.loop-code.tokens c.loop-code.at c.loop-code.invariant c.in-Bad.code (sym c.in-Bad.ensures.answer))

pub rule_token-requires : goal.rule_token-requires
rule_token-requires c = slice_marks c.args.text.now c.in-Token.found c.range.result.now c.range.ensures.value c.in-Token.ensures.span.within c.in-Token.ensures.marks

pub loop-code-preserved : goal.loop-code-preserved
loop-code-preserved c =
    next_token c.args.number c.args.text.now c.args.tokens.now c.loop-code.tokens c.loop-code.at
    c.loop-code.invariant c.in-Token.found (sym c.in-Token.ensures.answer) c.in-Token.ensures.span.not_empty
    c.in_ok-token-in-Token.token c.push.new.self (ap (λ text. meant c.in-Token.found.kind text) (sym c.range.ensures.value)
    ∙ c.in_ok-token-in-Token.ensures.ok) c.in_ok-push-in-Token.ensures.ok
    c.in-Token.ensures.span.cut_behind

pub returns-in_err-token-in-Token-clause-err : goal.returns-in_err-token-in-Token-clause-err
returns-in_err-token-in-Token-clause-err c =
    let fault = c.in_err-token-in-Token.field-0.0 in
    handed_on _ (λ told. IfRefused told (λ diag. tokens_in c.args.number 0 c.args.text.now ≡ Err diag)) c.from_residual.result fault c.from_residual.ensures.1
    (no_meaning_fault c.args.number c.args.text.now c.args.tokens.now c.loop-code.tokens c.loop-code.at c.loop-code.invariant c.in-Token.found
    (sym c.in-Token.ensures.answer) c.in-Token.ensures.span.not_empty
    fault (subst (λ text. IfRefused fault
    (λ diag. (diag.line ≡ c.args.number) × (meant c.in-Token.found.kind text ≡ Err diag.code))) c.range.ensures.value c.in_err-token-in-Token.ensures.err))
