use Rattle.std.proofs.Common.{◌≡◌, map, subst, sym, ap, ◌∙◌}
use Rattle.std.specs.Prelude.{Ok, Err}
use Rattle.model_lex.specs.Sections.{line_seen}
use Rattle.constraint_ast.specs.believed.Lexing.{AreRefused, tokens_of}
use Rattle.constraint_ast.specs.Reading.{IfRefused}
use Rattle.constraint_ast.proofs.Answer.{lines_refused, lines_spelled, no_tokens, only_no_memory, only_these}
use Rattle.constraint_ast.proofs.Lexing.{handed_on}
use Rattle.constraint_ast.proofs.parser.parse_rules.Goals as goal
use Rattle.constraint_ast.proofs.parser.parse_rules.Goals.{After-parse_all, In_err-tokens}

lexed : (c : After-parse_all) → tokens_of (map line_seen c.args.sections.now.rules) ≡ Ok c.as_slice-2.result.now
lexed c = ap (λ lines. tokens_of (map line_seen lines)) (sym c.as_slice.ensures) ∙ (c.in_ok-tokens.ensures.ok ∙ ap Ok (sym c.as_slice-2.ensures))

pub returns-clause-ok : goal.returns-clause-ok
returns-clause-ok c =
    let read = (goal.at.returns-clause-ok c).After-parse_all in
    lines_spelled (map line_seen c.args.sections.now.rules) c.as_slice-2.result.now (lexed read) c.parse_all.result c.parse_all.ensures.ok

pub returns-clause-err : goal.returns-clause-err
returns-clause-err c =
    let read = (goal.at.returns-clause-err c).After-parse_all in
    lines_refused (map line_seen c.args.sections.now.rules) c.as_slice-2.result.now (lexed read) c.parse_all.result c.parse_all.ensures.err

pub returns-clause-only : goal.returns-clause-only
returns-clause-only c =
    let read = (goal.at.returns-clause-only c).After-parse_all in
    let lines = map line_seen c.args.sections.now.rules in
    only_these lines c.parse_all.result (lines_spelled lines c.as_slice-2.result.now (lexed read) c.parse_all.result c.parse_all.ensures.ok)
    (lines_refused lines c.as_slice-2.result.now (lexed read) c.parse_all.result c.parse_all.ensures.err)

refused : (c : In_err-tokens) → IfRefused c.in_err-tokens.field-0.0 (AreRefused (map line_seen c.args.sections.now.rules))
refused c =
    let fault = c.in_err-tokens.field-0.0 in
    no_tokens (map line_seen c.args.sections.now.rules) fault (subst
    (λ lines. IfRefused fault (λ diag. tokens_of (map line_seen lines) ≡ Err diag)) c.as_slice.ensures c.in_err-tokens.ensures.err)

pub returns-in_err-tokens-clause-err : goal.returns-in_err-tokens-clause-err
returns-in_err-tokens-clause-err c =
    handed_on _ (λ told. IfRefused told (AreRefused (map line_seen c.args.sections.now.rules))) c.from_residual.result c.in_err-tokens.field-0.0 c.from_residual.ensures.1
    (refused (goal.at.returns-in_err-tokens-clause-err c).In_err-tokens)

pub returns-in_err-tokens-clause-only : goal.returns-in_err-tokens-clause-only
returns-in_err-tokens-clause-only c =
    let is = refused (goal.at.returns-in_err-tokens-clause-only c).In_err-tokens in
    λ trees spelled. handed_on _ _ c.from_residual.result c.in_err-tokens.field-0.0 c.from_residual.ensures.1
    (only_no_memory (map line_seen c.args.sections.now.rules) c.in_err-tokens.field-0.0 is trees spelled)
