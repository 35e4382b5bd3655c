use Rattle.std.proofs.Common.{drop, ap, arith, ◌∙◌}
use Rattle.std.proofs.lemmas.List.{take_rest}
use Rattle.std.specs.List.{prefix_len}
use Rattle.value_text.specs.believed.Texts.{is_blank}
use Rattle.model_lex.proofs.Runs.{ascii_blank, run_boundary}
use Rattle.model_lex.proofs.token.token_start.Goals as goal

pub returns-clause-cut : goal.returns-clause-cut
returns-clause-cut c =
    let left = take_rest c.as_bytes.result.now c.args.at ∙ ap (λ bytes. drop c.args.at bytes) c.as_bytes.ensures.value in
    let blanks = c.blank_len.ensures.value ∙ ap (λ text. prefix_len is_blank text) left in
    run_boundary is_blank ascii_blank c.args.line.now c.args.at c.utf8.line c.requires c.blank_len.result (omega (arith, blanks))
