use Rattle.std.proofs.Common.{◌∙◌, ap}
use Rattle.std.specs.List.{prefix_len}
use Rattle.model_lex.specs.believed.Tokens.{is_number_byte}
use Rattle.model_lex.proofs.Runs.{ascii_number, run_ends}
use Rattle.model_lex.proofs.scan.number_token.Goals as goal

pub range-requires-clause-end_boundary : goal.range-requires-clause-end_boundary
range-requires-clause-end_boundary c =
    run_ends is_number_byte ascii_number c.args.text.now c.utf8.text c.number_len-len.result
    (c.number_len-len.ensures.value ∙ ap (λ text. prefix_len is_number_byte text) c.as_bytes.ensures.value)
