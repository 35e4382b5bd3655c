use Rattle.std.proofs.Common.{◌≡◌, ap, ◌∙◌, arith}
use Rattle.std.specs.List.{suffix_len}
use Rattle.std.proofs.lemmas.List.Sums.{suffix_len-le-length}
use Rattle.value_text.specs.believed.Texts.{is_blank}
use Rattle.model_lex.proofs.Runs.{ascii_blank, suffix_cut}
use Rattle.model_lex.proofs.trim.without_last_blanks.Goals as goal

pub overflow_sub-text : goal.overflow_sub-text
overflow_sub-text c =
    let is : c.last_blanks-blanks.result ≡ suffix_len is_blank c.args.text.now = c.last_blanks-blanks.ensures ∙ ap (suffix_len is_blank) c.as_bytes.ensures.value in
    omega (arith, suffix_len-le-length is_blank c.args.text.now)

pub range-requires-clause-end_boundary : goal.range-requires-clause-end_boundary
range-requires-clause-end_boundary c =
    suffix_cut is_blank ascii_blank c.args.text.now c.last_blanks-blanks.result (c.last_blanks-blanks.ensures ∙ ap (suffix_len is_blank) c.as_bytes.ensures.value)
