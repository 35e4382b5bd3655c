use Rattle.std.proofs.Common.{ap, ◌∙◌}
use Rattle.std.specs.List.{prefix_len}
use Rattle.value_text.specs.believed.Texts.{is_blank}
use Rattle.model_lex.proofs.Runs.{ascii_blank, run_ends}
use Rattle.model_lex.proofs.trim.without_first_blanks.Goals as goal

pub range_from-requires : goal.range_from-requires
range_from-requires c = λ h. run_ends is_blank ascii_blank c.args.text.now c.utf8.text c.blank_len-blanks.result
    (c.blank_len-blanks.ensures.value ∙ ap (prefix_len is_blank) c.as_bytes.ensures.value)
