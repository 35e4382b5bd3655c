use Rattle.std.proofs.Common.{ap, ◌∙◌}
use Rattle.std.specs.Char.{is_ascii_digit}
use Rattle.std.specs.List.{prefix_len}
use Rattle.std.specs.Str.{IsCharBoundary}
use Rattle.model_lex.proofs.Runs.{run_ends}
use Rattle.model_parse.proofs.Cuts.{ascii_digit}
use Rattle.model_parse.proofs.group.cut_digits.Goals as goal
use Rattle.model_parse.proofs.group.cut_digits.Goals.{After-digit_len-len}

behind : (c : After-digit_len-len) → IsCharBoundary c.args.text.now c.digit_len-len.result
behind c = run_ends is_ascii_digit ascii_digit c.args.text.now c.utf8.text c.digit_len-len.result (c.digit_len-len.ensures ∙ ap (prefix_len is_ascii_digit) c.as_bytes.ensures.value)

pub range-requires-clause-end_boundary : goal.range-requires-clause-end_boundary
range-requires-clause-end_boundary c = behind (goal.at.range-requires-clause-end_boundary c).After-digit_len-len

pub range_from-requires : goal.range_from-requires
range_from-requires c = λ h. behind (goal.at.range_from-requires c).After-digit_len-len
