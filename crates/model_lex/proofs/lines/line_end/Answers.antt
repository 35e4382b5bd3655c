use Rattle.value_text.proofs.ByteLemmas.{first_byte}
use Rattle.model_lex.proofs.lines.line_end.Goals as goal

pub returns : goal.returns
returns c = first_byte 10 c.args.bytes.now c.memchr.result c.memchr.ensures
