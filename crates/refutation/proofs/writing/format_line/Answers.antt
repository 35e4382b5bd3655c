use Rattle.std.proofs.Common.{◌∙◌, sym, ap}
use Rattle.refutation.specs.Lines.{form_text}
use Rattle.refutation.proofs.LineLemmas.{first_line, second_line}
use Rattle.refutation.proofs.writing.format_line.Goals as goal

pub returns-in-One : goal.returns-in-One
returns-in-One c = sym (ap form_text c.in-One.is ∙ first_line)

pub returns-in-Two : goal.returns-in-Two
returns-in-Two c = sym (ap form_text c.in-Two.is ∙ second_line)
