use Rattle.row_forms.proofs.MarkdownLaw.{markdown-reads-back}
use Rattle.row_forms.proofs.laws.markdown_reads_back.Goals as goal

pub returns : goal.returns
returns c = markdown-reads-back
