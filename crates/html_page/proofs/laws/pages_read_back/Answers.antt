use Rattle.html_page.proofs.Tags.{pages_read}
use Rattle.html_page.proofs.laws.pages_read_back.Goals as goal

pub returns : goal.returns
returns c = pages_read
