use Rattle.suite_page.proofs.Wholes.{pages_whole}
use Rattle.suite_page.proofs.laws.pages_are_whole.Goals as goal

pub returns : goal.returns
returns c = pages_whole
