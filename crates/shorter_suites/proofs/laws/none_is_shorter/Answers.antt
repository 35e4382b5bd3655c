use Rattle.shorter_suites.proofs.Counting.{none_is_shorter as proved}
use Rattle.shorter_suites.proofs.laws.none_is_shorter.Goals as goal

pub returns : goal.returns
returns c = proved
