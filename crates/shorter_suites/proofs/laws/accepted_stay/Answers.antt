use Rattle.shorter_suites.proofs.Accepting.{accepted_stay as proved}
use Rattle.shorter_suites.proofs.laws.accepted_stay.Goals as goal

pub returns : goal.returns
returns c = proved
