use Rattle.shared_marks.proofs.PlaceLemmas.{tuple_there}
use Rattle.shared_marks.proofs.laws.places_are_ranks.Goals as goal

pub returns : goal.returns
returns c = tuple_there
