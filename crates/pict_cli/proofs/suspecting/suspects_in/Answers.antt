use Rattle.suspect_tuples.specs.Told.{candidates_of}
use Rattle.pict_cli.proofs.Suspicions.{not_many}
use Rattle.pict_cli.proofs.suspecting.suspects_in.Goals as goal

pub returns-in-Ok-clause-within : goal.returns-in-Ok-clause-within
returns-in-Ok-clause-within c = not_many (candidates_of c.args.model.now c.args.results.now) c.in-Ok.ensures.within
