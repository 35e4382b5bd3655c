use Rattle.std.proofs.Common.{sym, ◌==◌}
use Rattle.seq_check.proofs.PlaceLemmas.{found_at, found_nowhere}
use Rattle.seq_check.proofs.places.place_of.Goals as goal

pub returns-in-Some : goal.returns-in-Some
returns-in-Some c = sym (found_at (λ other. other == c.args.event) c.args.order.now c.in-Some.place (sym c.in-Some.ensures))

pub returns-in-None : goal.returns-in-None
returns-in-None c = sym (found_nowhere (λ other. other == c.args.event) c.args.order.now (sym c.in-None.ensures))
