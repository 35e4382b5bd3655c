use Rattle.suite_facts.proofs.CurveLemmas.{looked}
use Rattle.suite_facts.proofs.curve.look.Goals as goal

pub returns-clause-kept : goal.returns-clause-kept
returns-clause-kept c = looked c.args.place c.is_marked.result c.args.seat.now c.is_marked.new.seat c.is_marked.ensures.seat
