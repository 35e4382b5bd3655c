use Rattle.std.proofs.Common.{◌≡◌, Ok, subst}
use Rattle.std.specs.Prelude.{IfSome}
use Rattle.jeldroft_sequence.specs.believed.Sequences.{events_held}
use Rattle.jeldroft_sequence.proofs.RunEnds.{grown_covers}
use Rattle.jeldroft_sequence.proofs.orders.orders.Goals as goal

pub returns-clause-covers : goal.returns-clause-covers
returns-clause-covers g c =
    let files = (g.F.Folder.seen c.args.files.now).files in
    let len = c.args.args.now.length in
    let e = c.in_ok-events.events in
    grown_covers (files c.args.args.now.events) len e c.report.result c.in_ok-events.ensures.kept
    (subst (λ name. IfSome (files name) (λ held. events_held len held ≡ Ok e)) c.as_str.ensures.value c.in_ok-events.ensures.gives) c.report.ensures
