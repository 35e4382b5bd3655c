use Rattle.jeldroft_sequence.proofs.RunEnds.{events_from}
use Rattle.jeldroft_sequence.proofs.read.load_events.Goals as goal

pub returns-clause-gives : goal.returns-clause-gives
returns-clause-gives g c =
    events_from ((g.F.Folder.seen c.args.files.now).files c.args.name.now) c.args.size c.in_ok-bytes.bytes.items c.as_slice.result.now c.events_in-events.result
    c.as_slice.ensures.value c.in_ok-bytes.ensures.gives c.events_in-events.ensures.gives
