use Rattle.std.proofs.Common.{Err, subst}
use Rattle.seq_check.specs.believed.EventFile.{events_of}
use Rattle.seq_check.specs.Reading.{Reads}
use Rattle.seq_cli.specs.Commands.{asked_seen}
use Rattle.seq_cli.proofs.Stopping.{refused_file}
use Rattle.seq_cli.proofs.load.load_events.Goals as goal

pub returns-in_err-events-clause-stops : goal.returns-in_err-events-clause-stops
returns-in_err-events-clause-stops g c =
    let fault = c.in_err-events.field-0.0 in
    let bytes = c.in_ok-bytes.bytes.items in
    refused_file (asked_seen c.args.command.now) (g.F.Folder.seen c.args.files.now).files bytes c.from_residual-in_err-events.result fault
    c.from_residual-in_err-events.ensures.1 c.in_ok-bytes.ensures.bytes
    (subst (λ len. Reads (events_of len bytes) (Err fault)) c.number.ensures.value
    (subst (λ text. Reads (events_of c.number.result text) (Err fault)) c.as_slice.ensures.value c.in_err-events.ensures))
