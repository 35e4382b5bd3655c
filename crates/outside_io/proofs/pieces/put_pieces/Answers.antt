use Rattle.std.proofs.Common.{[]}
use Rattle.outside_io.proofs.PieceLemmas.{Puts-failed_at}
use Rattle.outside_io.proofs.pieces.put_pieces.Goals as goal

pub returns-in-Failed : goal.returns-in-Failed
returns-in-Failed g c =
    Puts-failed_at (λ piece. piece.now) c.args.pieces.now c.loop-piece.piece-index (record { ref_ptr = (0, 0); now = [] }) c.as_bytes.result.now
    (g.E.Sink.seen c.args.sink.now) (g.E.Sink.seen c.loop-piece.sink) (g.E.Sink.seen c.put.new.self)
    c.loop-piece-test.true c.as_bytes.ensures.value c.loop-piece.invariant c.in-Failed.ensures
