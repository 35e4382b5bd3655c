use Rattle.std.proofs.Common.{take}
use Rattle.std.specs.List.{flat_map}
use Rattle.outside_io.specs.declared.answers.WriteAnswer.TheVariants.{Done}
use Rattle.outside_io.specs.believed.Puts.{Puts}
use Rattle.outside_io.proofs.pieces.put_pieces.Given as goal

abbrev pub invariant-loop-piece : goal.invariant-loop-piece
invariant-loop-piece g l = Puts Done (g.E.Sink.seen l.fn.sink) (g.E.Sink.seen l.sink) (flat_map (λ piece. piece.now) (take l.piece-index l.pieces))
