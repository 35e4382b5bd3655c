use Rattle.std.proofs.Common.{ℕ, List, [], Bor}
use Rattle.model_parse.specs.ValueSteps.{add_piece}
use Rattle.model_parse.proofs.Answering.{gives_fault}
use Rattle.model_parse.proofs.Readings.{each_next, each_stops}
use Rattle.model_parse.proofs.param.add_pieces.Goals as goal

-- what a read past the end of a slice of texts gives
abbrev no_text : Bor (List ℕ)
no_text = record { ref_ptr = (0, 0); now = [] }

pub loop-piece-preserved : goal.loop-piece-preserved
loop-piece-preserved c =
    each_next (add_piece c.args.opts.now c.args.line c.args.params.now c.args.known.now) (λ piece. piece.now) c.args.pieces.now c.args.read.now c.loop-piece.piece-index no_text
    c.loop-piece.read c.add_piece.new.read c.loop-piece-test.true c.loop-piece.invariant c.in_ok-add_piece.ensures

pub returns-in_err-add_piece : goal.returns-in_err-add_piece
returns-in_err-add_piece c =
    gives_fault _ _ c.from_residual.result c.in_err-add_piece.field-0.0 c.from_residual.ensures.1
    (λ n. each_stops (add_piece c.args.opts.now c.args.line c.args.params.now c.args.known.now) (λ piece. piece.now) c.args.pieces.now c.args.read.now c.loop-piece.piece-index no_text
    c.loop-piece.read c.in_err-add_piece.field-0.0 c.loop-piece-test.true c.loop-piece.invariant (c.in_err-add_piece.ensures n))
