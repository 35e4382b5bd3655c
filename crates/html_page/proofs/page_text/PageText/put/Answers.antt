use Rattle.std.proofs.Common.{arith}
use Rattle.html_page.proofs.Mapped.{pieces_put}
use Rattle.html_page.proofs.page_text.PageText.put.Goals as goal

pub returns : goal.returns
returns c = pieces_put c.args.self.now c.loop-piece.self c.args.pieces.now c.loop-piece.piece-index c.loop-piece.invariant (omega (arith, c.loop-piece-test.false))
