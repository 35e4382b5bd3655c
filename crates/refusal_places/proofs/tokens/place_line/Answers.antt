use Rattle.std.proofs.Common.{arith}
use Rattle.std.proofs.lemmas.Str.{IsCharBoundary-start}
use Rattle.refusal_places.proofs.tokens.place_line.Goals as goal

pub loop-found-init : goal.loop-found-init
loop-found-init c = (omega arith, IsCharBoundary-start c.args.text.now c.utf8.text)
