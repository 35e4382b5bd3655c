use Rattle.std.proofs.Common.{Bool, ◌∷◌, [], if◌then◌else◌, sym, ap}
use Rattle.row_text.proofs.Sending.{Adds-same}
use Rattle.row_text.proofs.report.put_mark.Goals as goal

pub returns-then-negative : goal.returns-then-negative
returns-then-negative g c = Adds-same (ap (λ (negative : Bool). if negative then c.args.mark ∷ [] else []) (sym c.if-negative.true)) c.add_byte.ensures
