use Rattle.std.proofs.Common.{sym, subst}
use Rattle.row_text.specs.Turns.{IsFor}
use Rattle.row_text.proofs.Turning.{first_turns-IsFor}
use Rattle.row_text.proofs.turns.Turns.new.Goals as goal

pub returns : goal.returns
returns c = subst (IsFor c.args.model.now) (sym c.in_ok-new.ensures) (first_turns-IsFor c.args.model.now)
