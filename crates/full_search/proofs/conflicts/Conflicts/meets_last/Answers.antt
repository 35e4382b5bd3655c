use Rattle.std.proofs.Common.{Option, subst}
use Rattle.std.specs.Prelude.{IfSome}
use Rattle.full_search.specs.Conflicts.{IsConflict}
use Rattle.full_search.specs.declared.conflict.Conflict.{Conflict}
use Rattle.full_search.proofs.KeptConflicts.{excluded}
use Rattle.full_search.proofs.conflicts.Conflicts.meets_last.Goals as goal

pub returns-in-Some : goal.returns-in-Some
returns-in-Some c e =
    excluded c.args.tree.now c.in-Some.conflict c.args.cells.now
    (subst (λ (last : Option Conflict). IfSome last (IsConflict c.args.tree.now)) c.in-Some.is c.requires.kept.last)
    (c.is_in.ensures.first e) (c.is_in.ensures.second e) (c.is_in.ensures.third e)
