use Rattle.std.proofs.Common.{subst, sym}
use Rattle.jeldroft_show.specs.believed.Due.{shown_due}
use Rattle.jeldroft_show.specs.Steps.{Gives}
use Rattle.jeldroft_show.proofs.answer.show_suite.Goals as goal

pub returns-in-Some-clause-gives : goal.returns-in-Some-clause-gives
returns-in-Some-clause-gives g c = λ held holds.
    subst (λ form. Gives (shown_due form c.args.args.now c.args.model.now held) c.show_table.result) (sym c.in-Some.is)
    (c.show_table.ensures.gives held.table holds.table)
