use Rattle.std.proofs.Common.{ap, arith}
use Rattle.feasibility.proofs.Naming.{constrained_exists}
use Rattle.full_search.proofs.KeptConflicts.{excluded}
use Rattle.full_search.proofs.conflicts.Conflicts.rule_out.Goals as goal

pub get-requires : goal.get-requires
get-requires c =
    omega (
      arith,
      constrained_exists c.args.tree.now.model c.loop-i.i (omega (arith, c.loop-i-test.true, c.loop-i.invariant.count)),
      ap (λ entry. entry.param) c.constrained_at.ensures,
      c.requires.long,
    )

pub returns-in-Some-met_under-clause-none : goal.returns-in-Some-met_under-clause-none
returns-in-Some-met_under-clause-none c e =
    let out = c.in-Some-met_under.ensures in
    excluded c.args.tree.now c.in-Some-met_under.conflict c.args.cells.now out.is out.first out.second out.third
