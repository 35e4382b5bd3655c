use Rattle.std.proofs.Common.{subst, sym}
use Rattle.uncovered_table.specs.Prepared.{AreReady}
use Rattle.uncovered_table.proofs.table.Uncovered.prepare.Goals as goal

pub invariant_of-self-2 : goal.invariant_of-self-2
invariant_of-self-2 c = record {
  long = c.self.invariant.long;
  lines = subst (λ p. AreReady c.self.inside.sets.model c.self.inside.sets.slice c.self.inside.bits p c.in_ok-column_lines.field-0)
      (sym c.in_ok-column_lines.ensures.own) (c.in_ok-column_lines.ensures.ready c.self.inside.bits);
  begins_are = c.self.invariant.begins_are;
  kept = c.self.invariant.kept;
}
