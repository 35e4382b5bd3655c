use Rattle.std.proofs.Common.{◌≡◌, length}
use Rattle.definitions.specs.believed.Search.{constrained_params}
use Rattle.full_search.specs.Conflicts.{AreKept}
use Rattle.full_search.proofs.conflicts.Conflicts.rule_out.Given as goal

abbrev pub invariant-loop-i : goal.invariant-loop-i
invariant-loop-i l = record {
  count : l.count ≡ length (constrained_params l.tree.model);
  kept : AreKept l.tree l.self;
}
