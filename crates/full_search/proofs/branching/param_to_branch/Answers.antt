use Rattle.std.proofs.Common.{◌≤◌, length, arith}
use Rattle.full_search.specs.Branching.{CanBranch, GivesNamed}
use Rattle.full_search.proofs.FreeMembers.{broken_open, some_unless}
use Rattle.full_search.proofs.branching.param_to_branch.Goals as goal

pub unwrap-best-requires : goal.unwrap-best-requires
unwrap-best-requires c =
    let tree = c.args.tree.now in
    let cells = c.args.cells.now in
    let first = rw c.unwrap-first.ensures at c.next_set.ensures in
    let last : c.unwrap-first.result ≤ length tree.model.rules = omega (arith, first.below, c.len-end.ensures, c.requires.at.kept.long) in
    some_unless (GivesNamed tree.model c.unwrap-first.result cells) (CanBranch tree.model cells) c.free_member.result c.free_member.ensures
    (broken_open tree cells c.args.sets.now c.args.witness.now c.unwrap-first.result c.assert_invariant.ensures.sound c.assert_invariant.ensures.values
    c.requires.at (omega (arith, first.lowest)) last first.marked)
