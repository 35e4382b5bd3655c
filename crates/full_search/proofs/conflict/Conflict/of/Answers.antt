use Rattle.std.proofs.Common.{◌+◌}
use Rattle.full_search.proofs.KeptConflicts.{none_next, one_value, two_values, three_values}
use Rattle.full_search.proofs.conflict.Conflict.of.Goals as goal

pub returns-in_default : goal.returns-in_default
returns-in_default c =
    one_value c.args.tree.now c.args.why.now c.in_ok-first.first c.requires.none c.in_ok-first.ensures
    (none_next c.args.why.now (c.in_ok-first.first.param + 1) c.next_given-2.result c.next_given-2.ensures c.in_default.is)

pub returns-in_default-next_given : goal.returns-in_default-next_given
returns-in_default-next_given c =
    two_values c.args.tree.now c.args.why.now c.in_ok-first.first c.in-Some.second c.requires.none c.in_ok-first.ensures c.in-Some.ensures
    (none_next c.args.why.now (c.in-Some.second.param + 1) c.next_given-3.result c.next_given-3.ensures c.in_default-next_given.is)

pub returns-in-None : goal.returns-in-None
returns-in-None c =
    three_values c.args.tree.now c.args.why.now c.in_ok-first.first c.in-Some.second c.in-Some-next_given.third c.requires.none c.in_ok-first.ensures
    c.in-Some.ensures c.in-Some-next_given.ensures
    (none_next c.args.why.now (c.in-Some-next_given.third.param + 1) c.next_given-4.result c.next_given-4.ensures c.in-None.is)
