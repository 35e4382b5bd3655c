use Rattle.std.proofs.Common.{rules, ◌≡◌, ◌++◌, ◌∷◌, [], length, ◌+◌, ◌∙◌, ap, arith}
use Rattle.packed_lists.proofs.CutLemmas.{Pushes, pushes}
use Rattle.packed_lists.proofs.packed.PackedLists.push.Goals as goal

pushed : (c : goal.Else-prove) → Pushes c.self.inside.ends.items c.self.inside.numbers.items c.args.list.now c.push.new.self.items c.extend_from_slice-copied.new.self.items
pushed c =
    let end_is : c.in-Ok.end ≡ length c.self.inside.numbers.items + length c.args.list.now = grind arith in
    let copied : c.extend_from_slice-copied.new.self.items ≡ c.self.inside.numbers.items ++ c.args.list.now = search rules in
    pushes c.self.inside.ends.items c.self.inside.numbers.items c.args.list.now c.push.new.self.items c.extend_from_slice-copied.new.self.items c.in-Ok.end c.self.invariant end_is
    c.in_ok-push.ensures.items copied

pub invariant_of-self-2 : goal.invariant_of-self-2
invariant_of-self-2 c = (pushed c).are

pub returns-clause-ok : goal.returns-clause-ok
returns-clause-ok c = (pushed c).is ∙ ap (λ lists. lists ++ c.args.list.now ∷ []) c.self.view_is
