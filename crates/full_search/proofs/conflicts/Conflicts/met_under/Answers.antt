use Rattle.std.proofs.Common.{◌+◌, ◌∙◌, Option, All, length, sym, subst}
use Rattle.std.specs.Prelude.{IfSome}
use Rattle.std.proofs.lemmas.Bool.{ltb-true}
use Rattle.full_search.specs.Conflicts.{IsConflict}
use Rattle.full_search.specs.declared.conflict.Conflict.{Conflict}
use Rattle.full_search.proofs.conflicts.Conflicts.met_under.Goals as goal

pub returns-then-is_in : goal.returns-then-is_in
returns-then-is_in c =
    let tree = c.args.tree.now in
    let here = c.in-Some-Some.ensures.lookup in
    record {
      is = subst (λ (slot : Option Conflict). IfSome slot (IsConflict tree)) (sym here.1 ∙ c.in-Some-Some.field-0-is)
          (subst (All (λ slot. IfSome slot (IsConflict tree))) (sym c.deref.ensures.value) c.requires.kept.slots (c.slot_of-start.result + c.loop-k.k)
          c.in-Some-Some.field-0.now (ltb-true (c.slot_of-start.result + c.loop-k.k) (length c.deref.result.now) (sym here.0)));
      first = c.is_in.ensures.first c.if-is_in.true;
      second = c.is_in.ensures.second c.if-is_in.true;
      third = c.is_in.ensures.third c.if-is_in.true;
    }
