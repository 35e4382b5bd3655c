use Rattle.std.proofs.Common.{◌∙◌, ap}
use Rattle.seq_check.specs.EventSets.{in_set_at}
use Rattle.seq_check.proofs.SetLemmas.{in_none}
use Rattle.seq_check.proofs.arrows.Arrows.new.Goals as goal

pub returns-in-Ok : goal.returns-in-Ok
returns-in-Ok c = λ first second.
    ap (λ sets. in_set_at sets first second) (c.in-Ok.ensures.items_if_clones_equal (λ y same. same))
    ∙ in_none c.none.result 64 first second (c.none.ensures second)
