use Rattle.std.proofs.Common.{◌≡◌, ℕ, Ok, length, ◌∙◌, ap, refl, arith}
use Rattle.std.specs.List.{range_with_len}
use Rattle.std.proofs.lemmas.Grind.{common_steps}
use Rattle.std.proofs.lemmas.Iterator.{items_from_collect, YieldsList-from_range}
use Rattle.tuple_index.proofs.sets.params_of.Goals as goal

pub returns : goal.returns
returns c =
    let count : c.len-count.result ≡ length c.args.model.now.params = grind (arith, common_steps) in
    items_from_collect {E = ℕ} (Ok c.in_ok-collect.field-0) c.in_ok-collect.ensures.ran
    (YieldsList-from_range 0 c.len-count.result c.len-count.result refl (omega arith))
    ∙ ap (range_with_len 0) count
