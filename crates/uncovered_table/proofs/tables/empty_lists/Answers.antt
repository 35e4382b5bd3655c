use Rattle.std.proofs.Common.{◌≡◌, ◌∙◌, ◌++◌, ◌∷◌, [], ap, arith, map, replicate}
use Rattle.std.proofs.lemmas.Grind.{common_steps}
use Rattle.std.proofs.lemmas.List.{map_push, replicate_more}
use Rattle.uncovered_table.proofs.tables.empty_lists.Goals as goal

pub loop-preserved : goal.loop-preserved
loop-preserved c =
    let pushed : c.push.new.self.items ≡ c.loop.lists.items ++ c.new.result ∷ [] = grind (arith, common_steps) in
    ap (map (λ list. list.items)) pushed ∙ map_push (λ list. list.items) c.loop.lists.items c.new.result
    ∙ ap (λ lists. lists ++ c.new.result.items ∷ []) c.loop.invariant ∙ ap (λ items. replicate c.loop.counter [] ++ items ∷ []) c.new.ensures.items
    ∙ replicate_more c.loop.counter []
