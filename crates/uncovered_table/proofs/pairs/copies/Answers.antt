use Rattle.std.proofs.Common.{◌≡◌, ◌∙◌, ◌++◌, ◌∷◌, [], ap, arith, map, replicate}
use Rattle.std.proofs.lemmas.Grind.{common_steps}
use Rattle.std.proofs.lemmas.List.{map_push, replicate_more}
use Rattle.uncovered_table.proofs.pairs.copies.Goals as goal

pub loop-preserved : goal.loop-preserved
loop-preserved c =
    let pushed : c.push.new.self.items ≡ c.loop.blocks.items ++ c.extend_from_slice.new.self ∷ [] = grind (arith, common_steps) in
    let copied : c.extend_from_slice.new.self.items ≡ c.args.block.now = grind (arith, common_steps) in
    ap (map (λ list. list.items)) pushed ∙ map_push (λ list. list.items) c.loop.blocks.items c.extend_from_slice.new.self
    ∙ ap (λ lists. lists ++ c.extend_from_slice.new.self.items ∷ []) c.loop.invariant
    ∙ ap (λ items. replicate c.loop.counter c.args.block.now ++ items ∷ []) copied ∙ replicate_more c.loop.counter c.args.block.now
