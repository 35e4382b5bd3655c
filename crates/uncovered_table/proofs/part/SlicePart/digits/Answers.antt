use Rattle.std.proofs.Common.{◌≡◌, ◌∙◌, ◌++◌, ◌∷◌, [], ap, arith, map, sym, zero-add}
use Rattle.std.specs.List.{range_with_len}
use Rattle.std.proofs.lemmas.Grind.{common_steps}
use Rattle.std.proofs.lemmas.List.{map_push}
use Rattle.std.proofs.lemmas.List.FromFn.{map-range_with_len_more}
use Rattle.uncovered_table.specs.Kept.{digits_of}
use Rattle.uncovered_table.proofs.part.SlicePart.digits.Goals as goal

pub loop-p-preserved : goal.loop-p-preserved
loop-p-preserved c =
    let v = c.args.self.now in
    let digits = c.in_ok-digits.digits in
    let pushed : c.push.new.self.items ≡ c.loop-p.lists.items ++ digits ∷ [] = grind (arith, common_steps) in
    ap (map (λ list. list.items)) pushed ∙ map_push (λ list. list.items) c.loop-p.lists.items digits
    ∙ ap (λ lists. lists ++ digits.items ∷ []) c.loop-p.invariant
    ∙ ap (λ items. map (digits_of v.model v.slice) (range_with_len 0 c.loop-p.p) ++ items ∷ []) (c.in_ok-digits.ensures)
    ∙ sym (map-range_with_len_more (digits_of v.model v.slice) 0 c.loop-p.p c.loop-p.p (zero-add c.loop-p.p))
