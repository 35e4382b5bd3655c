use Rattle.std.proofs.Common.{◌∙◌, ◌++◌, ◌∷◌, [], All, ap, arith, get_or, map, subst, sym, take}
use Rattle.std.proofs.lemmas.List.{map_push, take_more}
use Rattle.uncovered_table.specs.Bits.{InPlay, first_bit}
use Rattle.uncovered_table.proofs.GainLemmas.{all_in_play}
use Rattle.uncovered_table.proofs.part.SlicePart.firsts_of.Goals as goal

pub bounds-begins-set : goal.bounds-begins-set
bounds-begins-set c =
    let v = c.args.self.now in
    let plays = subst (All (InPlay v.model v.slice c.args.column)) (sym c.requires.sets) (all_in_play v.model v.slice c.args.column) in
    let play = plays c.loop-set.set-index 0 c.loop-set-test.true in
    omega (arith, play.exists, c.requires.begins.many)

pub loop-set-preserved : goal.loop-set-preserved
loop-set-preserved c =
    let v = c.args.self.now in
    let f = first_bit v.model v.slice in
    let set = get_or c.args.sets.now c.loop-set.set-index 0 in
    let plays = subst (All (InPlay v.model v.slice c.args.column)) (sym c.requires.sets) (all_in_play v.model v.slice c.args.column) in
    let play = plays c.loop-set.set-index 0 c.loop-set-test.true in
    c.in_ok-push.ensures.items ∙ ap (λ first. c.loop-set.firsts.items ++ first ∷ []) (c.requires.begins.each set _ (omega (arith, play.exists)))
    ∙ ap (λ list. list ++ f set ∷ []) c.loop-set.invariant ∙ sym (map_push f (take c.loop-set.set-index c.args.sets.now) set)
    ∙ ap (map f) (sym (take_more c.args.sets.now c.loop-set.set-index 0 c.loop-set-test.true))
