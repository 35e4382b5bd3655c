use Rattle.std.proofs.Common.{ℕ, List, ◌∷◌, ◌++◌, get_or, sym, subst, arith}
use Rattle.seq_check.specs.EventSets.{AreBack}
use Rattle.seq_check.specs.believed.Orders.{steps}
use Rattle.seq_cover.proofs.WayLemmas.{two_items, three_items}
use Rattle.seq_cover.proofs.GrowLemmas.{back_more}
use Rattle.seq_cover.proofs.steps.add_back.Goals as goal

pub returns-in-len2 : goal.returns-in-len2
returns-in-len2 c = λ pairs of.
    let xs = c.args.sequence.now in
    let a = get_or xs 0 0 in
    let b = get_or xs 1 0 in
    subst (λ (l : List ℕ). AreBack c.add.new.self (steps l ++ pairs)) (sym (two_items xs (omega arith))) (back_more c.args.back.now c.add.new.self pairs a b of c.add.ensures)

pub returns-in-len3 : goal.returns-in-len3
returns-in-len3 c = λ pairs of.
    let xs = c.args.sequence.now in
    let a = get_or xs 0 0 in
    let b = get_or xs 1 0 in
    let d = get_or xs 2 0 in
    let one = back_more c.args.back.now c.add-in-len3.new.self pairs b d of c.add-in-len3.ensures in
    let two = back_more c.add-in-len3.new.self c.add-in-len3-2.new.self ((b, d) ∷ pairs) a d one c.add-in-len3-2.ensures in
    let three = back_more c.add-in-len3-2.new.self c.add-in-len3-3.new.self ((a, d) ∷ (b, d) ∷ pairs) a b two c.add-in-len3-3.ensures in
    subst (λ (l : List ℕ). AreBack c.add-in-len3-3.new.self (steps l ++ pairs)) (sym (three_items xs (omega arith))) three
