use Rattle.std.proofs.Common.{ℕ, List, ◌∷◌, ◌++◌, get_or, sym, subst, arith}
use Rattle.seq_check.specs.believed.Orders.{steps}
use Rattle.seq_cover.specs.Sets.{AreWays}
use Rattle.seq_cover.proofs.WayLemmas.{way_more, two_items, three_items}
use Rattle.seq_cover.proofs.ways.add_steps.Goals as goal

pub returns-in-len2 : goal.returns-in-len2
returns-in-len2 c = λ pairs ways.
    let xs = c.args.sequence.now in
    let a = get_or xs 0 0 in
    let b = get_or xs 1 0 in
    let low_a = c.requires.exist 0 0 (omega arith) in
    let low_b = c.requires.exist 1 0 (omega arith) in
    subst (λ (l : List ℕ). AreWays c.add_way.new.ways (steps l ++ pairs)) (sym (two_items xs (omega arith)))
    (way_more c.args.ways.now c.add_way.new.ways pairs a b ways low_a low_b c.add_way.ensures)

pub returns-in-len3 : goal.returns-in-len3
returns-in-len3 c = λ pairs ways.
    let xs = c.args.sequence.now in
    let a = get_or xs 0 0 in
    let b = get_or xs 1 0 in
    let d = get_or xs 2 0 in
    let low_a = c.requires.exist 0 0 (omega arith) in
    let low_b = c.requires.exist 1 0 (omega arith) in
    let low_d = c.requires.exist 2 0 (omega arith) in
    let one = way_more c.args.ways.now c.add_way-in-len3.new.ways pairs b d ways low_b low_d c.add_way-in-len3.ensures in
    let two = way_more c.add_way-in-len3.new.ways c.add_way-in-len3-2.new.ways ((b, d) ∷ pairs) a d one low_a low_d c.add_way-in-len3-2.ensures in
    let three = way_more c.add_way-in-len3-2.new.ways c.add_way-in-len3-3.new.ways ((a, d) ∷ (b, d) ∷ pairs) a b two low_a low_b c.add_way-in-len3-3.ensures in
    subst (λ (l : List ℕ). AreWays c.add_way-in-len3-3.new.ways (steps l ++ pairs)) (sym (three_items xs (omega arith))) three
