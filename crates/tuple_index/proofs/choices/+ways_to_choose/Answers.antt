use Rattle.std.proofs.Common.{◌<◌, ◌++◌, ◌∷◌, ◌-◌, ◌+◌, map, ◌∙◌, ap, arith}
use Rattle.std.proofs.lemmas.List.{take_rest}
use Rattle.definitions.specs.believed.Demand.{choose}
use Rattle.tuple_index.proofs.ChoiceLemmas.{choose_step, choose_end}
use Rattle.tuple_index.proofs.choices.+ways_to_choose.Goals as goal

pub loop-i-preserved : goal.loop-i-preserved
loop-i-preserved g t c =
    let some : 0 < c.args.k = omega (arith, c.if-k-eq0.false) in
    choose_step c.args.k c.loop-i.i c.args.items.now c.index-items-i.result c.in_ok-rest.rest c.loop-i.ways c.push_joined.new.into _ some
    (omega arith) c.index-items-i.is
    (c.in_ok-rest.ensures ∙ ap (choose (c.args.k - 1)) (take_rest c.args.items.now (c.loop-i.i + 1)))
    (c.in_ok-push_joined.ensures ∙ ap (λ rest. c.loop-i.ways ++ map (λ other. c.index-items-i.result ∷ other) rest) c.as_slice.ensures) c.loop-i.invariant

pub returns : goal.returns
returns g t c =
    let some : 0 < c.args.k = omega (arith, c.if-k-eq0.false) in
    choose_end c.args.k c.loop-i.i c.args.items.now c.loop-i.ways _ some (omega arith) c.loop-i.invariant
