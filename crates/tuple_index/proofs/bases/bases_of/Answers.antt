use Rattle.std.proofs.Common.{arith, ◌≡◌, ◌++◌, ◌∷◌, []}
use Rattle.std.proofs.lemmas.Grind.{common_steps}
use Rattle.tuple_index.proofs.BaseLemmas.{total_within, bases_step, bases_end}
use Rattle.tuple_index.proofs.bases.bases_of.Goals as goal

pub overflow_add-total : goal.overflow_add-total
overflow_add-total c = omega (
  arith,
  total_within c.args.sizes.now c.loop-size.bases.items c.loop-size.total c.loop-size.size-index c.loop-size.invariant
      c.loop-size-test.true,
  c.requires,
)

pub loop-size-preserved : goal.loop-size-preserved
loop-size-preserved c =
    let pushed : c.push.new.self.items ≡ c.loop-size.bases.items ++ c.loop-size.total ∷ [] = grind (arith, common_steps) in
    bases_step c.args.sizes.now c.loop-size.bases.items c.push.new.self.items c.loop-size.total c.loop-size.size-index c.loop-size.invariant
    c.loop-size-test.true pushed

pub returns : goal.returns
returns c =
    bases_end c.args.sizes.now c.loop-size.bases.items c.loop-size.total c.loop-size.size-index c.loop-size.invariant c.loop-size-test.false
    c.loop-size.auto.size-index-end
