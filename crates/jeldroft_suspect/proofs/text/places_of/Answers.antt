use Rattle.std.proofs.Common.{refl, arith}
use Rattle.std.proofs.lemmas.Grind.{common_steps}
use Rattle.std.proofs.lemmas.Iterator.{items_from_collect, YieldsList-from_range}
use Rattle.jeldroft_suspect.proofs.text.places_of.Goals as goal

pub returns : goal.returns
returns c =
    let collected = items_from_collect c.collect.result c.collect.ensures.ran (YieldsList-from_range 0 c.args.count c.args.count refl (omega arith)) in
    grind (arith, common_steps)
