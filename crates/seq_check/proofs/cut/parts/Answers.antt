use Rattle.std.proofs.Common.{eqb, rules, tests}
use Rattle.std.proofs.lemmas.Iterator.Consumers.{map_from_collect}
use Rattle.std.proofs.lemmas.Iterator.Splits.{YieldsList-from_slice_split}
use Rattle.seq_check.proofs.cut.parts.Goals as goal

pub returns-in-Ok : goal.returns-in-Ok
returns-in-Ok c =
    let parts =
    map_from_collect c.collect-parts.result c.collect-parts.ensures.ran
    (YieldsList-from_slice_split _ (λ byte. eqb byte c.args.mark) c.args.line.now c.split.ensures.rest c.split.ensures.done c.split.ensures.closure (λ x b q k. search (rules, tests))) in
    rw c.in-Ok.is at parts
