use Rattle.uncovered_table.proofs.WordLemmas.{set-bit}
use Rattle.uncovered_table.proofs.words.set_bit.Goals as goal

pub returns-clause-each : goal.returns-clause-each
returns-clause-each c =
    λ k. set-bit c.args.words.now c.args.place k c.requires
