use Rattle.std.proofs.Common.{map, ap}
use Rattle.row_text.specs.RowFiles.{row_seen}
use Rattle.jeldroft_generate.proofs.SeedLemmas.{none_told}
use Rattle.jeldroft_generate.proofs.seeds.read_seeds.Goals as goal

pub returns-in-None-clause-seeds : goal.returns-in-None-clause-seeds
returns-in-None-clause-seeds g c = λ held told.
    none_told c.args.model.now c.args.args.now.delimiter (g.F.Folder.seen c.args.files.now).files c.args.args.now.seeds held _ c.in-None.is told
    (record { rows = ap (map row_seen) c.new.ensures; notes = c.new-in-None.ensures })
