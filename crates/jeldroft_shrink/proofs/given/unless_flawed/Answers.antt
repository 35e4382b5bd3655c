use Rattle.std.proofs.Common.{inr, sym, ap}
use Rattle.row_text.specs.RowFiles.{seeds_seen}
use Rattle.jeldroft_shrink.specs.believed.Reading.{unless_flawed}
use Rattle.jeldroft_shrink.proofs.Flaws.{none_flawed, rows_valid}
use Rattle.jeldroft_shrink.proofs.given.unless_flawed.Goals as goal

pub returns-in-Some-clause-reads : goal.returns-in-Some-clause-reads
returns-in-Some-clause-reads c = inr (ap (λ flaw. unless_flawed flaw (seeds_seen c.args.file)) (sym c.in-Some.ensures))

pub returns-clause-valid : goal.returns-clause-valid
returns-clause-valid c =
    rows_valid c.args.model.now c.args.file.rows c.requires (none_flawed c.args.model.now (seeds_seen c.args.file) (sym c.in-None.ensures))
