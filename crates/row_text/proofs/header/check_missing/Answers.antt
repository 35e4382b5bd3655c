use Rattle.std.proofs.Common.{sym, ◌∙◌, ap}
use Rattle.std.specs.Option.{option_map}
use Rattle.definitions.specs.believed.RowReading.{Missing}
use Rattle.row_text.proofs.ColumnSteps.{missing_is}
use Rattle.row_text.proofs.header.check_missing.Goals as goal

pub returns-in-Some : goal.returns-in-Some
returns-in-Some c = λ m header are. rw c.in-Suite.is (missing_is m header c.args.counts.now are ∙ ap (option_map Missing) (sym c.in-Some.ensures))

pub returns-in-None : goal.returns-in-None
returns-in-None c = λ m header are. rw c.in-Suite.is (missing_is m header c.args.counts.now are ∙ ap (option_map Missing) (sym c.in-None.ensures))
