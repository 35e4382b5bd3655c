use Rattle.std.proofs.Common.{◌∙◌, ap}
use Rattle.comma_rows.specs.declared.action.Place.{Place}
use Rattle.comma_rows.specs.believed.Reading.{at_end}
use Rattle.comma_rows.proofs.ReadSteps.{read-end, ends-cell}
use Rattle.comma_rows.proofs.comma_cells.cut_at_end.Goals as goal

pub returns-in-LineStart : goal.returns-in-LineStart
returns-in-LineStart c = λ text. read-end _ _ _ text _ c.requires.end ∙ ap (λ (p : Place). at_end p c.args.begun text) c.in-LineStart.is

pub returns-in-InQuotes : goal.returns-in-InQuotes
returns-in-InQuotes c = λ text. read-end _ _ _ text _ c.requires.end ∙ ap (λ (p : Place). at_end p c.args.begun text) c.in-InQuotes.is

pub returns-in-CellStart : goal.returns-in-CellStart
returns-in-CellStart c = λ text. (c.requires.room, ends-cell c.args.place c.args.begun c.args.at text c.args.rest.now c.requires.end c.in-CellStart.is)
