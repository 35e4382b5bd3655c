use Rattle.std.proofs.Common.{◌∙◌}
use Rattle.atomic_table.proofs.Lists.{set_else}
use Rattle.shared_marks.specs.Seats.{joined}
use Rattle.shared_marks.proofs.SeatLemmas.{item_there}
use Rattle.shared_marks.proofs.StepLemmas.{join_keeps, joined_share, split_keeps}
use Rattle.shared_marks.proofs.laws.facts_are_kept.Goals as goal

pub returns-clause-split : goal.returns-clause-split
returns-clause-split c = λ count number words seats held kept own share.
    split_keeps count number words seats held kept (item_there seats number held own) share

pub returns-clause-join : goal.returns-clause-join
returns-clause-join c = λ count number from words seats held other kept own share apart there.
    join_keeps count number from words seats held other kept (item_there seats number held own) apart
    (set_else seats number from (joined held other) apart ∙ item_there seats from other there) (joined_share held other share)
