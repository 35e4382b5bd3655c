use Rattle.std.proofs.Common.{◌∙◌}
use Rattle.row_text.specs.RowFiles.{suite_seen}
use Rattle.suite_facts.proofs.CurveLemmas.{covered_is_counted, covered_looked, covered_more}
use Rattle.suite_facts.proofs.curve.cover_next.Goals as goal

pub count_places-requires-clause-table : goal.count_places-requires-clause-table
count_places-requires-clause-table c = c.mark_served.ensures.table ∙ c.requires.holds.table

pub count_places-requires-clause-whole : goal.count_places-requires-clause-whole
count_places-requires-clause-whole c =
    (covered_more c.args.model.now (suite_seen c.args.file.now) c.args.from c.args.to c.args.table.now.table c.args.seat.now c.mark_served.new.seat c.requires.ordered
    c.mark_served.ensures c.requires.holds).whole

pub returns-clause-counts : goal.returns-clause-counts
returns-clause-counts c =
    let rows = suite_seen c.args.file.now in
    let own = c.args.table.now.table in
    c.count_places.ensures.count
    ∙ covered_is_counted c.args.model.now rows c.args.to c.args.places own c.mark_served.new.seat (c.requires.places ∙ c.requires.bits)
    (covered_more c.args.model.now rows c.args.from c.args.to own c.args.seat.now c.mark_served.new.seat c.requires.ordered c.mark_served.ensures c.requires.holds)

pub returns-clause-holds : goal.returns-clause-holds
returns-clause-holds c =
    let rows = suite_seen c.args.file.now in
    let own = c.args.table.now.table in
    covered_looked c.args.model.now rows c.args.to own c.mark_served.new.seat c.count_places.new.seat c.count_places.ensures.kept
    (covered_more c.args.model.now rows c.args.from c.args.to own c.args.seat.now c.mark_served.new.seat c.requires.ordered c.mark_served.ensures c.requires.holds)
