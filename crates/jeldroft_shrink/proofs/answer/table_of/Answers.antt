use Rattle.suite_shrink.proofs.ShrunkLemmas.{valid_fit}
use Rattle.jeldroft_shrink.proofs.Tables.{table_is}
use Rattle.jeldroft_shrink.proofs.answer.table_of.Goals as goal

pub suite_text-requires : goal.suite_text-requires
suite_text-requires c = valid_fit c.args.model.now c.in_ok-fewer.fewer.rows c.in_ok-fewer.ensures.shrunk.valid

pub returns-clause-table : goal.returns-clause-table
returns-clause-table c =
    table_is c.args.form c.args.model.now c.args.seeds.now c.args.given.now c.in_ok-fewer.fewer.rows _
    c.in_ok-fewer.ensures.shrunk c.in_ok-text.ensures c.len-2.ensures c.len.ensures c.in_ok-fewer.ensures.least
