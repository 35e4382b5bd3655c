use Rattle.std.proofs.Common.{◌≡◌, length, arith}
use Rattle.compiled_rules.proofs.TermLemmas.{one_is_code}
use Rattle.compiled_rules.proofs.compile.compile_one.Goals as goal

pub returns-clause-code : goal.returns-clause-code
returns-clause-code c =
    let start : c.len-start.result ≡ length c.args.table.now = grind arith in
    one_is_code c.args.model.now c.args.term.now c.args.room.now c.args.p c.len-start.result c.args.table.now c.push_row.new.table start
    c.in_ok-push_row.ensures.row c.requires.named c.requires.within c.requires.fits
