use Rattle.std.proofs.Common.{◌<◌, length, sym, arith}
use Rattle.ipog_grow.proofs.Removing.{removes-long, removes-next}
use Rattle.ipog_grow.proofs.Rising.{rising_distinct}
use Rattle.ipog_grow.proofs.distinct.remove_repeats.Goals as goal

pub returns-then-are_rising : goal.returns-then-are_rising
returns-then-are_rising c = sym (rising_distinct c.args.rows.now c.requires (c.are_rising.ensures c.if-are_rising.true))

pub keep_row-requires-clause-long : goal.keep_row-requires-clause-long
keep_row-requires-clause-long c =
    let within : c.loop-i.i < length c.args.rows.now = omega (arith, c.loop-i-test.true, c.loop-i.auto.i-end, c.len-i-end.ensures) in
    removes-long c.args.rows.now c.loop-i.rows c.loop-i.known c.loop-i.i c.loop-i.count c.requires c.loop-i.invariant within

pub loop-i-preserved : goal.loop-i-preserved
loop-i-preserved c =
    let within : c.loop-i.i < length c.args.rows.now = omega (arith, c.loop-i-test.true, c.loop-i.auto.i-end, c.len-i-end.ensures) in
    removes-next c.args.rows.now c.loop-i.rows c.loop-i.known c.loop-i.i c.loop-i.count c.requires c.loop-i.invariant within c.keep_row.new.rows
    c.keep_row.new.known c.in_ok-count.count c.in_ok-count.ensures.done c.in_ok-count.ensures.known
