use Rattle.suite_page.proofs.More.{more_none, more_some}
use Rattle.suite_page.proofs.section.put_more.Goals as goal

pub returns-then-count-eq0 : goal.returns-then-count-eq0
returns-then-count-eq0 c = more_none c.args.count c.args.one.now c.args.several.now c.args.page.now c.if-count-eq0.true

pub returns : goal.returns
returns c =
    more_some c.args.count c.args.one.now c.args.several.now c.words_for.result.now c.args.page.now c.put.new.self c.put_counted.new.page c.put-2.new.self
    c.if-count-eq0.false c.words_for.ensures c.in_ok-put.ensures c.in_ok-put_counted.ensures c.in_ok-put-2.ensures
