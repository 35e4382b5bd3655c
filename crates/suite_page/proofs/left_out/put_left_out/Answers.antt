use Rattle.std.proofs.Common.{◌∙◌, sym, arith, eqb-true, length}
use Rattle.std.proofs.lemmas.Bool.{eqb-false}
use Rattle.suite_page.proofs.Grouping.{none_written, section_written}
use Rattle.suite_page.proofs.left_out.put_left_out.Goals as goal

pub returns-then-is_empty : goal.returns-then-is_empty
returns-then-is_empty c =
    none_written c.args.omissions.now c.args.more c.args.page.now (eqb-true _ _ (sym c.is_empty.ensures ∙ c.if-is_empty.true))

pub returns : goal.returns
returns c =
    let some = eqb-false (length c.args.omissions.now) 0 (sym c.is_empty.ensures ∙ c.if-is_empty.false) in
    section_written c.args.omissions.now c.args.more c.args.page.now c.put_left_out_opening.new.page c.put_groups.new.page c.put_left_out_closing.new.page
    (omega (arith, some)) c.in_ok-put_left_out_opening.ensures c.in_ok-put_groups.ensures c.in_ok-put_left_out_closing.ensures
