use Rattle.std.proofs.Common.{◌&&◌, ◌||◌, ◌∙◌, ap, sym, eqb, drop, get_or, arith}
use Rattle.std.specs.List.{list_any}
use Rattle.std.proofs.lemmas.List.{take_rest}
use Rattle.seq_check.specs.believed.Orders.{is_arrow, steps}
use Rattle.seq_check.proofs.StepLemmas.{arrow_step}
use Rattle.seq_check.proofs.report_line.+is_step.Goals as goal

pub returns-then-begins_step : goal.returns-then-begins_step
returns-then-begins_step t c =
    let xs = c.args.sequence.now in
    let rest = take_rest xs 1 in
    let first = ap (λ l. eqb (get_or xs 0 0) c.args.from && list_any (λ other. eqb other c.args.to) l) (sym rest) ∙ sym c.begins_step.ensures ∙ c.if-begins_step.true in
    sym (arrow_step xs c.args.from c.args.to (omega arith) ∙ ap (λ b. b || is_arrow (steps (drop 1 xs)) (c.args.from, c.args.to)) first)

pub returns-else-begins_step : goal.returns-else-begins_step
returns-else-begins_step t c =
    let xs = c.args.sequence.now in
    let rest = take_rest xs 1 in
    let first = ap (λ l. eqb (get_or xs 0 0) c.args.from && list_any (λ other. eqb other c.args.to) l) (sym rest) ∙ sym c.begins_step.ensures ∙ c.if-begins_step.false in
    c.is_step.ensures ∙ ap (λ l. is_arrow (steps l) (c.args.from, c.args.to)) rest
    ∙ sym (arrow_step xs c.args.from c.args.to (omega arith) ∙ ap (λ b. b || is_arrow (steps (drop 1 xs)) (c.args.from, c.args.to)) first)
