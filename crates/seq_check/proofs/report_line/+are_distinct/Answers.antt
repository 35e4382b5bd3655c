use Rattle.std.proofs.Common.{◌&&◌, ◌∙◌, ap, sym, not, eqb, drop, get_or, arith}
use Rattle.std.specs.List.{list_all}
use Rattle.std.proofs.lemmas.List.{take_rest}
use Rattle.seq_check.specs.believed.Orders.{steps}
use Rattle.seq_check.proofs.StepLemmas.{apart, distinct_step}
use Rattle.seq_check.proofs.report_line.+are_distinct.Goals as goal

pub returns-then-not-is_apart : goal.returns-then-not-is_apart
returns-then-not-is_apart t c =
    let xs = c.args.sequence.now in
    let rest = take_rest xs 1 in
    let first = ap (list_all (λ other. not (eqb (get_or xs 0 0) other))) (sym rest) ∙ sym c.is_apart.ensures ∙ c.if-not-is_apart.true in
    sym (distinct_step xs (omega arith) ∙ ap (λ b. b && list_all apart (steps (drop 1 xs))) first)

pub returns-else-not-is_apart : goal.returns-else-not-is_apart
returns-else-not-is_apart t c =
    let xs = c.args.sequence.now in
    let rest = take_rest xs 1 in
    let first = ap (list_all (λ other. not (eqb (get_or xs 0 0) other))) (sym rest) ∙ sym c.is_apart.ensures ∙ c.if-not-is_apart.false in
    c.are_distinct.ensures ∙ ap (λ l. list_all apart (steps l)) rest ∙ sym (distinct_step xs (omega arith) ∙ ap (λ b. b && list_all apart (steps (drop 1 xs))) first)
