use Rattle.std.proofs.Common.{◌++◌, [], ◌∷◌, List, Option, ℕ, ◌+◌, ◌∙◌, sym, ap, subst}
use Rattle.std.proofs.lemmas.Bool.{not-false, not-true}
use Rattle.distinct_rows.specs.Known.{is_known_row, with_row}
use Rattle.suite_shrink.specs.FirstRows.{AreFirst}
use Rattle.suite_shrink.proofs.FirstLemmas.{first_known, first_new}
use Rattle.suite_shrink.proofs.first_rows.add_row.Goals as goal

pub returns-then-not-branch : goal.returns-then-not-branch
returns-then-not-branch c =
    let known = c.args.known.now in
    first_known c.args.model.now c.args.given.now c.args.number known c.add.new.self c.args.first.now.numbers.items c.args.first.now.rows c.requires.before
    c.requires.number (c.in_ok-add.ensures.rows ∙ ap (with_row known) c.row.ensures)
    (ap (is_known_row known) (sym c.row.ensures) ∙ not-false (is_known_row known c.row.result.now) (sym c.in_ok-add.ensures.added ∙ c.if-not-branch.true))

pub returns : goal.returns
returns c =
    let m = c.args.model.now in
    let given : List (List (Option ℕ)) = c.args.given.now in
    let known = c.args.known.now in
    let numbers : List ℕ = c.args.first.now.numbers.items in
    let rows = c.args.first.now.rows in
    let first = first_new m given c.args.number known c.add.new.self numbers rows c.requires.before c.requires.number
    (c.in_ok-add.ensures.rows ∙ ap (with_row known) c.row.ensures) c.requires.fits
    (ap (is_known_row known) (sym c.row.ensures) ∙ not-true (is_known_row known c.row.result.now) (sym c.in_ok-add.ensures.added ∙ c.if-not-branch.false)) in
    subst (λ (ns : List ℕ). AreFirst m given (c.args.number + 1) c.add.new.self ns c.push.new.self) (sym c.in_ok-push-2.ensures.items)
    (subst (AreFirst m given (c.args.number + 1) c.add.new.self (numbers ++ c.args.number ∷ []))
    (sym (c.in_ok-push.ensures.ok ∙ ap (λ r. rows ++ r ∷ []) c.row-2.ensures)) first)
