use Rattle.std.proofs.Common.{◌≡◌, ℕ, All, length, sym, subst}
use Rattle.std.proofs.lemmas.List.Elements.{All-append}
use Rattle.ipog_grow.proofs.Completed.{fits_behind}
use Rattle.definitions.proofs.SameRows.{distinct_by-all}
use Rattle.ipog_grow.proofs.completing.complete_rows.Goals as goal

pub append-requires : goal.append-requires
append-requires c =
    let n : ℕ = length c.args.asker.now.context.model.params in
    fits_behind n c.args.rows.now c.remove_repeats.new.rows c.requires.long
    (subst (All (λ row. length row ≡ n)) (sym c.in_ok-remove_repeats.ensures)
    (distinct_by-all (λ r. r) (λ row. length row ≡ n) c.complete_each.new.rows c.in_ok-complete_each.ensures.long))

pub returns-clause-long : goal.returns-clause-long
returns-clause-long c =
    let n : ℕ = length c.args.asker.now.context.model.params in
    subst (All (λ row. length row ≡ n)) (sym c.in_ok-append.ensures.ok)
    (All-append (λ row. length row ≡ n) c.args.rows.now c.remove_repeats.new.rows c.requires.long
    (subst (All (λ row. length row ≡ n)) (sym c.in_ok-remove_repeats.ensures)
    (distinct_by-all (λ r. r) (λ row. length row ≡ n) c.complete_each.new.rows c.in_ok-complete_each.ensures.long)))
