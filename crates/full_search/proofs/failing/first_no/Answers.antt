use Rattle.std.proofs.Common.{◌≡◌, ℕ, ◌+◌, ◌∙◌, None, false, find, sym, subst, arith}
use Rattle.std.specs.List.{range_with_len}
use Rattle.feasibility.specs.Live.{no_on}
use Rattle.feasibility.proofs.Leaves.{no_found, number_passed}
use Rattle.full_search.proofs.failing.first_no.Goals as goal

pub loop-i-preserved : goal.loop-i-preserved
loop-i-preserved c =
    let test = no_on c.args.tree.now.model c.args.cells.now in
    let no : test (c.loop-i.i + 1) ≡ false = sym c.is_no.ensures ∙ c.if-is_no.false in
    (c.loop-i.invariant.0, number_passed test c.loop-i.i c.loop-i.invariant.1 no)

pub returns-clause-broken : goal.returns-clause-broken
returns-clause-broken c =
    no_found c.args.tree.now.model c.args.cells.now
    (subst (λ (n : ℕ). find (no_on c.args.tree.now.model c.args.cells.now) (range_with_len 1 n) ≡ None) (omega (arith, c.loop-i.invariant.0))
    c.loop-i.invariant.1)
