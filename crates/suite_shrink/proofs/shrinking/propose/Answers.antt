use Rattle.std.proofs.Common.{List, ℕ, map, get_or, ◌∙◌, sym, ap, subst}
use Rattle.shrink_search.specs.Fewer.{AreFewer}
use Rattle.suite_shrink.proofs.NumberLemmas.{fewer_given}
use Rattle.suite_shrink.proofs.shrinking.propose.Goals as goal

pub returns : goal.returns
returns c =
    let m = c.args.of.now.model.now in
    let first = c.args.first.now in
    let found = c.in_ok-found.found in
    let numbers = c.in_ok-numbers.ensures ∙ ap (λ (places : List ℕ). map (λ number. get_or places number 0) c.as_slice-2.result.now) c.as_slice.ensures.value
    ∙ ap (map (λ number. get_or first.numbers.items number 0)) c.as_slice-2.ensures.value in
    subst (λ (ns : List ℕ). AreFewer m c.args.given.now ns found.rows) (sym numbers)
    (fewer_given m c.args.given.now first.rows found.rows first.numbers.items found.numbers.items c.requires.first c.in_ok-found.ensures)
