use Rattle.std.proofs.Common.{◌∙◌, ap, drop, get_or, sym, take}
use Rattle.std.specs.Prelude.{sum}
use Rattle.std.specs.List.{count_by}
use Rattle.std.proofs.lemmas.List.Sums.{length-filter}
use Rattle.coverage_measure.proofs.covered.count_covered.Goals as goal

pub returns : goal.returns
returns c =
    let marks = c.args.marks.now in
    let sizes = c.args.plan.now.sizes in
    let set = c.args.set in
    c.count_marked.ensures ∙ ap (λ n. count_by (λ mark. mark) (take n (drop c.base.result marks))) c.size.ensures
    ∙ ap (λ base. count_by (λ mark. mark) (take (get_or sizes set 0) (drop base marks))) c.base.ensures
    ∙ sym (length-filter (λ mark. mark) (take (get_or sizes set 0) (drop (sum (take set sizes)) marks)))
