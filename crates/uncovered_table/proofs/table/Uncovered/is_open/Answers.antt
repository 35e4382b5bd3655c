use Rattle.std.proofs.Common.{ℕ, ◌∙◌, ap, false, get_or, subst, sym}
use Rattle.uncovered_table.specs.Open.{IsPlaceOf, is_open}
use Rattle.uncovered_table.proofs.OpenLemmas.{open_bit}
use Rattle.uncovered_table.proofs.table.Uncovered.is_open.Goals as goal

pub returns : goal.returns
returns c =
    let v = c.self.inside.sets in
    let place : ℕ × ℕ = (c.args.set, c.args.rank) in
    c.is_set.ensures ∙ ap (λ k. get_or c.self.inside.bits k false) c.bit.ensures.value
    ∙ sym (open_bit v.model v.slice c.self.inside.bits place (subst (λ table. IsPlaceOf table place) (sym c.self.view_is) c.requires))
    ∙ ap (λ table. is_open table place) c.self.view_is
