use Rattle.std.proofs.Common.{◌≡◌, ◌+◌, [], ◌∷◌, ◌∙◌, sym, ap, subst, arith}
use Rattle.std.specs.Prelude.{◌==◌, sum, take}
use Rattle.tuple_index.specs.Plan.{plan_of, set_at}
use Rattle.shared_marks.specs.Adding.{Marks}
use Rattle.shared_marks.specs.Served.{IsServedRank, base_of, served_between}
use Rattle.shared_marks.proofs.AddingLemmas.{marks_none, marks_one}
use Rattle.shared_marks.proofs.PlaceLemmas.{one_set, place_within}
use Rattle.shared_marks.proofs.served.mark_set.Goals as goal

pub mark_lightly-requires-clause-place : goal.mark_lightly-requires-clause-place
mark_lightly-requires-clause-place c =
    let m = c.args.model.now in
    let is = subst (IsServedRank m (set_at (plan_of m) c.args.set) c.args.cells.now) c.in-Some.is c.served_rank.ensures in
    let base : c.base.result ≡ base_of m c.args.set = c.base.ensures ∙ ap (λ p. sum (take c.args.set p.sizes)) c.requires.plan in
    omega (arith, place_within m c.args.set c.in-Some.rank c.requires.set is.within, base, c.requires.bits)

pub returns-in-Some : goal.returns-in-Some
returns-in-Some c =
    let m = c.args.model.now in
    let row = c.args.cells.now in
    let rank = c.in-Some.rank in
    let is = subst (IsServedRank m (set_at (plan_of m) c.args.set) row) c.in-Some.is c.served_rank.ensures in
    let base : c.base.result ≡ base_of m c.args.set = c.base.ensures ∙ ap (λ p. sum (take c.args.set p.sizes)) c.requires.plan in
    let adds = served_between m (row ∷ []) (base_of m c.args.set) (base_of m (c.args.set + 1)) in
    subst (Marks adds c.args.seat.now) (sym c.mark_lightly.ensures)
    (marks_one adds c.args.seat.now (c.base.result + rank) (λ place.
    one_set m row c.args.set _ c.requires.test c.requires.set is place ∙ ap (λ n. n + rank == place) (sym base)))

pub returns-in-None : goal.returns-in-None
returns-in-None c =
    let m = c.args.model.now in
    let row = c.args.cells.now in
    let is = subst (IsServedRank m (set_at (plan_of m) c.args.set) row) c.in-None.is c.served_rank.ensures in
    marks_none (served_between m (row ∷ []) (base_of m c.args.set) (base_of m (c.args.set + 1))) c.args.seat.now
    (one_set m row c.args.set _ c.requires.test c.requires.set is)
