use Rattle.std.proofs.Common.{◌≡◌, ◌++◌, ◌∷◌, [], true, length, get_or, ◌∙◌, sym, ap, subst, refl, arith, rules, eq-eqb, ◌==◌}
use Rattle.std.proofs.lemmas.List.Folds.{list_any_at}
use Rattle.definitions.specs.believed.Demand.{is_among}
use Rattle.feasibility.specs.Live.{ListMarks, AreMarks}
use Rattle.live_sets.specs.Trail.{LiveView}
use Rattle.feasibility.proofs.ListedSets.{marks_more, marks_all}
use Rattle.feasibility.proofs.tree.SearchTree.listed_sets.Goals as goal

pub marks_of-requires : goal.marks_of-requires
marks_of-requires c k d within =
    let list = c.values_of.result.now in
    let here : is_among (get_or c.args.self.now.values c.loop-q.q []) (get_or list k d) ≡ true =
    ap (λ list. is_among list (get_or c.values_of.result.now k d)) (sym c.values_of.ensures)
    ∙ list_any_at (λ w. w == get_or list k d) list k d within (eq-eqb _ _ refl) in
    omega (arith, c.assert_invariant.ensures.values.exist c.loop-q.q (get_or list k d) here, c.count_of.ensures)

pub loop-q-preserved : goal.loop-q-preserved
loop-q-preserved c =
    let pushed : c.push.new.self.items ≡ c.loop-q.sets.items ++ c.in_ok-table.table ∷ [] = search rules in (
      c.loop-q.invariant.0,
      marks_more c.args.self.now.model c.args.self.now.values c.loop-q.q c.loop-q.sets.items c.push.new.self.items c.in_ok-table.table c.loop-q.invariant.1
          pushed
          (subst (λ n. ListMarks (get_or c.args.self.now.values c.loop-q.q []) n c.in_ok-table.table) c.count_of.ensures
          (subst (λ list. ListMarks list c.count_of.result c.in_ok-table.table) c.values_of.ensures c.in_ok-table.ensures)),
    )

pub returns : goal.returns
returns c =
    let whole : c.loop-q.q ≡ length c.args.self.now.model.params = omega (arith, c.loop-q.invariant.0) in
    marks_all c.args.self.now.model c.args.self.now.values c.loop-q.q c.in_ok-all.all whole
    (subst (λ (sets : LiveView). AreMarks c.args.self.now.model c.args.self.now.values c.loop-q.q sets.live) (sym c.in_ok-all.ensures) c.loop-q.invariant.1)
