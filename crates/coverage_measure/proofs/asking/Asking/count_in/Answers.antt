use Rattle.std.proofs.Common.{◌≡◌, IfOk, length, ap, subst, arith}
use Rattle.cov_model.specs.believed.Sound.{ModelView}
use Rattle.feasibility.specs.Ends.{Ends}
use Rattle.coverage_measure.proofs.AskLemmas.{are_tuples, slice_at}
use Rattle.coverage_measure.proofs.QuestionLemmas.{slice_few}
use Rattle.coverage_measure.proofs.asking.Asking.count_in.Goals as goal

pub count_from-requires-clause-few : goal.count_from-requires-clause-few
count_from-requires-clause-few c =
    let m : ModelView = c.args.self.now.model.now in
    let own = slice_at c.place_of.new.kept.items c.args.slice c.in_ok-place.place c.index_mut.result.now c.in_ok-place.ensures.place
    c.index_mut.ensures.value in
    let are = are_tuples m c.args.self.now.prefs.now c.args.self.now.effort c.args.members.now c.args.slice c.index_mut.result.now.slice c.args.cells.now
    c.assert_invariant.ensures c.requires.orders c.requires.slice c.requires.rising c.requires.part own c.requires.cells in
    omega (arith, ap length are.rows, slice_few m c.args.members.now c.args.slice c.requires.slice, c.requires.few)

pub returns-clause-count : goal.returns-clause-count
returns-clause-count c =
    let m : ModelView = c.args.self.now.model.now in
    let own = slice_at c.place_of.new.kept.items c.args.slice c.in_ok-place.place c.index_mut.result.now c.in_ok-place.ensures.place
    c.index_mut.ensures.value in
    let are = are_tuples m c.args.self.now.prefs.now c.args.self.now.effort c.args.members.now c.args.slice c.index_mut.result.now.slice c.args.cells.now
    c.assert_invariant.ensures c.requires.orders c.requires.slice c.requires.rising c.requires.part own c.requires.cells in
    subst (λ n. IfOk c.count_from.result (λ count. count ≡ n)) are.count c.count_from.ensures.count

pub returns-clause-ends : goal.returns-clause-ends
returns-clause-ends c =
    let m : ModelView = c.args.self.now.model.now in
    let own = slice_at c.place_of.new.kept.items c.args.slice c.in_ok-place.place c.index_mut.result.now c.in_ok-place.ensures.place
    c.index_mut.ensures.value in
    let are = are_tuples m c.args.self.now.prefs.now c.args.self.now.effort c.args.members.now c.args.slice c.index_mut.result.now.slice c.args.cells.now
    c.assert_invariant.ensures c.requires.orders c.requires.slice c.requires.rising c.requires.part own c.requires.cells in
    subst (λ over. Ends c.count_from.result over) are.over c.count_from.ensures.ends
