use Rattle.std.proofs.Common.{◌≡◌, ℕ, ◌<◌, ◌+◌, ◌-◌, ◌∙◌, None, is_some, true, false, drop, length, get_or, set, refl, sym, ap, subst, arith}
use Rattle.std.proofs.lemmas.Bool.{not-true, not-false}
use Rattle.std.proofs.lemmas.Grind.{common_steps}
use Rattle.std.proofs.lemmas.List.FromFn.{length-range_with_len}
use Rattle.value_text.proofs.ListLemmas.{length-filter-le}
use Rattle.cov_model.specs.Fits.{FitsModel}
use Rattle.cov_model.specs.believed.Rows.{is_assigned, with_value}
use Rattle.cov_model.specs.believed.Sound.{param_at}
use Rattle.cov_model.specs.believed.Valid.{param_numbers}
use Rattle.definitions.specs.believed.Search.{constrained_params, is_failing, visit}
use Rattle.live_sets.specs.Trail.{mark_at}
use Rattle.feasibility.specs.declared.answer.Answer.TheVariants.{Yes, No, Spent}
use Rattle.feasibility.specs.Answers.{Told}
use Rattle.feasibility.specs.Live.{ShowsLive}
use Rattle.feasibility.specs.Path.{reached}
use Rattle.feasibility.specs.Tree.{is_named}
use Rattle.feasibility.proofs.Deciding.{dead_fails}
use Rattle.feasibility.proofs.Naming.{constrained_exists}
use Rattle.feasibility.proofs.Nodes.{FitsModel-with_value, listed_at, none_of, set_clear}
use Rattle.feasibility.proofs.Visits.{at_node, going_more, going_no, going_spent, going_yes, told_back, told_fails, told_leaf, told_node, told_on, told_over, told_skip}
use Rattle.feasibility.proofs.tree.SearchTree.+visits.Goals as goal

pub visit-get-requires : goal.visit-get-requires
visit-get-requires t c =
    let within : c.args.i < length (constrained_params c.args.self.now.model) = omega arith in
    omega (arith, constrained_exists c.args.self.now.model c.args.i within, ap (λ entry. entry.param) c.constrained_at.ensures, c.requires.fits.as_long)

pub visit-returns-then-i-constrained_len-clause-told : goal.visit-returns-then-i-constrained_len-clause-told
visit-returns-then-i-constrained_len-clause-told t c =
    told_leaf c.args.self.now.model c.args.self.now.values (constrained_params c.args.self.now.model) c.args.i c.args.cells.now c.args.left.now
    c.visit_nodes.new.left c.visit_nodes.result (omega arith) c.requires.node c.visit_nodes.ensures.answer c.visit_nodes.ensures.left

pub visit-returns-then-is_some-clause-told : goal.visit-returns-then-is_some-clause-told
visit-returns-then-is_some-clause-told t c =
    told_skip c.args.self.now.model c.args.self.now.values (constrained_params c.args.self.now.model) c.args.i c.args.cells.now c.visit.new.cells
    c.args.left.now c.visit.new.left c.visit.result (omega arith)
    (ap (λ entry. is_assigned c.args.cells.now entry.param) (sym c.constrained_at.ensures) ∙ ap is_some (sym c.get.ensures) ∙ sym c.is_some.ensures
    ∙ c.if-is_some.true) c.visit.ensures.told

pub visit-returns-then-left-eq0-clause-told : goal.visit-returns-then-left-eq0-clause-told
visit-returns-then-left-eq0-clause-told t c =
    told_over c.args.self.now.model c.args.self.now.values (drop c.args.i (constrained_params c.args.self.now.model)) c.args.cells.now _ c.args.left.now
    (omega arith)

pub visit-values_of-values-requires : goal.visit-values_of-values-requires
visit-values_of-values-requires t c =
    let within : c.args.i < length (constrained_params c.args.self.now.model) = omega arith in
    omega (arith, constrained_exists c.args.self.now.model c.args.i within, ap (λ entry. entry.param) c.constrained_at.ensures)

pub visit-visit_value-requires : goal.visit-visit_value-requires
visit-visit_value-requires t c =
    let within : c.args.i < length (constrained_params c.args.self.now.model) = omega arith in
    let node = at_node c.args.self.now.model c.args.self.now.values c.args.i c.args.cells.now c.constrained_at.result.now c.get.result
    c.values_of-values.result.now within
    c.constrained_at.ensures c.get.ensures (grind (arith, common_steps)) c.values_of-values.ensures in (
      omega (arith, within),
      (
        within,
        (
          listed_at c.values_of-values.result.now _ c.loop-v.v-index node.listed c.loop-v-test.true,
          (
            ap (λ cells. is_assigned cells (get_or (constrained_params c.args.self.now.model) c.args.i 0)) c.loop-v.invariant.cells ∙ node.free,
            (
              subst (FitsModel c.args.self.now.model) (sym c.loop-v.invariant.cells) c.requires.fits,
              (
                ap (is_failing c.args.self.now.model c.args.self.now.values) c.loop-v.invariant.cells ∙ c.requires.node,
                subst (λ cells. ShowsLive c.args.self.now.model c.args.self.now.values cells c.loop-v.sets) (sym c.loop-v.invariant.cells)
                    (subst (ShowsLive c.args.self.now.model c.args.self.now.values c.args.cells.now) (sym c.loop-v.invariant.sets) c.requires.live),
              ),
            ),
          ),
        ),
      ),
    )

pub visit-returns-in-Yes-clause-told : goal.visit-returns-in-Yes-clause-told
visit-returns-in-Yes-clause-told t c =
    let m = c.args.self.now.model in
    let visited = visit m c.args.self.now.values (drop (c.args.i + 1) (constrained_params m)) in
    let reach = reached m c.args.self.now.values (drop (c.args.i + 1) (constrained_params m)) in
    let p = get_or (constrained_params m) c.args.i 0 in
    let v = get_or c.values_of-values.result.now c.loop-v.v-index 0 in
    let node = at_node m c.args.self.now.values c.args.i c.args.cells.now c.constrained_at.result.now c.get.result c.values_of-values.result.now (omega arith)
    c.constrained_at.ensures c.get.ensures (grind (arith, common_steps)) c.values_of-values.ensures in
    told_node m c.args.self.now.values (constrained_params m) c.args.i c.args.cells.now c.visit_value.new.cells c.values_of-values.result.now
    (c.args.left.now - 1) c.args.left.now c.visit_value.new.left Yes
    node.within node.free c.requires.node node.listed (omega arith)
    (going_yes visited reach c.args.cells.now c.visit_value.new.cells p c.loop-v.v-index c.values_of-values.result.now (c.args.left.now - 1) c.loop-v.left
    c.visit_value.new.left c.loop-v-test.true c.loop-v.invariant.going
    (told_on visited reach p v c.loop-v.cells c.args.cells.now c.visit_value.new.cells c.loop-v.left c.visit_value.new.left c.visit_value.result Yes
    c.loop-v.invariant.cells c.in-Yes.is c.visit_value.ensures.told))

pub visit-returns-in-Spent-clause-told : goal.visit-returns-in-Spent-clause-told
visit-returns-in-Spent-clause-told t c =
    let m = c.args.self.now.model in
    let visited = visit m c.args.self.now.values (drop (c.args.i + 1) (constrained_params m)) in
    let reach = reached m c.args.self.now.values (drop (c.args.i + 1) (constrained_params m)) in
    let p = get_or (constrained_params m) c.args.i 0 in
    let v = get_or c.values_of-values.result.now c.loop-v.v-index 0 in
    let node = at_node m c.args.self.now.values c.args.i c.args.cells.now c.constrained_at.result.now c.get.result c.values_of-values.result.now (omega arith)
    c.constrained_at.ensures c.get.ensures (grind (arith, common_steps)) c.values_of-values.ensures in
    told_node m c.args.self.now.values (constrained_params m) c.args.i c.args.cells.now c.visit_value.new.cells c.values_of-values.result.now
    (c.args.left.now - 1) c.args.left.now c.visit_value.new.left Spent
    node.within node.free c.requires.node node.listed (omega arith)
    (going_spent visited reach c.args.cells.now c.visit_value.new.cells p c.loop-v.v-index c.values_of-values.result.now (c.args.left.now - 1) c.loop-v.left
    c.visit_value.new.left c.loop-v-test.true c.loop-v.invariant.going
    (told_on visited reach p v c.loop-v.cells c.args.cells.now c.visit_value.new.cells c.loop-v.left c.visit_value.new.left c.visit_value.result Spent
    c.loop-v.invariant.cells c.in-Spent.is c.visit_value.ensures.told))

pub visit-loop-v-preserved : goal.visit-loop-v-preserved
visit-loop-v-preserved t c =
    let m = c.args.self.now.model in
    let visited = visit m c.args.self.now.values (drop (c.args.i + 1) (constrained_params m)) in
    let reach = reached m c.args.self.now.values (drop (c.args.i + 1) (constrained_params m)) in
    let p = get_or (constrained_params m) c.args.i 0 in
    let v = get_or c.values_of-values.result.now c.loop-v.v-index 0 in
    let told = told_on visited reach p v c.loop-v.cells c.args.cells.now c.visit_value.new.cells c.loop-v.left c.visit_value.new.left c.visit_value.result No
    c.loop-v.invariant.cells c.in-No.is c.visit_value.ensures.told in
    record {
      cells = told.other refl;
      sets = c.visit_value.ensures.sets ∙ c.loop-v.invariant.sets;
      going = going_more visited reach c.args.cells.now c.visit_value.new.cells p c.loop-v.v-index c.values_of-values.result.now (c.args.left.now - 1)
          c.loop-v.left c.visit_value.new.left c.loop-v-test.true c.loop-v.invariant.going told;
    }

pub visit-returns-clause-told : goal.visit-returns-clause-told
visit-returns-clause-told t c =
    let m = c.args.self.now.model in
    let visited = visit m c.args.self.now.values (drop (c.args.i + 1) (constrained_params m)) in
    let reach = reached m c.args.self.now.values (drop (c.args.i + 1) (constrained_params m)) in
    let p = get_or (constrained_params m) c.args.i 0 in
    let node = at_node m c.args.self.now.values c.args.i c.args.cells.now c.constrained_at.result.now c.get.result c.values_of-values.result.now (omega arith)
    c.constrained_at.ensures c.get.ensures (grind (arith, common_steps)) c.values_of-values.ensures in
    told_back _ _ c.args.cells.now c.args.cells.now c.args.cells.now c.loop-v.cells c.args.left.now c.loop-v.left No refl c.loop-v.invariant.cells
    (told_node m c.args.self.now.values (constrained_params m) c.args.i c.args.cells.now c.args.cells.now c.values_of-values.result.now (c.args.left.now - 1)
    c.args.left.now c.loop-v.left No
    node.within node.free c.requires.node node.listed (omega arith)
    (going_no visited reach c.args.cells.now p c.loop-v.v-index c.values_of-values.result.now (c.args.left.now - 1) c.loop-v.left c.loop-v-test.false
    c.loop-v.invariant.going))

pub visit_value-is_live-requires-clause-parameter : goal.visit_value-is_live-requires-clause-parameter
visit_value-is_live-requires-clause-parameter t c =
    subst (λ (n : ℕ). c.constrained_at.result.now.param < n) (sym c.requires.live.shape.as_many)
    (subst (λ (q : ℕ). q < length c.args.self.now.model.params) (sym (ap (λ entry. entry.param) c.constrained_at.ensures))
    (constrained_exists c.args.self.now.model c.args.i c.requires.place))

pub visit_value-is_live-requires-clause-value : goal.visit_value-is_live-requires-clause-value
visit_value-is_live-requires-clause-value t c =
    let m = c.args.self.now.model in
    subst (λ (n : ℕ). c.args.v < n) (sym (c.requires.live.shape.each c.constrained_at.result.now.param))
    (subst (λ (q : ℕ). c.args.v < length (param_at m.params q).values) (sym (ap (λ entry. entry.param) c.constrained_at.ensures))
    (c.assert_invariant.ensures.values.exist (get_or (constrained_params m) c.args.i 0) c.args.v c.requires.value))

pub visit_value-enter-requires-clause-value : goal.visit_value-enter-requires-clause-value
visit_value-enter-requires-clause-value t c =
    c.assert_invariant.ensures.values.exist (get_or (constrained_params c.args.self.now.model) c.args.i 0) c.args.v c.requires.value

pub visit_value-returns-then-not-is_live-clause-told : goal.visit_value-returns-then-not-is_live-clause-told
visit_value-returns-then-not-is_live-clause-told t c =
    let m = c.args.self.now.model in
    let p = get_or (constrained_params m) c.args.i 0 in
    let dead : mark_at c.args.sets.now.live p c.args.v ≡ false =
    ap (λ entry. mark_at c.args.sets.now.live entry.param c.args.v) (sym c.constrained_at.ensures) ∙ sym c.is_live.ensures ∙ c.if-not-is_live.true in
    told_fails m c.args.self.now.values (drop (c.args.i + 1) (constrained_params m)) (with_value c.args.cells.now p c.args.v) _ c.args.cells.now
    c.args.cells.now c.args.left.now c.visit_nodes.new.left c.visit_nodes.result
    (dead_fails m c.args.self.now.values c.args.cells.now p c.args.v c.args.sets.now c.assert_invariant.ensures.values c.requires.live
    (constrained_exists m c.args.i c.requires.place) c.requires.free c.requires.value dead)
    c.visit_nodes.ensures.answer c.visit_nodes.ensures.left refl

pub visit_value-returns-then-not-enter-clause-told : goal.visit_value-returns-then-not-enter-clause-told
visit_value-returns-then-not-enter-clause-told t c =
    let m = c.args.self.now.model in
    let p = get_or (constrained_params m) c.args.i 0 in
    let back : c.clear_cell.new.self ≡ c.args.cells.now =
    c.clear_cell.ensures ∙ ap (λ cells. set cells c.constrained_at.result.now.param None) c.enter.ensures.cells
    ∙ ap (λ entry. set (with_value c.args.cells.now p c.args.v) entry.param None) c.constrained_at.ensures
    ∙ set_clear c.args.cells.now p c.args.v (none_of (get_or c.args.cells.now p None) c.requires.free) in
    let params = drop (c.args.i + 1) (constrained_params m) in
    told_fails m c.args.self.now.values params (with_value c.args.cells.now p c.args.v)
    (reached m c.args.self.now.values params (with_value c.args.cells.now p c.args.v)) c.args.cells.now c.clear_cell.new.self c.args.left.now c.visit_nodes-then-not-enter.new.left
    c.visit_nodes-then-not-enter.result (not-false (is_failing m c.args.self.now.values (with_value c.args.cells.now p c.args.v))
    (sym c.enter.ensures.fails ∙ c.if-not-enter.true))
    c.visit_nodes-then-not-enter.ensures.answer c.visit_nodes-then-not-enter.ensures.left back

pub visit_value-overflow_add-i : goal.visit_value-overflow_add-i
visit_value-overflow_add-i t c =
    let m = c.args.self.now.model in
    omega (
      arith,
      c.requires.place,
      length-filter-le (is_named m) (param_numbers m),
      length-range_with_len 0 (length m.params),
      c.assert_invariant.ensures.sound.few,
    )

pub visit_value-visit-answer-requires : goal.visit_value-visit-answer-requires
visit_value-visit-answer-requires t c =
    let m = c.args.self.now.model in
    let p = get_or (constrained_params m) c.args.i 0 in
    let entered : c.enter.result ≡ true = c.if-not-enter.false in
    let row = sym c.enter.ensures.cells in (
      omega (arith, c.requires.place),
      (
        omega (arith, c.requires.place),
        (
          subst (FitsModel m) row (FitsModel-with_value m c.args.cells.now p c.args.v c.requires.fits (constrained_exists m c.args.i c.requires.place)
              (c.assert_invariant.ensures.values.exist p c.args.v c.requires.value)),
          (
            ap (is_failing m c.args.self.now.values) (sym row)
                ∙ not-true (is_failing m c.args.self.now.values (with_value c.args.cells.now p c.args.v)) (sym c.enter.ensures.fails ∙ entered),
            subst (λ cells. ShowsLive m c.args.self.now.values cells c.enter.new.sets) row (c.enter.ensures.live entered),
          ),
        ),
      ),
    )

pub visit_value-returns-then-eq-clause-told : goal.visit_value-returns-then-eq-clause-told
visit_value-returns-then-eq-clause-told t c =
    let m = c.args.self.now.model in
    let lists = c.args.self.now.values in
    let params = drop (c.args.i + 1) (constrained_params m) in
    let p = get_or (constrained_params m) c.args.i 0 in
    let told = subst (λ cells. Told (visit m lists params cells) (reached m lists params cells) cells c.visit-answer.new.cells c.args.left.now
    c.visit-answer.new.left c.visit-answer.result) c.enter.ensures.cells
    c.visit-answer.ensures.told in
    let no : c.visit-answer.result ≡ No = grind (arith, common_steps) in
    told_back _ _ (with_value c.args.cells.now p c.args.v) c.args.cells.now c.visit-answer.new.cells c.clear_cell-then-eq.new.self c.args.left.now
    c.visit-answer.new.left c.visit-answer.result no
    (c.clear_cell-then-eq.ensures ∙ ap (λ cells. set cells c.constrained_at.result.now.param None) (told.other no)
    ∙ ap (λ entry. set (with_value c.args.cells.now p c.args.v) entry.param None) c.constrained_at.ensures
    ∙ set_clear c.args.cells.now p c.args.v (none_of (get_or c.args.cells.now p None) c.requires.free)) told
