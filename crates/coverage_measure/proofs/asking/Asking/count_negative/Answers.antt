use Rattle.std.proofs.Common.{◌≡◌, ◌+◌, ◌<◌, ◌≤◌, All, length, ◌∙◌, sym, ap, subst, arith}
use Rattle.std.proofs.lemmas.List.FromFn.{length-range_with_len}
use Rattle.std.proofs.lemmas.Result.{err_from_is_err_and}
use Rattle.cov_model.specs.believed.Slices.{value_numbers}
use Rattle.cov_model.specs.believed.Sound.{ModelView, no_param, param_at}
use Rattle.definitions.specs.believed.Figures.{all_rows, is_served}
use Rattle.definitions.specs.believed.Search.{first_over}
use Rattle.feasibility.specs.Tree.{no_values}
use Rattle.tuple_index.proofs.TupleLemmas.{among_below}
use Rattle.coverage_measure.specs.Asking.{IsFor, tally}
use Rattle.coverage_measure.proofs.CountLemmas.{negative_by_value, negative_few, tuples_with}
use Rattle.coverage_measure.proofs.SliceCounts.{AreServed, negative_ends, served_all, served_few, served_more, value_number, values_are}
use Rattle.coverage_measure.proofs.SliceCounts.{with_negative, with_positive}
use Rattle.coverage_measure.proofs.asking.Asking.count_negative.Goals as goal
use Rattle.coverage_measure.proofs.asking.Asking.count_negative.Goals.{then-is_negative+in_ok-count, else-is_negative}

pub bounds-as_slice-q : goal.bounds-as_slice-q
bounds-as_slice-q c =
    let m : ModelView = c.args.self.now.model.now in
    let low = among_below c.args.members.now 0 (length m.params) c.args.q c.requires.rising c.requires.member in
    omega (arith, low, ap length (c.as_slice.ensures ∙ c.params.ensures.value))

pub overflow_cast-values : goal.overflow_cast-values
overflow_cast-values c =
    let m : ModelView = c.args.self.now.model.now in
    let low = among_below c.args.members.now 0 (length m.params) c.args.q c.requires.rising c.requires.member in
    let count = values_are m c.args.q c.as_slice.result.now c.index-as_slice-q.result low (c.as_slice.ensures ∙ c.params.ensures.value) in
    omega (arith, count, c.len-values.ensures, (c.params.ensures.sound.params c.args.q no_param low).few)

pub is_negative-requires-clause-parameter : goal.is_negative-requires-clause-parameter
is_negative-requires-clause-parameter c =
    let m : ModelView = c.args.self.now.model.now in
    among_below c.args.members.now 0 (length m.params) c.args.q c.requires.rising c.requires.member

pub is_negative-requires-clause-value : goal.is_negative-requires-clause-value
is_negative-requires-clause-value c =
    let m : ModelView = c.args.self.now.model.now in
    let low = among_below c.args.members.now 0 (length m.params) c.args.q c.requires.rising c.requires.member in
    let count = values_are m c.args.q c.as_slice.result.now c.index-as_slice-q.result low (c.as_slice.ensures ∙ c.params.ensures.value) in
    omega (arith, count, c.len-values.ensures, c.loop-v-test.true)

pub returns-in_err-count-clause-ends : goal.returns-in_err-count-clause-ends
returns-in_err-count-clause-ends c =
    let told = err_from_is_err_and c.from_residual.result c.from_residual.ensures.1 in
    let m : ModelView = c.args.self.now.model.now in
    let q = c.args.q in
    let low = among_below c.args.members.now 0 (length m.params) q c.requires.rising c.requires.member in
    let count = values_are m q c.as_slice.result.now c.index-as_slice-q.result low (c.as_slice.ensures ∙ c.params.ensures.value) in
    let within : c.loop-v.v < length (param_at m.params q).values = omega (arith, count, c.len-values.ensures, c.loop-v-test.true) in
    rw (told.1, told.2)
    (negative_ends m c.args.self.now.prefs.now c.args.self.now.effort c.args.members.now q c.loop-v.v c.loop-v.count c.in_err-count.field-0.0 within
    (sym c.is_negative.ensures ∙ c.if-is_negative.true) c.loop-v.invariant.2 c.in_err-count.ensures.ends)

pub overflow_add-count : goal.overflow_add-count
overflow_add-count c =
    let m : ModelView = c.args.self.now.model.now in
    let q = c.args.q in
    let members = c.args.members.now in
    let low = among_below members 0 (length m.params) q c.requires.rising c.requires.member in
    let count = values_are m q c.as_slice.result.now c.index-as_slice-q.result low (c.as_slice.ensures ∙ c.params.ensures.value) in
    let at = value_number m q c.loop-v.v (omega (arith, count, c.len-values.ensures, c.loop-v-test.true)) in
    let few = served_few m c.args.self.now.prefs.now c.args.self.now.effort (tuples_with m members q)
    (value_numbers m q) c.loop-v.v c.loop-v.count c.in_ok-count.field-0 c.loop-v.v
    at.within at.is c.loop-v.invariant.2
    (c.in_ok-count.ensures.count ∙ sym (ap (tally (is_served m (all_rows m))) (with_negative m members q c.loop-v.v
    (sym c.is_negative.ensures ∙ c.if-is_negative.true)))) in
    omega (arith, few, ap length (negative_by_value m members q), negative_few m members q c.requires.rising c.requires.member, c.requires.few)

pub loop-v-preserved : goal.loop-v-preserved
loop-v-preserved c =
    let m : ModelView = c.args.self.now.model.now in
    let pref = c.args.self.now.prefs.now in
    let effort = c.args.self.now.effort in
    let q = c.args.q in
    let v = c.loop-v.v in
    let members = c.args.members.now in
    let rows = tuples_with m members q in
    let served = is_served m (all_rows m) in
    let low = among_below members 0 (length m.params) q c.requires.rising c.requires.member in
    let count = values_are m q c.as_slice.result.now c.index-as_slice-q.result low (c.as_slice.ensures ∙ c.params.ensures.value) in
    let at = value_number m q v (omega (arith, count, c.len-values.ensures, c.loop-v-test.true)) in
    let cells : c.if-is_negative.cells ≡ no_values m = elim c.if-is_negative.branch [
      | then-is_negative+in_ok-count w ↦ w.cells-is ∙ w.in_ok-count.ensures.cells ∙ c.loop-v.invariant.0
      | else-is_negative w ↦ w.cells-is ∙ c.loop-v.invariant.0
    ] in
    let kept : All (IsFor m pref effort) c.if-is_negative.kept.items = elim c.if-is_negative.branch [
      | then-is_negative+in_ok-count w ↦ subst (λ kept. All (IsFor m pref effort) kept.items) (sym w.kept-is) w.in_ok-count.ensures.kept
      | else-is_negative w ↦ subst (λ kept. All (IsFor m pref effort) kept.items) (sym w.kept-is) c.loop-v.invariant.1
    ] in
    let counted : AreServed m pref effort rows (value_numbers m q) (v + 1) c.if-is_negative.count = elim c.if-is_negative.branch [
      | then-is_negative+in_ok-count w ↦
          let with_it = with_negative m members q v (sym c.is_negative.ensures ∙ w.if-is_negative.true) in
          served_more m pref effort rows (value_numbers m q) v c.loop-v.count w.in_ok-count.field-0 c.if-is_negative.count v at.within at.is
          c.loop-v.invariant.2
          (w.in_ok-count.ensures.count ∙ sym (ap (tally served) with_it)) (ap (first_over m pref effort) with_it ∙ w.in_ok-count.ensures.ends) w.count-is
      | else-is_negative w ↦
          let without = with_positive m members q v (sym c.is_negative.ensures ∙ w.if-is_negative.false) in
          served_more m pref effort rows (value_numbers m q) v c.loop-v.count 0 c.if-is_negative.count v at.within at.is c.loop-v.invariant.2
          (sym (ap (tally served) without)) (ap (first_over m pref effort) without) (omega (arith, w.count-is))
    ] in
    (cells, kept, counted)

pub returns-clause-count : goal.returns-clause-count
returns-clause-count c =
    let m : ModelView = c.args.self.now.model.now in
    let q = c.args.q in
    let low = among_below c.args.members.now 0 (length m.params) q c.requires.rising c.requires.member in
    let count = values_are m q c.as_slice.result.now c.index-as_slice-q.result low (c.as_slice.ensures ∙ c.params.ensures.value) in
    let past : length (value_numbers m q) ≤ c.loop-v.v = omega (
      arith,
      count,
      c.len-values.ensures,
      c.loop-v-test.false,
      length-range_with_len 0
          (length (param_at m.params q).values),
    ) in
    (served_all m c.args.self.now.prefs.now c.args.self.now.effort (tuples_with m c.args.members.now q)
    (value_numbers m q) c.loop-v.v c.loop-v.count past c.loop-v.invariant.2).0
    ∙ ap (tally (is_served m (all_rows m))) (sym (negative_by_value m c.args.members.now q))

pub returns-clause-ends : goal.returns-clause-ends
returns-clause-ends c =
    let m : ModelView = c.args.self.now.model.now in
    let q = c.args.q in
    let low = among_below c.args.members.now 0 (length m.params) q c.requires.rising c.requires.member in
    let count = values_are m q c.as_slice.result.now c.index-as_slice-q.result low (c.as_slice.ensures ∙ c.params.ensures.value) in
    let past : length (value_numbers m q) ≤ c.loop-v.v = omega (
      arith,
      count,
      c.len-values.ensures,
      c.loop-v-test.false,
      length-range_with_len 0
          (length (param_at m.params q).values),
    ) in
    ap (first_over m c.args.self.now.prefs.now c.args.self.now.effort) (negative_by_value m c.args.members.now q)
    ∙ (served_all m c.args.self.now.prefs.now c.args.self.now.effort (tuples_with m c.args.members.now q)
    (value_numbers m q) c.loop-v.v c.loop-v.count past c.loop-v.invariant.2).1
