use Rattle.std.proofs.Common.{◌≡◌, ◌-◌, ◌++◌, [], map, filter, take, drop, length, get_or, ap, sym, subst, ◌∙◌, ◌∷◌, arith}
use Rattle.std.proofs.lemmas.List.{append-nil, length-drop, length-take-le}
use Rattle.std.proofs.lemmas.List.Elements.{All-filter, All-same}
use Rattle.cov_model.specs.Tuples.{IsRising}
use Rattle.suspect_tuples.specs.Edges.{edges_behind}
use Rattle.suspect_tuples.specs.believed.Suspects.{gives, tuples_on}
use Rattle.suspect_tuples.specs.Told.{found_seen}
use Rattle.suspect_tuples.proofs.EdgeLemmas.{edges_of_none}
use Rattle.suspect_tuples.proofs.WalkLemmas.{value_step}
use Rattle.suspect_tuples.proofs.SetLemmas.{all_values, no_items, param_exists, params_pushed, rising_pairs, whole_params, without_pushed}
use Rattle.suspect_tuples.proofs.edges.+add_edges.Goals as goal

pub returns-then-len-eq0-clause-found : goal.returns-then-len-eq0-clause-found
returns-then-len-eq0-clause-found t c =
    let none = no_items c.args.rows.now (omega (arith, c.if-len-eq0.true, c.len.ensures)) in
    sym (append-nil (map found_seen c.args.found.now))
    ∙ ap (λ edges. map found_seen c.args.found.now ++ edges) (sym (ap (λ rows. edges_behind c.args.passing.now rows c.args.before.now.items (tuples_on c.args.model.now c.args.set.now)) none
    ∙ edges_of_none c.args.passing.now c.args.before.now.items (tuples_on c.args.model.now c.args.set.now)))

pub add_edge-requires-clause-rising : goal.add_edge-requires-clause-rising
add_edge-requires-clause-rising t c =
    let whole = whole_params c.args.model.now c.args.before.now.items c.args.set.now c.requires.params c.in_default.len_below in
    subst IsRising (sym c.deref.ensures.value) (rising_pairs c.args.before.now.items whole.rising)

pub value_count-count-requires : goal.value_count-count-requires
value_count-count-requires t c =
    let exists = param_exists c.args.model.now (map (λ pair. pair.0) c.args.before.now.items) c.args.set.now c.requires.params c.in-len1-up.len_at_least in
    omega (arith, exists)

pub add_edges-requires : goal.add_edges-requires
add_edges-requires t c =
    let m = c.args.model.now in
    let p = get_or c.args.set.now 0 0 in (
      omega (arith, c.decreases, c.in-len1-up.len_at_least, length-take-le (length c.args.set.now - 1) (drop 1 c.args.set.now) (omega (arith, length-drop 1 c.args.set.now))),
      (
        params_pushed m c.args.before.now.items c.push.new.self.items c.args.set.now c.loop-value.value c.requires.params c.in-len1-up.len_at_least
            (c.in_ok-push.ensures.items ∙ ap (λ pairs. pairs ++ (p, c.loop-value.value) ∷ []) c.loop-value.invariant.before),
        All-same (λ row. length row ≡ length m.params) c.in_ok-giving.giving (filter (λ row. gives row (p, c.loop-value.value)) c.args.rows.now) c.in_ok-giving.ensures
            (All-filter (λ row. gives row (p, c.loop-value.value)) (λ row. length row ≡ length m.params) c.args.rows.now c.requires.rows),
      ),
    )

pub loop-value-preserved : goal.loop-value-preserved
loop-value-preserved t c =
    let m = c.args.model.now in
    let p = get_or c.args.set.now 0 0 in
    let v = c.loop-value.value in
    let rest = take (length c.args.set.now - 1) (drop 1 c.args.set.now) in
    let pushed = c.in_ok-push.ensures.items ∙ ap (λ pairs. pairs ++ (p, v) ∷ []) c.loop-value.invariant.before in
    record {
      found = value_step m c.args.passing.now c.args.rows.now c.in_ok-giving.giving c.args.before.now.items c.push.new.self.items p v rest
          (map found_seen c.args.found.now) (map found_seen c.loop-value.found) (map found_seen c.add_edges.new.found)
          c.in_ok-giving.ensures pushed c.loop-value.invariant.found c.in_ok-add_edges.ensures.found;
      before = c.take_last.ensures ∙ without_pushed c.args.before.now.items c.add_edges.new.before.items (p, v) (c.in_ok-add_edges.ensures.before ∙ pushed);
    }

pub returns-clause-found : goal.returns-clause-found
returns-clause-found t c =
    let m = c.args.model.now in
    c.loop-value.invariant.found
    ∙ ap (λ tuples. map found_seen c.args.found.now ++ edges_behind c.args.passing.now c.args.rows.now c.args.before.now.items tuples)
    (all_values m c.args.set.now c.value_count-count.result c.loop-value.value c.in-len1-up.len_at_least c.value_count-count.ensures c.loop-value-test.false (c.loop-value.auto.value-end))
