use Rattle.std.proofs.Common.{◌++◌, ◌∷◌, [], map, length, ap, ◌∙◌, arith}
use Rattle.suspect_tuples.specs.Told.{found_seen}
use Rattle.suspect_tuples.proofs.SetLemmas.{before_pushed, without_pushed}
use Rattle.suspect_tuples.proofs.WalkLemmas.{set_end, set_step}
use Rattle.suspect_tuples.proofs.sets.+add_sets.Goals as goal

pub add_sets-requires : goal.add_sets-requires
add_sets-requires t c =
    let p = c.loop-param.param in (
      omega (arith, c.decreases, c.if-more-eq0.false),
      (
        before_pushed c.args.first p c.args.set.now.items c.push.new.self.items c.requires.set c.loop-param.auto.param
            (c.in_ok-push.ensures.items ∙ ap (λ set. set ++ p ∷ []) c.loop-param.invariant.set),
        (omega (arith, c.loop-param-test.true, c.saturating_sub-last.ensures, c.len-params.ensures, ap length c.params.ensures.value), c.requires.failing),
      ),
    )

pub loop-param-preserved : goal.loop-param-preserved
loop-param-preserved t c =
    let p = c.loop-param.param in
    let pushed = c.in_ok-push.ensures.items ∙ ap (λ set. set ++ p ∷ []) c.loop-param.invariant.set in
    record {
      found = set_step c.args.model.now c.args.passing.now c.args.failing.now c.args.set.now.items c.push.new.self.items p c.args.more
          (map found_seen c.loop-param.found) (map found_seen c.add_sets.new.found) _ (omega (arith, c.if-more-eq0.false))
          (omega (arith, c.loop-param-test.true, c.saturating_sub-last.ensures, c.len-params.ensures, ap length c.params.ensures.value))
          pushed c.loop-param.invariant.found c.in_ok-add_sets.ensures.found;
      set = c.take_last.ensures ∙ without_pushed c.args.set.now.items c.add_sets.new.set.items p (c.in_ok-add_sets.ensures.set ∙ pushed);
    }

pub returns-clause-found : goal.returns-clause-found
returns-clause-found t c =
    set_end c.args.model.now c.args.passing.now c.args.failing.now c.args.set.now.items c.loop-param.param c.args.more (map found_seen c.loop-param.found) _
    (omega (arith, c.if-more-eq0.false))
    (omega (arith, c.loop-param-test.false, c.saturating_sub-last.ensures, c.len-params.ensures, ap length c.params.ensures.value)) c.loop-param.invariant.found
