use Rattle.std.proofs.Common.{◌<◌, ◌≤◌, ◌∷◌, ◌∙◌, [], take, length, get_or, sym, subst}
use Rattle.std.proofs.lemmas.List.{take_more}
use Rattle.std.proofs.lemmas.List.Elements.{All-take}
use Rattle.live_sets.proofs.TrailLemmas.{since_more}
use Rattle.feasibility.specs.Live.{BreaksNoMark, LookedAt, NamesEarlier, Stops}
use Rattle.feasibility.proofs.Earlier.{seen_after}
use Rattle.feasibility.proofs.Looking.{looked_append, stops_before}
use Rattle.feasibility.proofs.tree.SearchTree.look_at_each.Goals as goal

pub look_once-requires-clause-seen : goal.look_once-requires-clause-seen
look_once-requires-clause-seen c =
    let m = c.args.self.now.model in
    let rule = get_or c.args.rules.now c.loop-rule.rule-index 0 in
    let exists = c.requires.exist c.loop-rule.rule-index 0 c.loop-rule-test.true in
    subst (λ cells. NamesEarlier m rule c.args.p cells → BreaksNoMark m rule cells c.loop-rule.sets) (sym c.loop-rule.invariant.cells)
    (λ earlier.
    seen_after m (take c.loop-rule.rule-index c.args.rules.now) rule c.args.cells.now c.args.sets.now c.loop-rule.sets c.loop-rule.invariant.to
    (c.requires.seen rule exists.0 exists.1 earlier))

pub returns-then-not-look_once-clause-stops : goal.returns-then-not-look_once-clause-stops
returns-then-not-look_once-clause-stops c e =
    stops_before c.args.self.now.model (take c.loop-rule.rule-index c.args.rules.now) c.args.cells.now c.args.sets.now c.loop-rule.sets c.look_once.new.sets
    (All-take (λ k. (0 < k) × (k ≤ length c.args.self.now.model.rules)) c.loop-rule.rule-index c.args.rules.now c.requires.exist) c.loop-rule.invariant.to
    (subst (λ cells. Stops c.args.self.now.model cells c.loop-rule.sets c.look_once.new.sets) c.loop-rule.invariant.cells
    (c.look_once.ensures.stops c.if-not-look_once.true))

pub returns-then-not-look_once-clause-since : goal.returns-then-not-look_once-clause-since
returns-then-not-look_once-clause-since c = since_more c.args.sets.now c.loop-rule.sets c.look_once.new.sets c.loop-rule.invariant.to.since
    c.look_once.ensures.since

pub loop-rule-preserved : goal.loop-rule-preserved
loop-rule-preserved c =
    let rule = get_or c.args.rules.now c.loop-rule.rule-index 0 in
    let one = subst (λ cells. LookedAt c.args.self.now.model (rule ∷ []) cells c.loop-rule.sets c.look_once.new.sets) c.loop-rule.invariant.cells
    (c.look_once.ensures.looked c.if-not-look_once.false) in
    record {
      cells = c.look_once.ensures.same ∙ c.loop-rule.invariant.cells;
      to = subst (λ list. LookedAt c.args.self.now.model list c.args.cells.now c.args.sets.now c.look_once.new.sets)
          (sym (take_more c.args.rules.now c.loop-rule.rule-index 0 c.loop-rule-test.true))
          (looked_append c.args.self.now.model (take c.loop-rule.rule-index c.args.rules.now) (rule ∷ []) c.args.cells.now c.args.sets.now c.loop-rule.sets
          c.look_once.new.sets c.loop-rule.invariant.to one);
    }
