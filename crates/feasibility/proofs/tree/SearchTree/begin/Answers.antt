use Rattle.std.proofs.Common.{◌≡◌, ◌≤◌, ◌+◌, ◌∷◌, ◌++◌, ◌∙◌, [], length, sym, ap, subst, arith}
use Rattle.std.specs.List.{range_with_len}
use Rattle.value_text.proofs.ListLemmas.{range_with_len_more}
use Rattle.feasibility.specs.Live.{LookedAt, Stops}
use Rattle.feasibility.proofs.Deciding.{decided_free, decided_live, decided_stops, decided_why, listed_decide}
use Rattle.feasibility.proofs.Looking.{looked_append, stops_before}
use Rattle.feasibility.proofs.Naming.{first_rules}
use Rattle.feasibility.proofs.tree.SearchTree.begin.Goals as goal

pub returns-then-not-has_values-clause-fails : goal.returns-then-not-has_values-clause-fails
returns-then-not-has_values-clause-fails c =
    sym (decided_stops c.args.self.now.model c.args.self.now.values c.args.cells.now (range_with_len 1 (length c.args.self.now.model.rules))
    c.args.sets.now c.args.sets.now c.assert_invariant.ensures.values
    (listed_decide c.args.self.now.model c.args.self.now.values c.args.cells.now c.args.sets.now c.requires.listed)
    (c.has_values.ensures.stops c.if-not-has_values.true))

pub returns-then-not-has_values-clause-why : goal.returns-then-not-has_values-clause-why
returns-then-not-has_values-clause-why c e =
    decided_why c.args.self.now.model c.args.self.now.values c.args.cells.now (range_with_len 1 (length c.args.self.now.model.rules))
    c.args.sets.now c.args.sets.now
    (listed_decide c.args.self.now.model c.args.self.now.values c.args.cells.now c.args.sets.now c.requires.listed)
    (c.has_values.ensures.stops c.if-not-has_values.true)

pub returns-then-not-look_at-clause-fails : goal.returns-then-not-look_at-clause-fails
returns-then-not-look_at-clause-fails c =
    let low : c.loop-i.i ≤ length c.args.self.now.model.rules = omega (arith, c.loop-i.invariant.count) in
    sym (decided_stops c.args.self.now.model c.args.self.now.values c.args.cells.now (range_with_len 1 (length c.args.self.now.model.rules))
    c.args.sets.now c.look_at.new.sets c.assert_invariant.ensures.values
    (listed_decide c.args.self.now.model c.args.self.now.values c.args.cells.now c.args.sets.now c.requires.listed)
    (stops_before c.args.self.now.model (range_with_len 1 c.loop-i.i) c.args.cells.now c.args.sets.now c.loop-i.sets c.look_at.new.sets
    (first_rules c.args.self.now.model c.loop-i.i low) c.loop-i.invariant.to
    (subst (λ cells. Stops c.args.self.now.model cells c.loop-i.sets c.look_at.new.sets) c.loop-i.invariant.cells
    (c.look_at.ensures.stops c.if-not-look_at.true))))

pub returns-then-not-look_at-clause-why : goal.returns-then-not-look_at-clause-why
returns-then-not-look_at-clause-why c e =
    let low : c.loop-i.i ≤ length c.args.self.now.model.rules = omega (arith, c.loop-i.invariant.count) in
    decided_why c.args.self.now.model c.args.self.now.values c.args.cells.now (range_with_len 1 (length c.args.self.now.model.rules))
    c.args.sets.now c.look_at.new.sets
    (listed_decide c.args.self.now.model c.args.self.now.values c.args.cells.now c.args.sets.now c.requires.listed)
    (stops_before c.args.self.now.model (range_with_len 1 c.loop-i.i) c.args.cells.now c.args.sets.now c.loop-i.sets c.look_at.new.sets
    (first_rules c.args.self.now.model c.loop-i.i low) c.loop-i.invariant.to
    (subst (λ cells. Stops c.args.self.now.model cells c.loop-i.sets c.look_at.new.sets) c.loop-i.invariant.cells
    (c.look_at.ensures.stops c.if-not-look_at.true)))

pub loop-i-preserved : goal.loop-i-preserved
loop-i-preserved c =
    let i = c.loop-i.i in
    let one = subst (λ cells. LookedAt c.args.self.now.model ((i + 1) ∷ []) cells c.loop-i.sets c.look_at.new.sets) c.loop-i.invariant.cells
    (c.look_at.ensures.looked c.if-not-look_at.false) in
    let next : i + 1 ≡ 1 + i = omega arith in
    let more : range_with_len 1 i ++ (i + 1) ∷ [] ≡ range_with_len 1 (i + 1) = ap (λ k. range_with_len 1 i ++ k ∷ []) next ∙ sym (range_with_len_more 1 i) in
    record {
      count = c.loop-i.invariant.count;
      cells = c.look_at.ensures.same ∙ c.loop-i.invariant.cells;
      to = subst (λ list. LookedAt c.args.self.now.model list c.args.cells.now c.args.sets.now c.look_at.new.sets) more
          (looked_append c.args.self.now.model (range_with_len 1 i) ((i + 1) ∷ []) c.args.cells.now c.args.sets.now c.loop-i.sets c.look_at.new.sets
          c.loop-i.invariant.to one);
    }

pub returns-clause-fails : goal.returns-clause-fails
returns-clause-fails c =
    let whole : c.loop-i.i ≡ length c.args.self.now.model.rules = omega (arith, c.loop-i.invariant.count) in
    sym (decided_free c.args.self.now.model c.args.self.now.values c.args.cells.now (range_with_len 1 (length c.args.self.now.model.rules)) c.args.sets.now
    c.loop-i.sets
    (listed_decide c.args.self.now.model c.args.self.now.values c.args.cells.now c.args.sets.now c.requires.listed)
    (subst (λ n. LookedAt c.args.self.now.model (range_with_len 1 n) c.args.cells.now c.args.sets.now c.loop-i.sets) whole c.loop-i.invariant.to))

pub returns-clause-live : goal.returns-clause-live
returns-clause-live c e =
    let whole : c.loop-i.i ≡ length c.args.self.now.model.rules = omega (arith, c.loop-i.invariant.count) in
    decided_live c.args.self.now.model c.args.self.now.values c.args.cells.now (range_with_len 1 (length c.args.self.now.model.rules)) c.args.sets.now
    c.loop-i.sets
    (listed_decide c.args.self.now.model c.args.self.now.values c.args.cells.now c.args.sets.now c.requires.listed)
    (subst (λ n. LookedAt c.args.self.now.model (range_with_len 1 n) c.args.cells.now c.args.sets.now c.loop-i.sets) whole c.loop-i.invariant.to)
