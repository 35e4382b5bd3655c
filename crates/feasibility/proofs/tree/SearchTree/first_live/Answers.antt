use Rattle.std.proofs.Common.{◌≡◌, ◌∙◌, false, [], get_or, sym, subst, arith, inl, inr}
use Rattle.std.proofs.lemmas.Bool.{cases_lt}
use Rattle.live_sets.specs.Trail.{mark_at}
use Rattle.feasibility.specs.Descent.{IsFirstLive}
use Rattle.feasibility.proofs.Nodes.{listed_at}
use Rattle.feasibility.proofs.tree.SearchTree.first_live.Goals as goal

pub loop-k-init : goal.loop-k-init
loop-k-init c j low = absurd (omega (arith, low))

pub is_live-requires-clause-value : goal.is_live-requires-clause-value
is_live-requires-clause-value c =
    let values = c.values_of-values.result.now in
    let listed = listed_at values (get_or c.args.self.now.values c.args.p []) c.loop-k.k c.values_of-values.ensures c.loop-k-test.true in
    omega (arith, c.requires.shape.each c.args.p, c.assert_invariant.ensures.values.exist c.args.p (get_or values c.loop-k.k 0) listed)

pub returns-then-is_live : goal.returns-then-is_live
returns-then-is_live c =
    subst (λ values. IsFirstLive c.args.sets.now.live c.args.p values c.loop-k.k) c.values_of-values.ensures (record {
      within = c.loop-k-test.true;
      live = sym c.is_live.ensures ∙ c.if-is_live.true;
      dead = c.loop-k.invariant;
    })

pub loop-k-preserved : goal.loop-k-preserved
loop-k-preserved c j low =
    elim (cases_lt j c.loop-k.k) [
      | inl before ↦ c.loop-k.invariant j before
      | inr at ↦
          let same : c.loop-k.k ≡ j = omega (arith, low, at) in
          subst (λ n. mark_at c.args.sets.now.live c.args.p (get_or c.values_of-values.result.now n 0) ≡ false) same
          (sym c.is_live.ensures ∙ c.if-is_live.false)
    ]
