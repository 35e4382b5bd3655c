use Rattle.std.proofs.Common.{◌+◌, ◌∙◌, ℕ, None, get_or, length, sym, ap, subst, arith, inl, inr}
use Rattle.cov_model.specs.Sound.{rule_at}
use Rattle.feasibility.proofs.Naming.{member_exists}
use Rattle.full_search.proofs.Grown.{GrowsWith, IsBefore, before_more, grown_same, grown_set, members_all}
use Rattle.full_search.proofs.reason.add_members.Goals as goal
use Rattle.full_search.proofs.reason.add_members.Goals.{then-q-p+in-Some, then-q-p+in_default, else-q-p}

pub loop-q-init : goal.loop-q-init
loop-q-init c = record { grows = c.requires.grows; has = λ q before. absurd (omega (arith, before.1)) }

pub get-requires : goal.get-requires
get-requires c =
    omega (
      arith,
      member_exists (length c.args.tree.now.model.params) (rule_at c.args.tree.now.model c.args.rule).body c.members_of-q-items.result.now c.loop-q.q-index
          c.members_of-q-items.ensures c.loop-q-test.true,
      c.requires.long,
    )

pub set_cell-requires : goal.set_cell-requires
set_cell-requires c =
    omega (
      arith,
      member_exists (length c.args.tree.now.model.params) (rule_at c.args.tree.now.model c.args.rule).body c.members_of-q-items.result.now c.loop-q.q-index
          c.members_of-q-items.ensures c.loop-q-test.true,
      c.requires.long,
      c.loop-q.invariant.grows.part.long,
    )

pub loop-q-preserved : goal.loop-q-preserved
loop-q-preserved c =
    let items = c.members_of-q-items.result.now in
    let i = c.loop-q.q-index in
    let path = c.args.cells.now in
    elim c.if-q-p.branch [
      | then-q-p+in-Some w ↦ subst (GrowsWith (IsBefore items (i + 1)) path c.args.p c.args.why.now) (sym (w.why-is ∙ w.set_cell.ensures))
          (grown_set (IsBefore items i) (IsBefore items (i + 1)) path c.args.p c.args.why.now c.loop-q.why (get_or items i 0) w.in-Some.w
          (sym w.get.ensures ∙ w.in-Some.is) w.if-q-p.true (before_more items i) c.loop-q.invariant)
      | then-q-p+in_default w ↦ subst (GrowsWith (IsBefore items (i + 1)) path c.args.p c.args.why.now) (sym w.why-is)
          (grown_same (IsBefore items i) (IsBefore items (i + 1)) path c.args.p c.args.why.now c.loop-q.why
          (λ r more away. elim (before_more items i r more) [
            | inl before ↦ inl before
            | inr here ↦ inr (ap (λ (q : ℕ). get_or path q None) here ∙ sym w.get.ensures ∙ w.in_default.is)
          ]) c.loop-q.invariant)
      | else-q-p w ↦ subst (GrowsWith (IsBefore items (i + 1)) path c.args.p c.args.why.now) (sym w.why-is)
          (grown_same (IsBefore items i) (IsBefore items (i + 1)) path c.args.p c.args.why.now c.loop-q.why
          (λ r more away. elim (before_more items i r more) [
            | inl before ↦ inl before
            | inr here ↦ absurd (away (here ∙ w.if-q-p.false))
          ]) c.loop-q.invariant)
    ]

pub returns-clause-grows : goal.returns-clause-grows
returns-clause-grows c = c.loop-q.invariant.grows

pub returns-clause-members : goal.returns-clause-members
returns-clause-members c =
    members_all c.args.tree.now.model c.args.rule c.args.p c.members_of-q-items.result.now c.loop-q.q-index c.args.cells.now c.args.why.now c.loop-q.why
    c.members_of-q-items.ensures c.loop-q-test.false c.requires.long c.loop-q.invariant
