use Rattle.std.proofs.Common.{◌+◌, ◌∙◌, ℕ, None, get_or, is_some, sym, ap, subst, arith, inl, inr}
use Rattle.std.proofs.lemmas.Bool.{false≢true}
use Rattle.full_search.proofs.Grown.{GrowsWith, IsGivenBefore, below_given, given_more, grown_same, grown_set, reason_all}
use Rattle.full_search.proofs.Parts.{no_row_of}
use Rattle.full_search.proofs.reason.add_reason.Goals as goal
use Rattle.full_search.proofs.reason.add_reason.Goals.{then-q-p+in-Some, then-q-p+in_default, else-q-p}

pub loop-q-init : goal.loop-q-init
loop-q-init c = record {
  count = c.len-count.ensures ∙ c.requires.grows.part.long;
  grown = record { grows = c.requires.grows; has = λ q before. absurd (omega (arith, before.0)) };
}

pub loop-q-preserved : goal.loop-q-preserved
loop-q-preserved c =
    let below = c.args.below.now in
    let path = c.args.cells.now in
    let i = c.loop-q.q in
    let p = c.args.p in
    let old = c.args.why.now in
    elim c.if-q-p.branch [
      | then-q-p+in-Some w ↦ record {
        count = c.loop-q.invariant.count;
        grown = subst (GrowsWith (IsGivenBefore below (i + 1)) path p old) (sym (w.why-is ∙ w.set_cell.ensures))
            (grown_set (IsGivenBefore below i) (IsGivenBefore below (i + 1)) path p old c.loop-q.why i w.in-Some.w
            (below_given path below p c.args.v i w.in-Some.w c.requires.below w.if-q-p.true (sym w.get.ensures ∙ w.in-Some.is)) w.if-q-p.true
            (given_more below i) c.loop-q.invariant.grown);
      }
      | then-q-p+in_default w ↦ record {
        count = c.loop-q.invariant.count;
        grown = subst (GrowsWith (IsGivenBefore below (i + 1)) path p old) (sym w.why-is)
            (grown_same (IsGivenBefore below i) (IsGivenBefore below (i + 1)) path p old c.loop-q.why
            (λ r more away. elim (given_more below i r more) [
              | inl before ↦ inl before
              | inr here ↦ absurd (false≢true (ap is_some (sym (ap (λ (q : ℕ). get_or below q None) here ∙ sym w.get.ensures ∙ w.in_default.is)) ∙ more.1))
            ]) c.loop-q.invariant.grown);
      }
      | else-q-p w ↦ record {
        count = c.loop-q.invariant.count;
        grown = subst (GrowsWith (IsGivenBefore below (i + 1)) path p old) (sym w.why-is)
            (grown_same (IsGivenBefore below i) (IsGivenBefore below (i + 1)) path p old c.loop-q.why
            (λ r more away. elim (given_more below i r more) [
              | inl before ↦ inl before
              | inr here ↦ absurd (away (here ∙ w.if-q-p.false))
            ]) c.loop-q.invariant.grown);
      }
    ]

pub returns-clause-grows : goal.returns-clause-grows
returns-clause-grows c = c.loop-q.invariant.grown.grows

pub returns-clause-part : goal.returns-clause-part
returns-clause-part c =
    reason_all c.args.cells.now c.args.below.now c.args.p c.args.v c.loop-q.q c.args.why.now c.loop-q.why (omega (arith, c.requires.parameter, c.requires.long))
    (omega (arith, c.loop-q-test.false, c.loop-q.invariant.count)) c.requires.below c.loop-q.invariant.grown

pub returns-clause-refuted : goal.returns-clause-refuted
returns-clause-refuted c none =
    no_row_of c.args.tree.now c.args.below.now _ none
    (reason_all c.args.cells.now c.args.below.now c.args.p c.args.v c.loop-q.q c.args.why.now c.loop-q.why
    (omega (arith, c.requires.parameter, c.requires.long)) (omega (arith, c.loop-q-test.false, c.loop-q.invariant.count)) c.requires.below
    c.loop-q.invariant.grown)
