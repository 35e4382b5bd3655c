use Rattle.std.proofs.Common.{◌≡◌, ◌∙◌, ◌+◌, ◌<◌, ℕ, Option, Some, None, [], true, length, get_or, is_some, unwrap_or, sym, ap, subst, arith}
use Rattle.cov_model.specs.believed.Rows.{with_value}
use Rattle.definitions.specs.believed.Demand.{is_among}
use Rattle.definitions.specs.believed.Search.{constrained_params}
use Rattle.feasibility.specs.declared.constrained.Constrained.{Constrained}
use Rattle.feasibility.specs.Tree.{constrained_at}
use Rattle.feasibility.proofs.Naming.{constrained_exists}
use Rattle.full_search.specs.Witnesses.{IsWitness}
use Rattle.full_search.specs.declared.witness.Witness.{Witness}
use Rattle.full_search.proofs.WitnessRows.{GivesBelow, gives_more, gives_none, gives_still, named_among, same_named, witness_given}
use Rattle.full_search.proofs.witness.Witness.put_all.Goals as goal
use Rattle.full_search.proofs.witness.Witness.put_all.Goals.{in-Some, in_default, in-Some-get, in_default-get}

pub get-requires : goal.get-requires
get-requires c =
    let m = c.args.tree.now.model in
    let within : c.loop-i.i < length (constrained_params m) = omega (arith, c.loop-i.invariant.count) in
    omega (
      arith,
      constrained_exists m c.loop-i.i within,
      ap (λ (entry : Constrained). entry.param) c.constrained_at.ensures,
      c.requires.listed.long,
      c.assert_invariant.ensures.values.as_many,
    )

pub loop-i-preserved : goal.loop-i-preserved
loop-i-preserved c =
    let tree = c.args.tree.now in
    let m = tree.model in
    let cells = c.args.cells.now in
    let p = constrained_at m c.loop-i.i in
    let within : c.loop-i.i < length (constrained_params m) = omega (arith, c.loop-i.invariant.count) in
    let low : p < length c.loop-i.self.row =
    omega (arith, constrained_exists m c.loop-i.i within, c.loop-i.invariant.kept.row.as_long, c.assert_invariant.ensures.values.as_many) in
    let read = ap (λ (entry : Constrained). get_or cells entry.param None) (sym c.constrained_at.ensures) ∙ sym c.get.ensures in
    elim c.match-get.branch [
      | in-Some w ↦
          record {
            count = c.loop-i.invariant.count;
            kept = subst (IsWitness tree) (sym w.self-is) w.put.ensures.witness;
            same = gives_more (constrained_at m) c.loop-i.self.row c.match-get.self.row cells c.loop-i.i w.in-Some.v low (read ∙ w.in-Some.is)
                (ap (λ (witness : Witness). witness.row) w.self-is ∙ w.put.ensures.row) c.loop-i.invariant.same;
          }
      | in_default w ↦
          record {
            count = c.loop-i.invariant.count;
            kept = subst (IsWitness tree) (sym w.self-is) c.loop-i.invariant.kept;
            same = subst (λ (witness : Witness). GivesBelow (constrained_at m) witness.row cells (c.loop-i.i + 1)) (sym w.self-is)
                (gives_none (constrained_at m) c.loop-i.self.row cells c.loop-i.i (read ∙ w.in_default.is) c.loop-i.invariant.same);
          }
    ]

pub loop-p-init : goal.loop-p-init
loop-p-init c = record {
  kept = c.loop-i.invariant.kept;
  named = same_named c.args.tree.now.model c.loop-i.self.row c.args.cells.now c.loop-i.i (omega (arith, c.loop-i.invariant.count)) c.loop-i.invariant.same;
  same = λ j low. absurd (omega (arith, low));
}

pub loop-p-preserved : goal.loop-p-preserved
loop-p-preserved c =
    let tree = c.args.tree.now in
    let cells = c.args.cells.now in
    let p = c.loop-p.p in
    let old = c.loop-p.self in
    let within : p < length tree.values = omega (arith, c.requires.listed.long) in
    let low : p < length old.row = omega (arith, within, c.loop-p.invariant.kept.row.as_long) in
    elim c.match-get-2.branch [
      | in-Some-get w ↦
          let is : get_or cells p None ≡ Some w.in-Some-get.v = sym c.get-in-loop-p.ensures ∙ w.in-Some-get.is in
          let row : c.match-get-2.self.row ≡ with_value old.row p w.in-Some-get.v =
          ap (λ (witness : Witness). witness.row) w.self-is ∙ w.set_cell.ensures in
          let listed : is_among (get_or tree.values p []) w.in-Some-get.v ≡ true =
          subst (λ (cell : Option ℕ). is_among (get_or tree.values p []) (unwrap_or cell 0) ≡ true) is (c.requires.listed.listed p (ap is_some is)) in
          record {
            kept = witness_given tree old c.match-get-2.self p w.in-Some-get.v c.loop-p.invariant.kept within listed
                (λ named.
                c.loop-p.invariant.named p (named_among tree.model p (omega (arith, within, c.assert_invariant.ensures.values.as_many)) named)
                (ap is_some is) ∙ is)
                row (ap (λ (witness : Witness). witness.broken) w.self-is);
            named = λ q named given. gives_still old.row c.match-get-2.self.row cells p w.in-Some-get.v q low is row (c.loop-p.invariant.named q named given);
            same = gives_more (λ q. q) old.row c.match-get-2.self.row cells p w.in-Some-get.v low is row c.loop-p.invariant.same;
          }
      | in_default-get w ↦
          record {
            kept = subst (IsWitness tree) (sym w.self-is) c.loop-p.invariant.kept;
            named = λ q named given. ap (λ (witness : Witness). get_or witness.row q None) w.self-is ∙ c.loop-p.invariant.named q named given;
            same = subst (λ (witness : Witness). GivesBelow (λ q. q) witness.row cells (p + 1)) (sym w.self-is)
                (gives_none (λ q. q) old.row cells p (sym c.get-in-loop-p.ensures ∙ w.in_default-get.is) c.loop-p.invariant.same);
          }
    ]
