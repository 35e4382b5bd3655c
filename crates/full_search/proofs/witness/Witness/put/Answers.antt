use Rattle.std.proofs.Common.{◌≡◌, ◌<◌, ◌∙◌, Some, false, length, set, sym, ap, subst, arith}
use Rattle.cov_model.specs.Fits.{FitsModel}
use Rattle.cov_model.specs.believed.Rows.{with_value}
use Rattle.feasibility.specs.declared.constrained.Constrained.{Constrained}
use Rattle.feasibility.specs.Live.{AreRules}
use Rattle.feasibility.specs.Tree.{constrained_at}
use Rattle.feasibility.proofs.Naming.{constrained_exists}
use Rattle.full_search.specs.Witnesses.{MarksAnew, is_broken_on}
use Rattle.full_search.proofs.GivenRows.{given_fits, given_with}
use Rattle.full_search.proofs.WitnessRows.{PutReads, put_reads, witness_put}
use Rattle.full_search.proofs.witness.Witness.put.Goals as goal
use Rattle.full_search.proofs.witness.Witness.put.Goals.{After-list, After-list-2}

pub list-requires : goal.list-requires
list-requires c =
    (put_reads c.args.tree.now c.args.self.now.row (constrained_at c.args.tree.now.model c.args.i) c.unwrap-before.result c.args.v
    c.constrained_at-named.result.now c.get.result c.assert_invariant.ensures.sound c.assert_invariant.ensures.values c.requires.witness.row
    (constrained_exists c.args.tree.now.model c.args.i c.requires.place) c.requires.value c.constrained_at-named.ensures c.get.ensures c.unwrap-before.ensures).old.within

reads : (c : After-list) → PutReads c.args.tree.now c.args.self.now.row (constrained_at c.args.tree.now.model c.args.i) c.unwrap-before.result c.args.v
    c.constrained_at-named.result.now
reads c =
    put_reads c.args.tree.now c.args.self.now.row (constrained_at c.args.tree.now.model c.args.i) c.unwrap-before.result c.args.v
    c.constrained_at-named.result.now c.get.result c.assert_invariant.ensures.sound c.assert_invariant.ensures.values c.requires.witness.row
    (constrained_exists c.args.tree.now.model c.args.i c.requires.place) c.requires.value c.constrained_at-named.ensures c.get.ensures c.unwrap-before.ensures

pub unmark-requires : goal.unmark-requires
unmark-requires c = record {
  within = λ k d low.
      let exist = subst (AreRules c.args.tree.now.model) (sym c.list.ensures) (reads c).old.exist in
      omega (arith, (exist k d low).1, c.requires.witness.long);
}

pub list-requires-2 : goal.list-requires-2
list-requires-2 c = (reads (goal.at.list-requires-2 c).After-list).new.within

pub mark-requires-clause-exist : goal.mark-requires-clause-exist
mark-requires-clause-exist c =
    subst (AreRules c.args.tree.now.model) (sym c.list-2.ensures) (reads (goal.at.mark-requires-clause-exist c).After-list).new.exist

-- the row is the one with the value
row_is : (c : After-list-2) → c.set_cell.new.self ≡ with_value c.args.self.now.row (constrained_at c.args.tree.now.model c.args.i) c.args.v
row_is c =
    c.set_cell.ensures ∙ ap (λ row. set row c.constrained_at-named.result.now.param (Some c.args.v)) c.unmark.ensures.row
    ∙ ap (λ (entry : Constrained). set c.args.self.now.row entry.param (Some c.args.v)) c.constrained_at-named.ensures

pub mark-requires-clause-fits : goal.mark-requires-clause-fits
mark-requires-clause-fits c =
    let tree = c.args.tree.now in
    let p = constrained_at tree.model c.args.i in
    let within : p < length tree.values =
    omega (arith, constrained_exists tree.model c.args.i c.requires.place, c.assert_invariant.ensures.values.as_many) in
    subst (FitsModel tree.model) (sym (row_is c))
    (given_fits tree.model tree.values (with_value c.args.self.now.row p c.args.v) c.assert_invariant.ensures.values
    (given_with tree.values c.args.self.now.row p c.args.v c.requires.witness.row within c.requires.value))

pub returns-clause-witness : goal.returns-clause-witness
returns-clause-witness c =
    let tree = c.args.tree.now in
    let m = tree.model in
    let p = constrained_at m c.args.i in
    let row = row_is (goal.at.returns-clause-witness c).After-list-2 in
    let has = reads (goal.at.returns-clause-witness c).After-list in
    witness_put tree c.args.self.now c.mark.new.self p c.unwrap-before.result c.args.v c.unmark.new.self.broken
    c.assert_invariant.ensures.sound c.assert_invariant.ensures.values c.requires.witness (constrained_exists m c.args.i c.requires.place) c.requires.value
    has.before (c.mark.ensures.row ∙ row)
    (subst (λ list. MarksAnew list (λ _. false) c.args.self.now.broken c.unmark.new.self.broken) (c.list.ensures ∙ has.old.list) c.unmark.ensures.marks)
    (subst (λ list. MarksAnew list (is_broken_on m (with_value c.args.self.now.row p c.args.v)) c.unmark.new.self.broken c.mark.new.self.broken)
    (c.list-2.ensures ∙ has.new.list)
    (subst (λ given. MarksAnew c.list-2.result.now (is_broken_on m given) c.unmark.new.self.broken c.mark.new.self.broken) row c.mark.ensures.marks))
