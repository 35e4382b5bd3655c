use Rattle.std.proofs.Common.{ℕ, ◌∙◌, ap, false, length, subst, sym}
use Rattle.std.specs.Prelude.{IfSome, slice_set}
use Rattle.std.proofs.lemmas.List.{length-set}
use Rattle.uncovered_table.specs.Bits.{bit_of, marked}
use Rattle.uncovered_table.specs.Open.{IsPlaceOf, closed}
use Rattle.uncovered_table.specs.Pairs.{AreKept}
use Rattle.uncovered_table.specs.Prepared.{AreReady}
use Rattle.uncovered_table.proofs.BitLemmas.{bit_known}
use Rattle.uncovered_table.proofs.OpenLemmas.{closed_bit}
use Rattle.uncovered_table.proofs.PartnerLemmas.{kept-single}
use Rattle.uncovered_table.proofs.ReadyLemmas.{ready-cleared}
use Rattle.uncovered_table.proofs.table.Uncovered.close.Goals as goal

pub forget_pairs-requires-clause-set : goal.forget_pairs-requires-clause-set
forget_pairs-requires-clause-set c =
    let v = c.self.inside.sets in
    let place : ℕ × ℕ = (c.args.set, c.args.rank) in
    (bit_known v.model v.slice place (subst (λ table. IsPlaceOf table place) (sym c.self.view_is) c.requires)).exists

pub forget_pairs-requires-clause-long : goal.forget_pairs-requires-clause-long
forget_pairs-requires-clause-long c = c.self.invariant.kept.many

pub invariant_of-self : goal.invariant_of-self
invariant_of-self c =
    let v = c.self.inside.sets in
    let place : ℕ × ℕ = (c.args.set, c.args.rank) in
    let known = bit_known v.model v.slice place (subst (λ table. IsPlaceOf table place) (sym c.self.view_is) c.requires) in
    let cleared = c.clear.ensures ∙ ap (λ k. slice_set c.self.inside.bits k false) c.bit.ensures.value in
    record {
      long = ap length cleared ∙ length-set c.self.inside.bits (bit_of v.model v.slice place) false ∙ c.self.invariant.long;
      lines =
          subst (λ bits. IfSome c.self.inside.ready (λ made. AreReady v.model v.slice bits made.column made)) (sym cleared)
          (ready-cleared v.model v.slice c.self.inside.bits (bit_of v.model v.slice place) c.self.inside.ready c.self.invariant.lines);
      begins_are = c.self.invariant.begins_are;
      kept =
          subst (λ bits. AreKept v.model v.slice bits (length v.model.params) c.forget_pairs.new.columns.items) (sym cleared)
          (kept-single v.model v.slice c.self.inside.bits c.args.set (bit_of v.model v.slice place) c.self.inside.pairs.items c.forget_pairs.new.columns.items
          c.assert_invariant.ensures.kept known.first known.below c.forget_pairs.ensures.long c.forget_pairs.ensures.own c.forget_pairs.ensures.others
          c.self.invariant.kept);
    }

pub returns : goal.returns
returns c =
    let v = c.self.inside.sets in
    let place : ℕ × ℕ = (c.args.set, c.args.rank) in
    ap (marked v.model v.slice) (c.clear.ensures ∙ ap (λ k. slice_set c.self.inside.bits k false) c.bit.ensures.value)
    ∙ closed_bit v.model v.slice c.self.inside.bits place (subst (λ table. IsPlaceOf table place) (sym c.self.view_is) c.requires) c.self.invariant.long
    ∙ ap (λ table. closed table place) c.self.view_is
