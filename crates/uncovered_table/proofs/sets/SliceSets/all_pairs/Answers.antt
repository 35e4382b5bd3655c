use Rattle.std.proofs.Common.{◌≡◌, ◌∙◌, ◌++◌, ◌∷◌, [], ap, arith, length, replicate, subst, true}
use Rattle.std.proofs.lemmas.Grind.{common_steps}
use Rattle.uncovered_table.specs.Masks.{begin_at}
use Rattle.uncovered_table.specs.Pairs.{AreKept, digit_count}
use Rattle.uncovered_table.specs.Places.{slice_places}
use Rattle.uncovered_table.proofs.PartnerLemmas.{kept-more}
use Rattle.uncovered_table.proofs.sets.SliceSets.all_pairs.Goals as goal

pub pairs_if-requires-clause-column : goal.pairs_if-requires-clause-column
pairs_if-requires-clause-column c = omega (arith, c.loop-p-test.true, c.param_count-count.ensures, ap (λ w. length w.model.params) c.self.view_is)

pub pairs_if-requires-clause-end : goal.pairs_if-requires-clause-end
pairs_if-requires-clause-end c =
    let v = c.args.self.now in
    let all : c.param_count-count.result ≡ length v.model.params = c.param_count-count.ensures ∙ ap (λ w. length w.model.params) c.self.view_is in
    c.requires.each c.param_count-count.result 0 (omega (arith, all)) ∙ ap (begin_at (digit_count v.model v.slice)) all

pub loop-p-preserved : goal.loop-p-preserved
loop-p-preserved c =
    let v = c.args.self.now in
    let pushed : c.push.new.self.items ≡ c.loop-p.columns.items ++ c.in_ok-pairs.pairs ∷ [] = grind (arith, common_steps) in
    kept-more v.model v.slice (replicate (length (slice_places v.model v.slice)) true) c.loop-p.p c.loop-p.columns.items c.push.new.self.items c.in_ok-pairs.pairs
    c.loop-p.invariant pushed c.in_ok-pairs.ensures

pub returns : goal.returns
returns c =
    let v = c.args.self.now in
    let all : c.loop-p.p ≡ length v.model.params = omega (arith, c.loop-p-test.false, c.param_count-count.ensures, ap (λ w. length w.model.params) c.self.view_is, c.loop-p.auto.p-end) in
    subst (λ n. AreKept v.model v.slice (replicate (length (slice_places v.model v.slice)) true) n c.loop-p.columns.items) all c.loop-p.invariant
