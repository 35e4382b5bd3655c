use Rattle.std.proofs.Common.{◌∷◌, ◌∙◌, [], sym}
use Rattle.refutation.specs.declared.token.TreeToken.TheVariants.{ByRule, ByOmission}
use Rattle.feasibility.proofs.AddedTrees.{closes_leaf}
use Rattle.feasibility.proofs.Leaves.{no_found, no_leaf, omission_first, rule_first}
use Rattle.full_search.proofs.PartTrees.{closes_within}
use Rattle.full_search.proofs.closing.close_failing.Goals as goal

pub returns-in-Some-clause-closes : goal.returns-in-Some-clause-closes
returns-in-Some-clause-closes c =
    let r = c.args.refuter.now in
    let path = c.args.cells.now in
    closes_within r (path ∷ []) 0 c.args.tokens.now.items c.push.new.self.items
    (closes_leaf r path (ByRule c.in-Some.rule) c.args.tokens.now.items c.push.new.self.items c.in_ok-push.ensures.items
    (rule_first r.model r.format r.earlier r.tuple path c.in-Some.rule c.assert_invariant.ensures.sound c.requires.path.positive
    (sym c.first_no.ensures ∙ c.in-Some.is)))

pub returns-in-Some-first_cited-clause-closes : goal.returns-in-Some-first_cited-clause-closes
returns-in-Some-first_cited-clause-closes c =
    let r = c.args.refuter.now in
    let path = c.args.cells.now in
    closes_within r (path ∷ []) 0 c.args.tokens.now.items c.push-in-Some-first_cited.new.self.items
    (closes_leaf r path (ByOmission c.in-Some-first_cited.number) c.args.tokens.now.items c.push-in-Some-first_cited.new.self.items
    c.in_ok-push-2.ensures.items
    (omission_first r.model r.format r.earlier r.tuple path c.in-Some-first_cited.number c.assert_invariant.ensures.sound c.requires.path.positive
    (no_found r.model path (sym c.first_no.ensures ∙ c.in_default.is)) (sym c.first_cited.ensures ∙ c.in-Some-first_cited.is)))

pub close_stuck-requires-clause-unbroken : goal.close_stuck-requires-clause-unbroken
close_stuck-requires-clause-unbroken c = no_found c.args.refuter.now.model c.args.cells.now (sym c.first_no.ensures ∙ c.in_default.is)

pub close_stuck-requires-clause-leafless : goal.close_stuck-requires-clause-leafless
close_stuck-requires-clause-leafless c =
    let r = c.args.refuter.now in
    record {
      none = no_leaf r.model r.format r.earlier r.tuple c.args.cells.now c.assert_invariant.ensures.sound c.requires.path.positive
          (no_found r.model c.args.cells.now (sym c.first_no.ensures ∙ c.in_default.is)) (sym c.first_cited.ensures ∙ c.in_default-first_cited.is);
    }
