use Rattle.std.proofs.Common.{◌∷◌, ◌∙◌, [], sym, arith}
use Rattle.std.proofs.lemmas.Result.{on_ok_weaker}
use Rattle.refutation.specs.declared.token.TreeToken.TheVariants.{ByRule, ByOmission}
use Rattle.feasibility.proofs.AddedTrees.{closes_leaf, closes_more}
use Rattle.feasibility.proofs.Leaves.{no_found, no_leaf, omission_first, rule_first}
use Rattle.feasibility.proofs.refuter.Refuter.close_failing.Goals as goal

pub returns-in-Some-clause-closes : goal.returns-in-Some-clause-closes
returns-in-Some-clause-closes c =
    let r = c.args.self.now in
    let path = c.args.cells.now in
    on_ok_weaker c.push.result
    (λ pushed. closes_more r (path ∷ []) 0 1 c.args.tokens.now c.push.new.self (omega arith)
    (closes_leaf r path (ByRule c.in-Some.rule) c.args.tokens.now c.push.new.self pushed
    (rule_first r.model r.format r.earlier r.tuple path c.in-Some.rule c.assert_invariant.ensures.sound c.requires.path.positive
    (sym c.first_no.ensures ∙ c.in-Some.is))))
    c.push.ensures.ok

pub returns-in-Some-first_cited-clause-closes : goal.returns-in-Some-first_cited-clause-closes
returns-in-Some-first_cited-clause-closes c =
    let r = c.args.self.now in
    let path = c.args.cells.now in
    on_ok_weaker c.push-in-Some-first_cited.result
    (λ pushed. closes_more r (path ∷ []) 0 1 c.args.tokens.now c.push-in-Some-first_cited.new.self (omega arith)
    (closes_leaf r path (ByOmission c.in-Some-first_cited.number) c.args.tokens.now c.push-in-Some-first_cited.new.self pushed
    (omission_first r.model r.format r.earlier r.tuple path c.in-Some-first_cited.number c.assert_invariant.ensures.sound c.requires.path.positive
    (no_found r.model path (sym c.first_no.ensures ∙ c.in_default.is)) (sym c.first_cited.ensures ∙ c.in-Some-first_cited.is))))
    c.push-in-Some-first_cited.ensures.ok

pub put_branch_of_leaves-requires-clause-unbroken : goal.put_branch_of_leaves-requires-clause-unbroken
put_branch_of_leaves-requires-clause-unbroken c = no_found c.args.self.now.model c.args.cells.now (sym c.first_no.ensures ∙ c.in_default.is)

pub put_branch_of_leaves-requires-clause-leafless : goal.put_branch_of_leaves-requires-clause-leafless
put_branch_of_leaves-requires-clause-leafless c =
    let r = c.args.self.now in
    record {
      none = no_leaf r.model r.format r.earlier r.tuple c.args.cells.now c.assert_invariant.ensures.sound c.requires.path.positive
          (no_found r.model c.args.cells.now (sym c.first_no.ensures ∙ c.in_default.is)) (sym c.first_cited.ensures ∙ c.in_default-first_cited.is);
    }
