use Rattle.std.proofs.Common.{◌≡◌, ◌∙◌, true, false, sym, refl, subst}
use Rattle.std.specs.Option.{IsSome}
use Rattle.std.proofs.lemmas.Result.{on_ok_weaker}
use Rattle.cov_model.specs.believed.Meaning.{value_at}
use Rattle.cov_model.specs.believed.Rows.{with_value}
use Rattle.refutation.specs.declared.token.TreeToken.TheVariants.{ByRule, ByNegative}
use Rattle.feasibility.proofs.AddedTrees.{closes_leaf}
use Rattle.feasibility.proofs.Leaves.{negative_first, rule_first, some_no}
use Rattle.feasibility.proofs.Paths.{negative_value, positive_value}
use Rattle.feasibility.proofs.refuter.Refuter.put_value_leaf.Goals as goal

pub returns-then-is_negative-clause-closes : goal.returns-then-is_negative-clause-closes
returns-then-is_negative-clause-closes c =
    let r = c.args.self.now in
    let row = with_value c.args.cells.now c.args.q c.args.v in
    let negative : (value_at r.model c.args.q c.args.v).negative ≡ true = sym c.is_negative.ensures ∙ c.if-is_negative.true in
    on_ok_weaker c.push.result
    (λ pushed. closes_leaf r row ByNegative c.args.tokens.now c.push.new.self pushed
    (negative_first r.model r.format r.earlier r.tuple row
    (negative_value r c.args.cells.now c.args.q c.args.v c.requires.path c.requires.parameter c.requires.free negative))) c.push.ensures.ok

pub unwrap-rule-requires : goal.unwrap-rule-requires
unwrap-rule-requires c =
    let r = c.args.self.now in
    let positive : (value_at r.model c.args.q c.args.v).negative ≡ false = sym c.is_negative.ensures ∙ c.if-is_negative.false in
    let found = some_no r.model (with_value c.args.cells.now c.args.q c.args.v) (c.requires.dead positive) in
    subst IsSome (sym (c.first_no_with.ensures.least ∙ found.1)) refl

pub returns-clause-closes : goal.returns-clause-closes
returns-clause-closes c =
    let r = c.args.self.now in
    let row = with_value c.args.cells.now c.args.q c.args.v in
    let positive : (value_at r.model c.args.q c.args.v).negative ≡ false = sym c.is_negative.ensures ∙ c.if-is_negative.false in
    let path = positive_value r c.args.cells.now c.args.q c.args.v c.requires.path c.requires.parameter c.requires.value positive in
    on_ok_weaker c.push-2.result
    (λ pushed. closes_leaf r row (ByRule c.unwrap-rule.result) c.args.tokens.now c.push-2.new.self pushed
    (rule_first r.model r.format r.earlier r.tuple row c.unwrap-rule.result c.assert_invariant.ensures.sound path.positive
    (sym c.first_no_with.ensures.least ∙ c.unwrap-rule.ensures))) c.push-2.ensures.ok
