use Rattle.std.proofs.Common.{◌≡◌, ◌∙◌, false, true, sym, refl, subst}
use Rattle.std.specs.Option.{IsSome}
use Rattle.cov_model.specs.believed.Meaning.{value_at}
use Rattle.cov_model.specs.believed.Rows.{with_value}
use Rattle.definitions.specs.believed.Refutation.{ByNegative, ByOmission, ByRule}
use Rattle.feasibility.proofs.Leaves.{negative_first, no_leaf, omission_first, rule_first, some_no}
use Rattle.feasibility.proofs.Paths.{negative_value, positive_value}
use Rattle.full_search.proofs.ShorterLeaves.{first_leaf}
use Rattle.full_search.proofs.closing.leaf_with.Goals as goal

pub returns-then-is_negative-clause-leaf : goal.returns-then-is_negative-clause-leaf
returns-then-is_negative-clause-leaf c =
    let r = c.args.refuter.now in
    let row = with_value c.args.cells.now c.args.p c.args.v in
    let negative : (value_at r.model c.args.p c.args.v).negative ≡ true = sym c.is_negative.ensures ∙ c.if-is_negative.true in
    first_leaf r row ByNegative
    (negative_first r.model r.format r.earlier r.tuple row
    (negative_value r c.args.cells.now c.args.p c.args.v c.requires.path c.requires.parameter c.requires.free negative))

pub unwrap-rule-requires : goal.unwrap-rule-requires
unwrap-rule-requires c =
    let r = c.args.refuter.now in
    let positive : (value_at r.model c.args.p c.args.v).negative ≡ false = sym c.is_negative.ensures ∙ c.if-is_negative.false in
    let found = some_no r.model (with_value c.args.cells.now c.args.p c.args.v)
    (c.requires.told.dead (sym c.is_live.ensures ∙ c.if-not-is_live.true) positive) in
    subst IsSome (sym (c.first_no_with.ensures.least ∙ found.1)) refl

pub returns-then-not-is_live-clause-leaf : goal.returns-then-not-is_live-clause-leaf
returns-then-not-is_live-clause-leaf c =
    let r = c.args.refuter.now in
    let row = with_value c.args.cells.now c.args.p c.args.v in
    let positive : (value_at r.model c.args.p c.args.v).negative ≡ false = sym c.is_negative.ensures ∙ c.if-is_negative.false in
    let path = positive_value r c.args.cells.now c.args.p c.args.v c.requires.path c.requires.parameter c.requires.value positive in
    first_leaf r row (ByRule c.unwrap-rule.result)
    (rule_first r.model r.format r.earlier r.tuple row c.unwrap-rule.result c.assert_invariant.ensures.sound path.positive
    (sym c.first_no_with.ensures.least ∙ c.unwrap-rule.ensures))

pub returns-in-Some-clause-leaf : goal.returns-in-Some-clause-leaf
returns-in-Some-clause-leaf c =
    let r = c.args.refuter.now in
    let row = with_value c.args.cells.now c.args.p c.args.v in
    let live = sym c.is_live.ensures ∙ c.if-not-is_live.false in
    let path = positive_value r c.args.cells.now c.args.p c.args.v c.requires.path c.requires.parameter c.requires.value (c.requires.told.positive live) in
    first_leaf r row (ByOmission c.in-Some.number)
    (omission_first r.model r.format r.earlier r.tuple row c.in-Some.number c.assert_invariant.ensures.sound path.positive
    (c.requires.told.unbroken live) (sym c.first_cited_with.ensures.least ∙ c.in-Some.is))

pub returns-in-None-clause-leafless : goal.returns-in-None-clause-leafless
returns-in-None-clause-leafless c none =
    let r = c.args.refuter.now in
    let row = with_value c.args.cells.now c.args.p c.args.v in
    let live = sym c.is_live.ensures ∙ c.if-not-is_live.false in
    let path = positive_value r c.args.cells.now c.args.p c.args.v c.requires.path c.requires.parameter c.requires.value (c.requires.told.positive live) in
    record {
      none = no_leaf r.model r.format r.earlier r.tuple row c.assert_invariant.ensures.sound path.positive (c.requires.told.unbroken live)
          (sym c.first_cited_with.ensures.least ∙ c.in-None.is);
    }
