use Rattle.std.proofs.Common.{◌≡◌, ◌≢◌, ◌-◌, ℕ, List, None, true, length, get_or, arith, ap, subst, sym, inl, inr}
use Rattle.cov_model.specs.believed.Rows.{is_assigned, with_value}
use Rattle.cov_model.specs.believed.Tuples.{cells_of}
use Rattle.definitions.specs.believed.Refutation.{ByOmission, is_leaf, is_omission_leaf, is_rule_leaf}
use Rattle.refutation.specs.declared.omissions.Omission.{Omission}
use Rattle.refutation.specs.declared.token.TreeToken.{TreeToken}
use Rattle.refutation.specs.Proofs.{meant}
use Rattle.feasibility.specs.Tree.{TreeView}
use Rattle.full_search.specs.Reasons.{HasMembers}
use Rattle.full_search.proofs.ShorterLeaves.{HasLeafOf, leaf_between, omission_has, omission_within, omissions_many, rule_of_leaf}
use Rattle.full_search.proofs.closing.add_token.Goals as goal

pub add_members-requires-clause-first : goal.add_members-requires-clause-first
add_members-requires-clause-first c =
    let r = c.args.refuter.now in
    let row = with_value c.args.cells.now c.args.p c.args.v in
    let leaf : is_rule_leaf r.model row c.in-ByRule.rule ≡ true =
    subst (λ (token : TreeToken). is_leaf r.model r.format r.earlier r.tuple row (meant token) ≡ true) c.in-ByRule.is c.requires.leaf.possible in
    (rule_of_leaf r.model row c.in-ByRule.rule c.assert_invariant.ensures.sound leaf).some

pub add_members-requires-clause-last : goal.add_members-requires-clause-last
add_members-requires-clause-last c =
    let r = c.args.refuter.now in
    let row = with_value c.args.cells.now c.args.p c.args.v in
    let leaf : is_rule_leaf r.model row c.in-ByRule.rule ≡ true =
    subst (λ (token : TreeToken). is_leaf r.model r.format r.earlier r.tuple row (meant token) ≡ true) c.in-ByRule.is c.requires.leaf.possible in
    let most = (rule_of_leaf r.model row c.in-ByRule.rule c.assert_invariant.ensures.sound leaf).most in
    omega (arith, most, ap (λ (tree : TreeView). length tree.model.rules) c.tree.ensures)

pub bounds-as_slice-number : goal.bounds-as_slice-number
bounds-as_slice-number c =
    let r = c.args.refuter.now in
    let row = with_value c.args.cells.now c.args.p c.args.v in
    let leaf : is_omission_leaf r.model r.format r.earlier r.tuple row c.in-ByOmission.number ≡ true =
    subst (λ (token : TreeToken). is_leaf r.model r.format r.earlier r.tuple row (meant token) ≡ true) c.in-ByOmission.is c.requires.leaf.possible in
    let range = omission_within r row c.in-ByOmission.number leaf in
    omega (
      arith,
      range.0,
      range.1,
      omissions_many r c.omissions.result.now c.omissions.ensures.earlier,
      ap (λ (list : List Omission). length list) c.as_slice.ensures,
    )

pub returns-in-ByRule-clause-leaf : goal.returns-in-ByRule-clause-leaf
returns-in-ByRule-clause-leaf c =
    let r = c.args.refuter.now in
    let path = c.args.cells.now in
    let why = c.add_members.new.why in
    let members : HasMembers r.model c.in-ByRule.rule c.args.p path why =
    subst (λ (tree : TreeView). HasMembers tree.model c.in-ByRule.rule c.args.p path why) c.tree.ensures c.add_members.ensures.members in
    leaf_between r why path c.args.p c.args.v (meant c.args.token) c.assert_invariant.ensures.sound c.requires.path c.requires.parameter
    (subst (λ (token : TreeToken). HasLeafOf r path c.args.p why (meant token)) (sym c.in-ByRule.is) members) c.requires.leaf

pub returns-in-ByOmission-clause-leaf : goal.returns-in-ByOmission-clause-leaf
returns-in-ByOmission-clause-leaf c =
    let r = c.args.refuter.now in
    let path = c.args.cells.now in
    let why = c.add_tuple.new.why in
    let proof = c.omissions.result.now in
    let n = c.in-ByOmission.number in
    let row = with_value path c.args.p c.args.v in
    let leaf : is_omission_leaf r.model r.format r.earlier r.tuple row n ≡ true =
    subst (λ (token : TreeToken). is_leaf r.model r.format r.earlier r.tuple row (meant token) ≡ true) c.in-ByOmission.is c.requires.leaf.possible in
    let range = omission_within r row n leaf in
    let d = c.index-as_slice-number.result in
    let values = subst (λ (list : List Omission). (q : ℕ) → q ≢ c.args.p → is_assigned (cells_of (length path) (get_or list (n - 1) d).tuple) q ≡ true
    → get_or why q None ≡ get_or path q None) c.as_slice.ensures c.add_tuple.ensures.values in
    let has : HasLeafOf r path c.args.p why (ByOmission n) =
    omission_has r proof path c.args.p why n (n - 1) d c.omissions.ensures.earlier c.requires.path.fits.as_long (omega (arith, range.0))
    (omega (arith, range.0, range.1, omissions_many r proof c.omissions.ensures.earlier)) values in
    leaf_between r why path c.args.p c.args.v (meant c.args.token) c.assert_invariant.ensures.sound c.requires.path c.requires.parameter
    (subst (λ (token : TreeToken). HasLeafOf r path c.args.p why (meant token)) (sym c.in-ByOmission.is) has) c.requires.leaf

pub returns-in-ByNegative-clause-leaf : goal.returns-in-ByNegative-clause-leaf
returns-in-ByNegative-clause-leaf c =
    let r = c.args.refuter.now in
    let path = c.args.cells.now in
    let why = c.args.why.now in
    let at = λ (token : TreeToken). HasLeafOf r path c.args.p why (meant token) in
    let has : at c.args.token = elim c.in-ByNegative.is [ inl is ↦ subst at (sym is) tt | inr is ↦ subst at (sym is.1) tt ] in
    leaf_between r why path c.args.p c.args.v (meant c.args.token) c.assert_invariant.ensures.sound c.requires.path c.requires.parameter has c.requires.leaf
