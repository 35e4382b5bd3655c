use Rattle.std.proofs.Common.{◌≡◌, ◌<◌, ◌∙◌, length, arith, sym, ap, subst, refl}
use Rattle.std.specs.Option.{IfSome}
use Rattle.std.proofs.lemmas.Bool.{false≢true}
use Rattle.cov_model.specs.believed.Rows.{is_assigned, with_value}
use Rattle.cov_model.specs.believed.Sound.{param_at}
use Rattle.definitions.specs.believed.Search.{breaks_a_rule}
use Rattle.refutation.specs.Proofs.{meant}
use Rattle.feasibility.specs.Live.{HasUnmarked}
use Rattle.feasibility.specs.Refuting.{IsPath}
use Rattle.feasibility.specs.Tree.{TreeView}
use Rattle.feasibility.proofs.NarrowedSets.{count_none}
use Rattle.feasibility.proofs.Paths.{unmarked_of}
use Rattle.full_search.specs.Closing.{IsFirstLeaf, IsLeafBetween, TellsOf}
use Rattle.full_search.specs.Reasons.{Grows}
use Rattle.full_search.proofs.Grown.{grows_none, grows_on}
use Rattle.full_search.proofs.LeafTells.{some_by, stuck_tells}
use Rattle.full_search.proofs.PartTrees.{ClosesBelow, below_all, below_next, below_none, leaf_closes}
use Rattle.full_search.proofs.closing.close_stuck.Goals as goal

pub stuck_param-q-requires-clause-some : goal.stuck_param-q-requires-clause-some
stuck_param-q-requires-clause-some c =
    subst (λ (tree : TreeView). HasUnmarked tree.model c.args.cells.now c.args.sets.now.live) (sym c.tree.ensures)
    (unmarked_of c.args.refuter.now.model c.args.cells.now c.args.sets.now.live c.requires.unbroken c.requires.shows.why)

pub loop-v-init : goal.loop-v-init
loop-v-init c =
    let path = c.args.cells.now in
    let q = c.stuck_param-q.result in
    record {
      cells = refl;
      grows = subst (λ why. Grows path q why why) (sym c.clear.ensures) (grows_none (length c.args.why.now) path q c.requires.long);
      closes = below_none c.args.refuter.now c.clear.new.why path q c.push.new.self.items;
    }

pub leaf_with-requires-clause-free : goal.leaf_with-requires-clause-free
leaf_with-requires-clause-free c = ap (λ cells. is_assigned cells c.stuck_param-q.result) c.loop-v.invariant.cells ∙ c.stuck_param-q.ensures.free

pub leaf_with-requires-clause-path : goal.leaf_with-requires-clause-path
leaf_with-requires-clause-path c = subst (IsPath c.args.refuter.now) (sym c.loop-v.invariant.cells) c.requires.path

pub leaf_with-requires-clause-unbroken : goal.leaf_with-requires-clause-unbroken
leaf_with-requires-clause-unbroken c = ap (breaks_a_rule c.args.refuter.now.model) c.loop-v.invariant.cells ∙ c.requires.unbroken

pub leaf_with-requires-clause-told : goal.leaf_with-requires-clause-told
leaf_with-requires-clause-told c =
    let r = c.args.refuter.now in
    let q = c.stuck_param-q.result in
    let exists : c.loop-v.v < length (param_at r.model.params q).values = omega (arith, c.loop-v-test.true, c.count_of-v-end.ensures) in
    let exists_param = subst (λ (tree : TreeView). q < length tree.model.params) c.tree.ensures c.stuck_param-q.ensures.exists in
    subst (λ cells. TellsOf r.model cells c.args.sets.now q c.loop-v.v) (sym c.loop-v.invariant.cells)
    (stuck_tells r c.args.cells.now c.args.sets.now q c.loop-v.v c.assert_invariant.ensures.positive c.requires.path c.requires.shows exists_param exists
    c.stuck_param-q.ensures.free c.stuck_param-q.ensures.unmarked)

pub unwrap-token-requires : goal.unwrap-token-requires
unwrap-token-requires c =
    some_by c.leaf_with.result (λ none.
    false≢true (sym (count_none _ c.loop-v.v c.stuck_param-q.ensures.unmarked) ∙ c.leaf_with.ensures.live none))

pub returns-in_err-push-2-clause-long : goal.returns-in_err-push-2-clause-long
returns-in_err-push-2-clause-long c = c.loop-v.invariant.grows.part.long ∙ sym c.requires.long

pub returns-in_err-push-2-clause-same : goal.returns-in_err-push-2-clause-same
returns-in_err-push-2-clause-same c = c.leaf_with.ensures.same ∙ c.loop-v.invariant.cells

pub add_token-requires-clause-free : goal.add_token-requires-clause-free
add_token-requires-clause-free c =
    ap (λ cells. is_assigned cells c.stuck_param-q.result) (c.leaf_with.ensures.same ∙ c.loop-v.invariant.cells) ∙ c.stuck_param-q.ensures.free

pub add_token-requires-clause-path : goal.add_token-requires-clause-path
add_token-requires-clause-path c = subst (IsPath c.args.refuter.now) (sym (c.leaf_with.ensures.same ∙ c.loop-v.invariant.cells)) c.requires.path

pub add_token-requires-clause-leaf : goal.add_token-requires-clause-leaf
add_token-requires-clause-leaf c =
    let r = c.args.refuter.now in
    let q = c.stuck_param-q.result in
    let leaf : IsFirstLeaf r (with_value c.loop-v.cells q c.loop-v.v) (meant c.unwrap-token.result) =
    subst (λ found. IfSome found (λ token. IsFirstLeaf r (with_value c.loop-v.cells q c.loop-v.v) (meant token))) c.unwrap-token.ensures
    c.leaf_with.ensures.leaf in
    subst (λ cells. IsFirstLeaf r (with_value cells q c.loop-v.v) (meant c.unwrap-token.result)) (sym c.leaf_with.ensures.same) leaf

pub add_token-requires-clause-grows : goal.add_token-requires-clause-grows
add_token-requires-clause-grows c =
    subst (λ cells. Grows cells c.stuck_param-q.result c.loop-v.why c.loop-v.why) (sym (c.leaf_with.ensures.same ∙ c.loop-v.invariant.cells))
    c.loop-v.invariant.grows

pub loop-v-preserved : goal.loop-v-preserved
loop-v-preserved c =
    let r = c.args.refuter.now in
    let path = c.args.cells.now in
    let q = c.stuck_param-q.result in
    let v = c.loop-v.v in
    let why = c.loop-v.why in
    let more = c.add_token.new.why in
    let token = c.unwrap-token.result in
    let cells = c.leaf_with.ensures.same ∙ c.loop-v.invariant.cells in
    let grows = subst (λ row. Grows row q why more) cells c.add_token.ensures.grows in
    let leaf = subst (λ row. IsLeafBetween r more row q v (meant token)) cells c.add_token.ensures.leaf in
    record {
      cells = cells;
      grows = grows_on path q why more grows;
      closes = below_next r why more path q v c.push.new.self.items c.loop-v.tokens.items c.push-in-loop-v.new.self.items grows c.loop-v.invariant.closes
          (leaf_closes r more path q v token c.loop-v.tokens.items c.push-in-loop-v.new.self.items c.in_ok-push-2.ensures.items leaf);
    }

pub returns-clause-closed : goal.returns-clause-closed
returns-clause-closed c =
    let r = c.args.refuter.now in
    let q = c.stuck_param-q.result in
    let whole : c.loop-v.v ≡ length (param_at r.model.params q).values =
    omega (arith, c.loop-v-test.false, c.loop-v.auto.v-end, c.count_of-v-end.ensures) in
    let exists = subst (λ (tree : TreeView). q < length tree.model.params) c.tree.ensures c.stuck_param-q.ensures.exists in
    record {
      part = c.loop-v.invariant.grows.part;
      closes = below_all r c.loop-v.why c.args.cells.now q c.args.tokens.now.items c.push.new.self.items c.loop-v.tokens.items c.in_ok-push.ensures.items exists
          c.stuck_param-q.ensures.free c.requires.leafless
          (subst (λ n. ClosesBelow r c.loop-v.why c.args.cells.now q n c.push.new.self.items c.loop-v.tokens.items) whole c.loop-v.invariant.closes);
    }

pub returns-clause-long : goal.returns-clause-long
returns-clause-long c = c.loop-v.invariant.grows.part.long ∙ sym c.requires.long

pub returns-clause-same : goal.returns-clause-same
returns-clause-same c = c.loop-v.invariant.cells
