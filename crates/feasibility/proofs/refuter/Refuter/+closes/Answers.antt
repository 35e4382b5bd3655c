use Rattle.std.proofs.Common.{◌≡◌, ◌<◌, ◌+◌, ◌∷◌, ◌++◌, ◌∙◌, [], None, Some, is_some, if◌then◌else◌, Bool, ℕ, true, false, not}
use Rattle.std.proofs.Common.{drop, find, get_or, length, map, set, refl, sym, ap, subst, arith, lt-ltb}
use Rattle.std.specs.Prelude.{nat_lt}
use Rattle.std.specs.List.{range_with_len, sum_by}
use Rattle.std.specs.Result.{OnOk}
use Rattle.std.proofs.lemmas.Bool.{and_from, not-false, not-true}
use Rattle.std.proofs.lemmas.Result.{on_ok_weaker}
use Rattle.cov_model.specs.Fits.{FitsModel}
use Rattle.cov_model.specs.believed.Meaning.{value_at}
use Rattle.cov_model.specs.believed.Rows.{is_assigned, with_value}
use Rattle.cov_model.specs.believed.Sound.{param_at}
use Rattle.definitions.specs.believed.Refutation.{is_omission_leaf}
use Rattle.definitions.specs.believed.Search.{Outcome, breaks_a_rule, constrained_params, is_failing, visit}
use Rattle.definitions.proofs.Members.{of_among}
use Rattle.live_sets.specs.Trail.{mark_at}
use Rattle.refutation.specs.declared.token.TreeToken.TheVariants.{Branch, ByOmission}
use Rattle.feasibility.specs.Live.{ShowsFailure, ShowsLive}
use Rattle.feasibility.specs.Refuting.{Closes, HasNoLeaf, IsPath, value_cost}
use Rattle.feasibility.specs.Tree.{TreeView}
use Rattle.feasibility.proofs.AddedTrees.{closes_branch, closes_counted, closes_leaf, closes_more, closes_none}
use Rattle.feasibility.proofs.Costs.{all_tried, listed_cost, place_left, visit_node, visit_skip}
use Rattle.feasibility.proofs.Leaves.{no_leaf, omission_first}
use Rattle.feasibility.proofs.Naming.{constrained_exists, constrained_few}
use Rattle.feasibility.proofs.Nodes.{none_of, set_clear}
use Rattle.feasibility.proofs.Paths.{marked_value, positive_value, unmarked_value}
use Rattle.feasibility.proofs.Visits.{failing_outcome}
use Rattle.feasibility.proofs.refuter.Refuter.+closes.Goals as goal

pub close_live-enter-requires-clause-place : goal.close_live-enter-requires-clause-place
close_live-enter-requires-clause-place t c =
    subst (λ (s : TreeView). c.args.i < length (constrained_params s.model)) (sym c.tree.ensures) c.requires.place

pub close_live-enter-requires-clause-value : goal.close_live-enter-requires-clause-value
close_live-enter-requires-clause-value t c =
    subst (λ (s : TreeView). c.args.v < length (param_at s.model.params (get_or (constrained_params s.model) c.args.i 0)).values) (sym c.tree.ensures) c.requires.value

pub close_live-enter-requires-clause-fits : goal.close_live-enter-requires-clause-fits
close_live-enter-requires-clause-fits t c =
    subst (λ (s : TreeView). FitsModel s.model c.args.cells.now) (sym c.tree.ensures) c.requires.before.fits

pub close_live-enter-requires-clause-free : goal.close_live-enter-requires-clause-free
close_live-enter-requires-clause-free t c =
    subst (λ (s : TreeView). is_assigned c.args.cells.now (get_or (constrained_params s.model) c.args.i 0) ≡ false) (sym c.tree.ensures) c.requires.free

pub close_live-enter-requires-clause-node : goal.close_live-enter-requires-clause-node
close_live-enter-requires-clause-node t c =
    subst (λ (s : TreeView). is_failing s.model s.values c.args.cells.now ≡ false) (sym c.tree.ensures) c.requires.node

pub close_live-enter-requires-clause-live : goal.close_live-enter-requires-clause-live
close_live-enter-requires-clause-live t c =
    subst (λ (s : TreeView). ShowsLive s.model s.values c.args.cells.now c.args.sets.now) (sym c.tree.ensures) c.requires.live

pub close_live-overflow_add-i : goal.close_live-overflow_add-i
close_live-overflow_add-i t c = omega (arith, c.requires.place, constrained_few c.args.self.now.model c.assert_invariant.ensures.sound)

pub close_live-close_node-requires : goal.close_live-close_node-requires
close_live-close_node-requires t c =
    let r = c.args.self.now in
    let row = with_value c.args.cells.now (get_or (constrained_params r.model) c.args.i 0) c.args.v in
    let is : c.enter.new.cells ≡ row =
    c.enter.ensures.cells ∙ ap (λ (s : TreeView). with_value c.args.cells.now (get_or (constrained_params s.model) c.args.i 0) c.args.v) c.tree.ensures in
    let node : c.enter.result ≡ not (is_failing r.model r.lists row) =
    subst (λ (s : TreeView). c.enter.result ≡ not (is_failing s.model s.values
    (with_value c.args.cells.now (get_or (constrained_params s.model) c.args.i 0) c.args.v))) c.tree.ensures c.enter.ensures.fails in
    let live : ShowsLive r.model r.lists row c.enter.new.sets =
    subst (λ (s : TreeView). ShowsLive s.model s.values (with_value c.args.cells.now (get_or (constrained_params s.model) c.args.i 0) c.args.v)
    c.enter.new.sets) c.tree.ensures (c.enter.ensures.live c.if-enter.true) in (
      omega (arith, c.requires.place),
      (
        subst (IsPath r) (sym is) c.requires.path,
        (
          subst (HasNoLeaf r) (sym is) c.requires.leafless,
          (
            ap (is_failing r.model r.lists) is ∙ not-true (is_failing r.model r.lists row) (sym node ∙ c.if-enter.true),
            (
              subst (λ cells. ShowsLive r.model r.lists cells c.enter.new.sets) (sym is) live,
              ap (λ cells. (visit r.model r.lists (drop (c.args.i + 1) (constrained_params r.model)) cells).found) is ∙ c.requires.unfound,
            ),
          ),
        ),
      ),
    )

pub close_live-returns-then-enter-clause-closes : goal.close_live-returns-then-enter-clause-closes
close_live-returns-then-enter-clause-closes t c =
    let r = c.args.self.now in
    let is : c.enter.new.cells ≡ with_value c.args.cells.now (get_or (constrained_params r.model) c.args.i 0) c.args.v =
    c.enter.ensures.cells ∙ ap (λ (s : TreeView). with_value c.args.cells.now (get_or (constrained_params s.model) c.args.i 0) c.args.v) c.tree.ensures in
    subst (λ cells. OnOk c.close_node.result (Closes r (cells ∷ [])
    (visit r.model r.lists (drop (c.args.i + 1) (constrained_params r.model)) cells).cost c.args.tokens.now c.close_node.new.tokens)) is
    c.close_node.ensures.closes

pub close_live-returns-then-enter-clause-cells : goal.close_live-returns-then-enter-clause-cells
close_live-returns-then-enter-clause-cells t c =
    c.close_node.ensures.cells ∙ c.enter.ensures.cells
    ∙ ap (λ (s : TreeView). with_value c.args.cells.now (get_or (constrained_params s.model) c.args.i 0) c.args.v) c.tree.ensures

pub close_live-put_branch_of_leaves-requires-clause-path : goal.close_live-put_branch_of_leaves-requires-clause-path
close_live-put_branch_of_leaves-requires-clause-path t c =
    let r = c.args.self.now in
    let is : c.enter.new.cells ≡ with_value c.args.cells.now (get_or (constrained_params r.model) c.args.i 0) c.args.v =
    c.enter.ensures.cells ∙ ap (λ (s : TreeView). with_value c.args.cells.now (get_or (constrained_params s.model) c.args.i 0) c.args.v) c.tree.ensures in
    subst (IsPath r) (sym is) c.requires.path

pub close_live-put_branch_of_leaves-requires-clause-unbroken : goal.close_live-put_branch_of_leaves-requires-clause-unbroken
close_live-put_branch_of_leaves-requires-clause-unbroken t c =
    let r = c.args.self.now in
    let is : c.enter.new.cells ≡ with_value c.args.cells.now (get_or (constrained_params r.model) c.args.i 0) c.args.v =
    c.enter.ensures.cells ∙ ap (λ (s : TreeView). with_value c.args.cells.now (get_or (constrained_params s.model) c.args.i 0) c.args.v) c.tree.ensures in
    ap (breaks_a_rule r.model) is ∙ c.requires.unbroken

pub close_live-put_branch_of_leaves-requires-clause-leafless : goal.close_live-put_branch_of_leaves-requires-clause-leafless
close_live-put_branch_of_leaves-requires-clause-leafless t c =
    let r = c.args.self.now in
    let is : c.enter.new.cells ≡ with_value c.args.cells.now (get_or (constrained_params r.model) c.args.i 0) c.args.v =
    c.enter.ensures.cells ∙ ap (λ (s : TreeView). with_value c.args.cells.now (get_or (constrained_params s.model) c.args.i 0) c.args.v) c.tree.ensures in
    subst (HasNoLeaf r) (sym is) c.requires.leafless

pub close_live-put_branch_of_leaves-requires-clause-why : goal.close_live-put_branch_of_leaves-requires-clause-why
close_live-put_branch_of_leaves-requires-clause-why t c =
    let r = c.args.self.now in
    let row = with_value c.args.cells.now (get_or (constrained_params r.model) c.args.i 0) c.args.v in
    let is : c.enter.new.cells ≡ row =
    c.enter.ensures.cells ∙ ap (λ (s : TreeView). with_value c.args.cells.now (get_or (constrained_params s.model) c.args.i 0) c.args.v) c.tree.ensures in
    let why : ShowsFailure r.model r.lists row c.enter.new.sets =
    subst (λ (s : TreeView). ShowsFailure s.model s.values (with_value c.args.cells.now (get_or (constrained_params s.model) c.args.i 0) c.args.v)
    c.enter.new.sets) c.tree.ensures (c.enter.ensures.why c.if-enter.false) in
    subst (λ cells. ShowsFailure r.model r.lists cells c.enter.new.sets) (sym is) why

pub close_live-returns-clause-closes : goal.close_live-returns-clause-closes
close_live-returns-clause-closes t c =
    let r = c.args.self.now in
    let row = with_value c.args.cells.now (get_or (constrained_params r.model) c.args.i 0) c.args.v in
    let params = drop (c.args.i + 1) (constrained_params r.model) in
    let is : c.enter.new.cells ≡ row =
    c.enter.ensures.cells ∙ ap (λ (s : TreeView). with_value c.args.cells.now (get_or (constrained_params s.model) c.args.i 0) c.args.v) c.tree.ensures in
    let node : c.enter.result ≡ not (is_failing r.model r.lists row) =
    subst (λ (s : TreeView). c.enter.result ≡ not (is_failing s.model s.values
    (with_value c.args.cells.now (get_or (constrained_params s.model) c.args.i 0) c.args.v))) c.tree.ensures c.enter.ensures.fails in
    let one : (visit r.model r.lists params row).cost ≡ 1 =
    ap (λ (outcome : Outcome). outcome.cost)
    (failing_outcome r.model r.lists params row (not-false (is_failing r.model r.lists row) (sym node ∙ c.if-enter.false))) in
    subst (λ (most : ℕ). OnOk c.put_branch_of_leaves.result (Closes r (row ∷ []) most c.args.tokens.now c.put_branch_of_leaves.new.tokens)) (sym one)
    (subst (λ cells. OnOk c.put_branch_of_leaves.result (Closes r (cells ∷ []) 1 c.args.tokens.now c.put_branch_of_leaves.new.tokens)) is c.put_branch_of_leaves.ensures.closes)

pub close_live-returns-clause-cells : goal.close_live-returns-clause-cells
close_live-returns-clause-cells t c =
    c.put_branch_of_leaves.ensures.same ∙ c.enter.ensures.cells
    ∙ ap (λ (s : TreeView). with_value c.args.cells.now (get_or (constrained_params s.model) c.args.i 0) c.args.v) c.tree.ensures

pub close_node-constrained_param-p-requires : goal.close_node-constrained_param-p-requires
close_node-constrained_param-p-requires t c =
    place_left c.args.self.now.model c.args.self.now.lists (constrained_params c.args.self.now.model) c.args.i c.args.cells.now c.requires.node c.requires.unfound

pub close_node-get-requires : goal.close_node-get-requires
close_node-get-requires t c =
    let r = c.args.self.now in
    let within = place_left r.model r.lists (constrained_params r.model) c.args.i c.args.cells.now c.requires.node c.requires.unfound in
    omega (arith, constrained_exists r.model c.args.i within, c.constrained_param-p.ensures, c.requires.path.fits.as_long)

pub close_node-overflow_add-i : goal.close_node-overflow_add-i
close_node-overflow_add-i t c =
    let r = c.args.self.now in
    let within = place_left r.model r.lists (constrained_params r.model) c.args.i c.args.cells.now c.requires.node c.requires.unfound in
    omega (arith, within, constrained_few r.model c.assert_invariant.ensures.sound)

pub close_node-close_node-requires : goal.close_node-close_node-requires
close_node-close_node-requires t c =
    let r = c.args.self.now in
    let within = place_left r.model r.lists (constrained_params r.model) c.args.i c.args.cells.now c.requires.node c.requires.unfound in
    let given = ap (is_assigned c.args.cells.now) (sym c.constrained_param-p.ensures) ∙ ap is_some (sym c.get.ensures) ∙ sym c.is_some.ensures
    ∙ c.if-is_some.true in
    let skip = visit_skip r.model r.lists (constrained_params r.model) c.args.i c.args.cells.now within given in (
      omega (arith, within),
      (
        c.requires.path,
        (
          c.requires.leafless,
          (c.requires.node, (c.requires.live, ap (λ (outcome : Outcome). outcome.found) (sym skip) ∙ c.requires.unfound)),
        ),
      ),
    )

pub close_node-returns-then-is_some-clause-closes : goal.close_node-returns-then-is_some-clause-closes
close_node-returns-then-is_some-clause-closes t c =
    let r = c.args.self.now in
    let within = place_left r.model r.lists (constrained_params r.model) c.args.i c.args.cells.now c.requires.node c.requires.unfound in
    let given = ap (is_assigned c.args.cells.now) (sym c.constrained_param-p.ensures) ∙ ap is_some (sym c.get.ensures) ∙ sym c.is_some.ensures
    ∙ c.if-is_some.true in
    subst (λ (outcome : Outcome). OnOk c.close_node.result (Closes r (c.args.cells.now ∷ []) outcome.cost c.args.tokens.now c.close_node.new.tokens))
    (sym (visit_skip r.model r.lists (constrained_params r.model) c.args.i c.args.cells.now within given)) c.close_node.ensures.closes

pub close_node-count_of-count-requires : goal.close_node-count_of-count-requires
close_node-count_of-count-requires t c =
    let r = c.args.self.now in
    let within = place_left r.model r.lists (constrained_params r.model) c.args.i c.args.cells.now c.requires.node c.requires.unfound in
    omega (arith, constrained_exists r.model c.args.i within, c.constrained_param-p.ensures)

pub close_node-loop-v-init : goal.close_node-loop-v-init
close_node-loop-v-init t c = record {
  count = c.count_of-count.ensures;
  cells = refl;
  sets = refl;
  closes = closes_none c.args.self.now c.push.new.self;
}

pub close_node-close_value-requires : goal.close_node-close_value-requires
close_node-close_value-requires t c =
    let r = c.args.self.now in
    let p = get_or (constrained_params r.model) c.args.i 0 in
    let visited = visit r.model r.lists (drop (c.args.i + 1) (constrained_params r.model)) in
    let within = place_left r.model r.lists (constrained_params r.model) c.args.i c.args.cells.now c.requires.node c.requires.unfound in
    let free : is_assigned c.args.cells.now p ≡ false =
    ap (is_assigned c.args.cells.now) (sym c.constrained_param-p.ensures) ∙ ap is_some (sym c.get.ensures) ∙ sym c.is_some.ensures ∙ c.if-is_some.false in
    let node = visit_node r.model r.lists (constrained_params r.model) c.args.i c.args.cells.now within free c.requires.node in
    let tried = all_tried visited c.args.cells.now p (get_or r.lists p []) (sym (ap (λ (outcome : Outcome). outcome.found) node) ∙ c.requires.unfound) in
    let cells = c.loop-v.invariant.cells in (
      omega (arith, within),
      (
        within,
        (
          subst (λ (q : ℕ). c.loop-v.v < length (param_at r.model.params q).values) c.constrained_param-p.ensures
              (omega (arith, c.loop-v-test.true, c.loop-v.invariant.count)),
          (
            ap (λ row. is_assigned row p) cells ∙ free,
            (
              subst (IsPath r) (sym cells) c.requires.path,
              (
                subst (HasNoLeaf r) (sym cells) c.requires.leafless,
                (
                  ap (is_failing r.model r.lists) cells ∙ c.requires.node,
                  (
                    subst (λ row. ShowsLive r.model r.lists row c.loop-v.sets) (sym cells)
                        (subst (ShowsLive r.model r.lists c.args.cells.now) (sym c.loop-v.invariant.sets) c.requires.live),
                    λ listed. ap (λ row. (visited (with_value row p c.loop-v.v)).found) cells ∙ tried.each c.loop-v.v
                        (of_among (get_or r.lists p []) c.loop-v.v listed),
                  ),
                ),
              ),
            ),
          ),
        ),
      ),
    )

pub close_node-loop-v-preserved : goal.close_node-loop-v-preserved
close_node-loop-v-preserved t c =
    let r = c.args.self.now in
    let p = c.constrained_param-p.result in
    let params = drop (c.args.i + 1) (constrained_params r.model) in
    let at = λ (q : ℕ). Closes r (with_value c.args.cells.now q c.loop-v.v ∷ []) (value_cost r params c.args.cells.now q c.loop-v.v) c.loop-v.tokens
    c.close_value.new.tokens in
    let one : at p =
    subst at (sym c.constrained_param-p.ensures)
    (subst (λ row. Closes r (with_value row (get_or (constrained_params r.model) c.args.i 0) c.loop-v.v ∷ [])
    (value_cost r params row (get_or (constrained_params r.model) c.args.i 0) c.loop-v.v) c.loop-v.tokens c.close_value.new.tokens)
    c.loop-v.invariant.cells c.in_ok-close_value.ensures.closes) in
    record {
      count = c.loop-v.invariant.count;
      cells = c.in_ok-close_value.ensures.cells ∙ c.loop-v.invariant.cells;
      sets = c.in_ok-close_value.ensures.sets ∙ c.loop-v.invariant.sets;
      closes = closes_counted r (with_value c.args.cells.now p) (value_cost r params c.args.cells.now p) c.loop-v.v c.push.new.self c.loop-v.tokens
          c.close_value.new.tokens c.loop-v.invariant.closes one;
    }

pub close_node-returns-clause-closes : goal.close_node-returns-clause-closes
close_node-returns-clause-closes t c =
    let r = c.args.self.now in
    let p = get_or (constrained_params r.model) c.args.i 0 in
    let params = drop (c.args.i + 1) (constrained_params r.model) in
    let visited = visit r.model r.lists params in
    let within = place_left r.model r.lists (constrained_params r.model) c.args.i c.args.cells.now c.requires.node c.requires.unfound in
    let low = constrained_exists r.model c.args.i within in
    let free : is_assigned c.args.cells.now p ≡ false =
    ap (is_assigned c.args.cells.now) (sym c.constrained_param-p.ensures) ∙ ap is_some (sym c.get.ensures) ∙ sym c.is_some.ensures ∙ c.if-is_some.false in
    let node = visit_node r.model r.lists (constrained_params r.model) c.args.i c.args.cells.now within free c.requires.node in
    let tried = all_tried visited c.args.cells.now p (get_or r.lists p []) (sym (ap (λ (outcome : Outcome). outcome.found) node) ∙ c.requires.unfound) in
    let whole : c.loop-v.v ≡ length (param_at r.model.params c.constrained_param-p.result).values =
    omega (arith, c.loop-v-test.false, c.loop-v.invariant.count) in
    let count = length (param_at r.model.params p).values in
    let below = λ (q n : ℕ). Closes r (map (with_value c.args.cells.now q) (range_with_len 0 n))
    (sum_by (value_cost r params c.args.cells.now q) (range_with_len 0 n)) c.push.new.self c.loop-v.tokens in
    let all : below p count =
    subst (λ (q : ℕ). below q (length (param_at r.model.params q).values)) c.constrained_param-p.ensures
    (subst (below c.constrained_param-p.result) whole c.loop-v.invariant.closes) in
    let start : c.push.new.self ≡ c.args.tokens.now ++ Branch p ∷ [] =
    c.in_ok-push.ensures.ok ∙ ap (λ (q : ℕ). c.args.tokens.now ++ Branch q ∷ []) c.constrained_param-p.ensures in
    let branch = closes_branch r c.args.cells.now p (sum_by (value_cost r params c.args.cells.now p) (range_with_len 0 count)) c.args.tokens.now
    c.push.new.self c.loop-v.tokens start
    (and_from (nat_lt p (length r.model.params)) (not (is_assigned c.args.cells.now p)) (lt-ltb p (length r.model.params) low) (ap not free))
    c.requires.leafless all in
    closes_more r (c.args.cells.now ∷ []) _ (visit r.model r.lists (drop c.args.i (constrained_params r.model)) c.args.cells.now).cost c.args.tokens.now
    c.loop-v.tokens
    (omega (
      arith,
      listed_cost (λ (v : ℕ). (visited (with_value c.args.cells.now p v)).cost) (get_or r.lists p []) 0 count,
      tried.cost,
      ap (λ (outcome : Outcome). outcome.cost) node,
    ))
    branch

pub close_value-put_value_leaf-requires-clause-dead : goal.close_value-put_value_leaf-requires-clause-dead
close_value-put_value_leaf-requires-clause-dead t c =
    let r = c.args.self.now in
    subst (λ (q : ℕ). (value_at r.model q c.args.v).negative ≡ false → breaks_a_rule r.model (with_value c.args.cells.now q c.args.v) ≡ true)
    (sym c.constrained_param-p.ensures)
    (unmarked_value r c.args.cells.now c.args.sets.now (get_or (constrained_params r.model) c.args.i 0) c.args.v c.assert_invariant.ensures.positive
    c.requires.path c.requires.live (constrained_exists r.model c.args.i c.requires.place) c.requires.value c.requires.free
    (ap (λ (q : ℕ). mark_at c.args.sets.now.live q c.args.v) (sym c.constrained_param-p.ensures) ∙ sym c.is_live.ensures ∙ c.if-not-is_live.true))

pub close_value-returns-in-Some-clause-closes : goal.close_value-returns-in-Some-clause-closes
close_value-returns-in-Some-clause-closes t c =
    let r = c.args.self.now in
    let p = get_or (constrained_params r.model) c.args.i 0 in
    let row = with_value c.args.cells.now p c.args.v in
    let low = constrained_exists r.model c.args.i c.requires.place in
    let live = marked_value r c.args.cells.now c.args.sets.now p c.args.v c.assert_invariant.ensures.positive c.requires.path c.requires.live low
    c.requires.value c.requires.free
    (ap (λ (q : ℕ). mark_at c.args.sets.now.live q c.args.v) (sym c.constrained_param-p.ensures) ∙ sym c.is_live.ensures ∙ c.if-not-is_live.false) in
    let path = positive_value r c.args.cells.now p c.args.v c.requires.path low c.requires.value live.positive in
    let cited = λ (q : ℕ). find (is_omission_leaf r.model r.format r.earlier r.tuple (with_value c.args.cells.now q c.args.v))
    (range_with_len 1 (length r.earlier)) in
    let found : cited p ≡ Some c.in-Some.number =
    ap cited (sym c.constrained_param-p.ensures) ∙ sym {b = cited c.constrained_param-p.result} c.first_cited_with.ensures.least ∙ c.in-Some.is in
    on_ok_weaker c.push.result
    (λ pushed. closes_more r (row ∷ []) 0 (value_cost r (drop (c.args.i + 1) (constrained_params r.model)) c.args.cells.now p c.args.v) c.args.tokens.now
    c.push.new.self (omega arith)
    (closes_leaf r row (ByOmission c.in-Some.number) c.args.tokens.now c.push.new.self pushed
    (omission_first r.model r.format r.earlier r.tuple row c.in-Some.number c.assert_invariant.ensures.sound path.positive live.unbroken found)))
    c.push.ensures.ok

pub close_value-close_live-closed-requires : goal.close_value-close_live-closed-requires
close_value-close_live-closed-requires t c =
    let r = c.args.self.now in
    let p = get_or (constrained_params r.model) c.args.i 0 in
    let row = with_value c.args.cells.now p c.args.v in
    let low = constrained_exists r.model c.args.i c.requires.place in
    let live = marked_value r c.args.cells.now c.args.sets.now p c.args.v c.assert_invariant.ensures.positive c.requires.path c.requires.live low
    c.requires.value c.requires.free
    (ap (λ (q : ℕ). mark_at c.args.sets.now.live q c.args.v) (sym c.constrained_param-p.ensures) ∙ sym c.is_live.ensures ∙ c.if-not-is_live.false) in
    let path = positive_value r c.args.cells.now p c.args.v c.requires.path low c.requires.value live.positive in
    let cited = λ (q : ℕ). find (is_omission_leaf r.model r.format r.earlier r.tuple (with_value c.args.cells.now q c.args.v))
    (range_with_len 1 (length r.earlier)) in
    let none : cited p ≡ None =
    ap cited (sym c.constrained_param-p.ensures) ∙ sym {b = cited c.constrained_param-p.result} c.first_cited_with.ensures.least ∙ c.in_default.is in
    let cells = c.first_cited_with.ensures.same in
    let same : with_value c.first_cited_with.new.cells p c.args.v ≡ row = ap (λ start. with_value start p c.args.v) cells in (
      omega (arith, c.requires.place),
      (
        c.requires.place,
        (
          c.requires.value,
          (
            ap (λ start. is_assigned start p) cells ∙ c.requires.free,
            (
              subst (IsPath r) (sym same) path,
              (
                subst (IsPath r) (sym cells) c.requires.path,
                (
                  ap (breaks_a_rule r.model) same ∙ live.unbroken,
                  (
                    subst (HasNoLeaf r) (sym same) (record {
                      none = no_leaf r.model r.format r.earlier r.tuple row c.assert_invariant.ensures.sound path.positive live.unbroken none;
                    }),
                    (
                      ap (is_failing r.model r.lists) cells ∙ c.requires.node,
                      (
                        subst (λ start. ShowsLive r.model r.lists start c.args.sets.now) (sym cells) c.requires.live,
                        ap (λ start. (visit r.model r.lists (drop (c.args.i + 1) (constrained_params r.model)) start).found) same
                            ∙ c.requires.unfound live.listed,
                      ),
                    ),
                  ),
                ),
              ),
            ),
          ),
        ),
      ),
    )

pub close_value-returns-clause-closes : goal.close_value-returns-clause-closes
close_value-returns-clause-closes t c =
    let r = c.args.self.now in
    let p = get_or (constrained_params r.model) c.args.i 0 in
    let row = with_value c.args.cells.now p c.args.v in
    let params = drop (c.args.i + 1) (constrained_params r.model) in
    let live = marked_value r c.args.cells.now c.args.sets.now p c.args.v c.assert_invariant.ensures.positive c.requires.path c.requires.live
    (constrained_exists r.model c.args.i c.requires.place) c.requires.value c.requires.free
    (ap (λ (q : ℕ). mark_at c.args.sets.now.live q c.args.v) (sym c.constrained_param-p.ensures) ∙ sym c.is_live.ensures ∙ c.if-not-is_live.false) in
    let cost : (visit r.model r.lists params row).cost ≡ value_cost r params c.args.cells.now p c.args.v =
    sym (ap (λ (b : Bool). if b then (visit r.model r.lists params row).cost else 0) live.listed) in
    subst (λ (most : ℕ). OnOk c.close_live-closed.result (Closes r (row ∷ []) most c.args.tokens.now c.close_live-closed.new.tokens)) cost
    (subst (λ start. OnOk c.close_live-closed.result (Closes r (with_value start p c.args.v ∷ [])
    (visit r.model r.lists params (with_value start p c.args.v)).cost c.args.tokens.now c.close_live-closed.new.tokens)) c.first_cited_with.ensures.same
    c.close_live-closed.ensures.closes)

pub close_value-returns-clause-cells : goal.close_value-returns-clause-cells
close_value-returns-clause-cells t c =
    let p = get_or (constrained_params c.args.self.now.model) c.args.i 0 in
    c.clear_cell.ensures
    ∙ ap (λ (q : ℕ). set c.close_live-closed.new.cells q None) c.constrained_param-p.ensures
    ∙ ap (λ row. set row p None) (c.close_live-closed.ensures.cells ∙ ap (λ start. with_value start p c.args.v) c.first_cited_with.ensures.same)
    ∙ set_clear c.args.cells.now p c.args.v (none_of (get_or c.args.cells.now p None) c.requires.free)
