use Rattle.std.proofs.Common.{◌≡◌, ◌∷◌, ◌∙◌, [], ℕ, Some, None, false, length, not, sym, ap, subst, arith}
use Rattle.std.specs.Prelude.{find}
use Rattle.std.specs.List.{list_any, range_with_len}
use Rattle.std.specs.Result.{OnOk}
use Rattle.std.proofs.lemmas.Bool.{not-false, not-true, or_parts}
use Rattle.std.proofs.lemmas.Result.{on_ok_weaker}
use Rattle.cov_model.specs.Fits.{FitsModel}
use Rattle.cov_model.specs.believed.Valid.{param_numbers}
use Rattle.definitions.specs.believed.Refutation.{is_omission_leaf}
use Rattle.definitions.specs.believed.Search.{Outcome, breaks_a_rule, constrained_params, is_failing, is_stuck, visit}
use Rattle.refutation.specs.declared.token.TreeToken.TheVariants.{ByOmission}
use Rattle.feasibility.specs.Live.{ShowsFailure, ShowsLive}
use Rattle.feasibility.specs.Refuting.{Closes, HasNoLeaf, IsPath}
use Rattle.feasibility.specs.Tree.{TreeView, no_values}
use Rattle.feasibility.proofs.AddedTrees.{closes_leaf, closes_more}
use Rattle.feasibility.proofs.Leaves.{no_leaf, omission_first}
use Rattle.feasibility.proofs.Visits.{failing_outcome}
use Rattle.feasibility.proofs.refuter.Refuter.close_started.Goals as goal

pub start-requires-clause-fits : goal.start-requires-clause-fits
start-requires-clause-fits c =
    subst (λ (s : TreeView). FitsModel s.model c.args.cells.now) (sym c.tree.ensures) c.requires.path.fits

pub start-requires-clause-node : goal.start-requires-clause-node
start-requires-clause-node c =
    subst (λ (s : TreeView). is_failing s.model s.values (no_values s.model) ≡ false) (sym c.tree.ensures) c.requires.node

pub start-requires-clause-live : goal.start-requires-clause-live
start-requires-clause-live c =
    subst (λ (s : TreeView). ShowsLive s.model s.values (no_values s.model) c.args.sets.now) (sym c.tree.ensures) c.requires.live

pub close_failing-requires-clause-path : goal.close_failing-requires-clause-path
close_failing-requires-clause-path c =
    subst (IsPath c.args.self.now) (sym c.start.ensures.same) c.requires.path

pub close_failing-requires-clause-why : goal.close_failing-requires-clause-why
close_failing-requires-clause-why c =
    let r = c.args.self.now in
    subst (λ cells. ShowsFailure r.model r.lists cells c.start.new.sets) (sym c.start.ensures.same)
    (subst (λ (s : TreeView). ShowsFailure s.model s.values c.args.cells.now c.start.new.sets) c.tree.ensures (c.start.ensures.why c.if-not-start.true))

pub close_node-requires-clause-path : goal.close_node-requires-clause-path
close_node-requires-clause-path c =
    subst (IsPath c.args.self.now) (sym c.start.ensures.same) c.requires.path

pub close_node-requires-clause-node : goal.close_node-requires-clause-node
close_node-requires-clause-node c =
    let r = c.args.self.now in
    let node : c.start.result ≡ not (is_failing r.model r.lists c.args.cells.now) =
    subst (λ (s : TreeView). c.start.result ≡ not (is_failing s.model s.values c.args.cells.now)) c.tree.ensures c.start.ensures.fails in
    ap (is_failing r.model r.lists) c.start.ensures.same
    ∙ not-true (is_failing r.model r.lists c.args.cells.now) (sym node ∙ c.if-not-start.false)

pub close_node-requires-clause-live : goal.close_node-requires-clause-live
close_node-requires-clause-live c =
    let r = c.args.self.now in
    subst (λ cells. ShowsLive r.model r.lists cells c.start.new.sets) (sym c.start.ensures.same)
    (subst (λ (s : TreeView). ShowsLive s.model s.values c.args.cells.now c.start.new.sets) c.tree.ensures (c.start.ensures.live c.if-not-start.false))

pub close_node-requires-clause-unfound : goal.close_node-requires-clause-unfound
close_node-requires-clause-unfound c =
    let r = c.args.self.now in
    ap (λ cells. (visit r.model r.lists (constrained_params r.model) cells).found) c.start.ensures.same ∙ c.requires.unfound

pub returns-then-not-start-clause-closes : goal.returns-then-not-start-clause-closes
returns-then-not-start-clause-closes c =
    let r = c.args.self.now in
    let node : c.start.result ≡ not (is_failing r.model r.lists c.args.cells.now) =
    subst (λ (s : TreeView). c.start.result ≡ not (is_failing s.model s.values c.args.cells.now)) c.tree.ensures c.start.ensures.fails in
    let one : (visit r.model r.lists (constrained_params r.model) c.args.cells.now).cost ≡ 1 =
    ap (λ (outcome : Outcome). outcome.cost)
    (failing_outcome r.model r.lists (constrained_params r.model) c.args.cells.now
    (not-false (is_failing r.model r.lists c.args.cells.now) (sym node ∙ c.if-not-start.true))) in
    subst (λ (most : ℕ). OnOk c.close_failing.result (Closes r (c.args.cells.now ∷ []) most c.args.tokens.now c.close_failing.new.tokens)) (sym one)
    (subst (λ cells. OnOk c.close_failing.result (Closes r (cells ∷ []) 1 c.args.tokens.now c.close_failing.new.tokens)) c.start.ensures.same
    c.close_failing.ensures.closes)

pub returns-in-Some-clause-closes : goal.returns-in-Some-clause-closes
returns-in-Some-clause-closes c =
    let r = c.args.self.now in
    let path = c.args.cells.now in
    let node : c.start.result ≡ not (is_failing r.model r.lists path) =
    subst (λ (s : TreeView). c.start.result ≡ not (is_failing s.model s.values path)) c.tree.ensures c.start.ensures.fails in
    let unbroken = (or_parts (breaks_a_rule r.model path) (list_any (is_stuck r.model r.lists path) (param_numbers r.model))
    (not-true (is_failing r.model r.lists path) (sym node ∙ c.if-not-start.false))).0 in
    let cited : find (is_omission_leaf r.model r.format r.earlier r.tuple path) (range_with_len 1 (length r.earlier)) ≡ Some c.in-Some.number =
    subst (λ cells. find (is_omission_leaf r.model r.format r.earlier r.tuple cells) (range_with_len 1 (length r.earlier)) ≡ Some c.in-Some.number)
    c.start.ensures.same (sym c.first_cited.ensures ∙ c.in-Some.is) in
    on_ok_weaker c.push.result
    (λ pushed. closes_more r (path ∷ []) 0 (visit r.model r.lists (constrained_params r.model) path).cost c.args.tokens.now c.push.new.self (omega arith)
    (closes_leaf r path (ByOmission c.in-Some.number) c.args.tokens.now c.push.new.self pushed
    (omission_first r.model r.format r.earlier r.tuple path c.in-Some.number c.assert_invariant.ensures.sound c.requires.path.positive
    unbroken cited)))
    c.push.ensures.ok

pub close_node-requires-clause-leafless : goal.close_node-requires-clause-leafless
close_node-requires-clause-leafless c =
    let r = c.args.self.now in
    let path = c.args.cells.now in
    let node : c.start.result ≡ not (is_failing r.model r.lists path) =
    subst (λ (s : TreeView). c.start.result ≡ not (is_failing s.model s.values path)) c.tree.ensures c.start.ensures.fails in
    let unbroken = (or_parts (breaks_a_rule r.model path) (list_any (is_stuck r.model r.lists path) (param_numbers r.model))
    (not-true (is_failing r.model r.lists path) (sym node ∙ c.if-not-start.false))).0 in
    let uncited : find (is_omission_leaf r.model r.format r.earlier r.tuple path) (range_with_len 1 (length r.earlier)) ≡ None =
    subst (λ cells. find (is_omission_leaf r.model r.format r.earlier r.tuple cells) (range_with_len 1 (length r.earlier)) ≡ None)
    c.start.ensures.same (sym c.first_cited.ensures ∙ c.in_default.is) in
    subst (HasNoLeaf r) (sym c.start.ensures.same) (record {
      none = no_leaf r.model r.format r.earlier r.tuple path c.assert_invariant.ensures.sound c.requires.path.positive unbroken uncited;
    })
