use Rattle.std.proofs.Common.{◌≡◌, ◌∷◌, ◌∙◌, [], Some, None, length, not, sym, subst}
use Rattle.std.specs.Prelude.{find}
use Rattle.std.specs.List.{list_any, range_with_len}
use Rattle.std.proofs.lemmas.Bool.{not-true, or_parts}
use Rattle.cov_model.specs.believed.Valid.{param_numbers}
use Rattle.definitions.specs.believed.Refutation.{is_omission_leaf}
use Rattle.definitions.specs.believed.Search.{breaks_a_rule, is_failing, is_stuck}
use Rattle.refutation.specs.declared.token.TreeToken.TheVariants.{ByOmission}
use Rattle.feasibility.specs.Live.{ShowsLive}
use Rattle.feasibility.specs.Tree.{TreeView}
use Rattle.feasibility.proofs.AddedTrees.{closes_leaf}
use Rattle.feasibility.proofs.Leaves.{no_leaf, omission_first}
use Rattle.full_search.specs.Closing.{IsOpen}
use Rattle.full_search.specs.Reasons.{IsPart}
use Rattle.full_search.specs.Witnesses.{IsWitness}
use Rattle.full_search.proofs.PartTrees.{closes_within}
use Rattle.full_search.proofs.closing.close_started.Goals as goal

pub returns-in-Some-clause-closes : goal.returns-in-Some-clause-closes
returns-in-Some-clause-closes c =
    let r = c.args.refuter.now in
    let path = c.args.cells.now in
    let node : c.start.result ≡ not (is_failing r.model r.lists path) =
    subst (λ (tree : TreeView). c.start.result ≡ not (is_failing tree.model tree.values path)) c.tree.ensures c.start.ensures.fails in
    let unbroken = (or_parts (breaks_a_rule r.model path) (list_any (is_stuck r.model r.lists path) (param_numbers r.model))
    (not-true (is_failing r.model r.lists path) (sym node ∙ c.if-not-start.false))).0 in
    let cited : find (is_omission_leaf r.model r.format r.earlier r.tuple path) (range_with_len 1 (length r.earlier)) ≡ Some c.in-Some.number =
    subst (λ cells. find (is_omission_leaf r.model r.format r.earlier r.tuple cells) (range_with_len 1 (length r.earlier)) ≡ Some c.in-Some.number)
    c.start.ensures.same (sym c.first_cited.ensures ∙ c.in-Some.is) in
    closes_within r (path ∷ []) 0 c.args.tokens.now.items c.push.new.self.items
    (closes_leaf r path (ByOmission c.in-Some.number) c.args.tokens.now.items c.push.new.self.items c.in_ok-push.ensures.items
    (omission_first r.model r.format r.earlier r.tuple path c.in-Some.number c.assert_invariant.ensures.sound c.requires.path.positive unbroken cited))

pub close-requires-clause-open : goal.close-requires-clause-open
close-requires-clause-open c =
    let r = c.args.refuter.now in
    let path = c.args.cells.now in
    let same = c.start.ensures.same in
    let node : c.start.result ≡ not (is_failing r.model r.lists path) =
    subst (λ (tree : TreeView). c.start.result ≡ not (is_failing tree.model tree.values path)) c.tree.ensures c.start.ensures.fails in
    let live : ShowsLive r.model r.lists path c.start.new.sets =
    subst (λ (tree : TreeView). ShowsLive tree.model tree.values path c.start.new.sets) c.tree.ensures (c.start.ensures.live c.if-not-start.false) in
    let sound = not-true (is_failing r.model r.lists path) (sym node ∙ c.if-not-start.false) in
    let unbroken = (or_parts (breaks_a_rule r.model path) (list_any (is_stuck r.model r.lists path) (param_numbers r.model)) sound).0 in
    let uncited : find (is_omission_leaf r.model r.format r.earlier r.tuple path) (range_with_len 1 (length r.earlier)) ≡ None =
    subst (λ cells. find (is_omission_leaf r.model r.format r.earlier r.tuple cells) (range_with_len 1 (length r.earlier)) ≡ None)
    same (sym c.first_cited.ensures ∙ c.in_default.is) in
    let opened : IsOpen r path c.start.new.sets c.put_all.new.self = record {
      path = c.requires.path;
      leafless = record {
        none = no_leaf r.model r.format r.earlier r.tuple path c.assert_invariant.ensures.sound c.requires.path.positive unbroken uncited;
      };
      at = record {
        node = record { fits = c.requires.path.fits; node = sound; live = live };
        listed = c.requires.listed;
        kept = subst (λ (tree : TreeView). IsWitness tree c.put_all.new.self) c.tree-2.ensures c.put_all.ensures.witness;
        part = subst (λ cells. IsPart cells c.put_all.new.self.row) same c.put_all.ensures.part;
      };
      none = c.requires.none;
    } in
    subst (λ cells. IsOpen r cells c.start.new.sets c.put_all.new.self) (sym same) opened
