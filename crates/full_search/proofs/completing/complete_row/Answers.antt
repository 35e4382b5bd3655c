use Rattle.std.proofs.Common.{◌≡◌, ℕ, ◌∙◌, not, length, List, Option, Some, sym, ap, subst}
use Rattle.definitions.specs.believed.Search.{constrained_params, is_failing}
use Rattle.live_sets.specs.Trail.{undone}
use Rattle.live_sets.proofs.TrailLemmas.{since_more}
use Rattle.feasibility.specs.Live.{ShowsLive}
use Rattle.feasibility.proofs.Nodes.{length-filled}
use Rattle.full_search.specs.Completing.{HasRow, IsSettled}
use Rattle.full_search.proofs.Holding.{row_fine}
use Rattle.full_search.proofs.Settling.{settled_all}
use Rattle.full_search.proofs.Starting.{started_at}
use Rattle.full_search.proofs.completing.complete_row.Goals as goal

pub settle_each-requires-clause-row : goal.settle_each-requires-clause-row
settle_each-requires-clause-row c =
    let tree = c.args.tree.now in
    let cells = c.args.cells.now in
    let fine = row_fine tree cells c.args.witness.now.row c.assert_invariant.ensures.values c.requires.listed c.requires.row in
    let started : c.start-fine.result ≡ not (is_failing tree.model tree.values cells) =
    c.start-fine.ensures.fails ∙ ap (λ (held : List (Option ℕ)). not (is_failing tree.model tree.values held)) c.copy_from.ensures in
    subst (λ (held : List (Option ℕ)). HasRow tree held c.start-fine.new.sets c.args.witness.now) (sym (c.start-fine.ensures.same ∙ c.copy_from.ensures))
    (record {
      at = started_at tree cells c.start-fine.new.sets c.args.witness.now c.assert_invariant.ensures.values c.requires.listed fine
          (subst (λ (held : List (Option ℕ)). ShowsLive tree.model tree.values held c.start-fine.new.sets) c.copy_from.ensures
          (c.start-fine.ensures.live (started ∙ ap not fine))) c.requires.kept c.requires.part;
      row = c.requires.row;
    })

pub returns-clause-completed : goal.returns-clause-completed
returns-clause-completed c =
    let tree = c.args.tree.now in
    let at = c.settle_each.ensures.row.at in
    ap Some c.fill.ensures
    ∙ sym (settled_all tree c.args.cells.now c.settle_each.new.cells c.assert_invariant.ensures.sound c.assert_invariant.ensures.values
    (subst (λ (start : List (Option ℕ)). IsSettled tree (length (constrained_params tree.model)) start c.settle_each.new.cells) (c.start-fine.ensures.same ∙ c.copy_from.ensures) c.settle_each.ensures.settled)
    at.listed at.node.node)

pub returns-clause-long : goal.returns-clause-long
returns-clause-long c =
    ap length c.fill.ensures ∙ length-filled c.args.tree.now.values c.settle_each.new.cells ∙ c.settle_each.ensures.row.at.listed.long
    ∙ sym c.requires.listed.long ∙ sym c.requires.long

pub returns-clause-sets : goal.returns-clause-sets
returns-clause-sets c =
    c.undo.ensures ∙ ap (undone c.settle_each.new.sets) c.trail_len-len.ensures
    ∙ (since_more c.args.sets.now c.start-fine.new.sets c.settle_each.new.sets c.start-fine.ensures.since c.settle_each.ensures.since).back
