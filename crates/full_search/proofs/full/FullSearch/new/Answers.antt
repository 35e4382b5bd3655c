use Rattle.std.proofs.Common.{◌≡◌, ℕ, ◌∙◌, List, Option, None, length, replicate, sym, ap, subst}
use Rattle.std.proofs.lemmas.List.{length-replicate}
use Rattle.cov_model.specs.Preference.{OrdersValues}
use Rattle.cov_model.specs.believed.Sound.{ModelView}
use Rattle.definitions.specs.believed.Completion.{preferred_values}
use Rattle.definitions.specs.believed.Search.{is_failing}
use Rattle.definitions.specs.SliceRows.{IsSliceOf}
use Rattle.definitions.proofs.PartialRowLemmas.{length-preferred_values}
use Rattle.feasibility.specs.Live.{ShowsFailure, ShowsLive}
use Rattle.feasibility.specs.Tree.{TreeView, no_values}
use Rattle.feasibility.proofs.Nodes.{length-none}
use Rattle.full_search.proofs.Rows.{fine_lists}
use Rattle.full_search.proofs.Starting.{reasons_new}
use Rattle.full_search.proofs.full.FullSearch.new.Goals as goal

pub invariant_of-result : goal.invariant_of-result
invariant_of-result c =
    let m : ModelView = c.in_ok-tree.tree.model in
    let lists : List (List ℕ) = c.in_ok-tree.tree.values in
    let model = ap (λ (t : TreeView). t.model) c.in_ok-tree.ensures in
    let tried : lists ≡ preferred_values m c.args.prefs.now c.args.slice =
    ap (λ (t : TreeView). t.values) c.in_ok-tree.ensures ∙ ap (λ (w : ModelView). preferred_values w c.args.prefs.now c.args.slice) (sym model) in
    let count : c.len-count.result ≡ length m.params =
    c.len-count.ensures ∙ ap length c.params.ensures.value ∙ ap (λ (w : ModelView). length w.params) (sym model) in
    let room : c.in_ok-room.room ≡ no_values m = c.in_ok-room.ensures ∙ ap (λ (n : ℕ). replicate n None) count in
    record {
      slice = subst (λ (w : ModelView). IsSliceOf w c.args.slice) (sym model) c.requires.slice;
      orders = subst (λ (w : ModelView). OrdersValues w c.args.prefs.now) (sym model) c.requires.orders;
      tried = tried;
      room = length-none m c.begin-fails.new.cells (c.begin-fails.ensures.same ∙ room);
      ready = record {
        fails = c.begin-fails.ensures.fails ∙ ap (is_failing m lists) room;
        live = λ fine. subst (λ (cells : List (Option ℕ)). ShowsLive m lists cells c.begin-fails.new.sets) room (c.begin-fails.ensures.live fine);
        why = λ failing. subst (λ (cells : List (Option ℕ)). ShowsFailure m lists cells c.begin-fails.new.sets) room (c.begin-fails.ensures.why failing);
      };
      kept = λ fine. c.in_ok-witness.ensures.witness
          (fine_lists m lists (ap length tried ∙ length-preferred_values m c.args.prefs.now c.args.slice)
          (sym (ap (is_failing m lists) room) ∙ sym c.begin-fails.ensures.fails ∙ fine));
      row = ap length c.in_ok-saved.ensures ∙ length-replicate c.len-count.result None ∙ count;
      reasons = reasons_new m c.len-count.result c.in_ok-whys.whys.items count c.in_ok-whys.ensures;
      met = c.in_ok-conflicts.ensures (record { model = m; values = lists });
    }
