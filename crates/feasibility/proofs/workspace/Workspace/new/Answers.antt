use Rattle.std.proofs.Common.{◌≡◌, ℕ, List, Option, None, length, replicate, ◌∙◌, sym, ap, subst}
use Rattle.cov_model.specs.believed.Sound.{ModelView}
use Rattle.definitions.specs.believed.Search.{is_failing}
use Rattle.feasibility.specs.Live.{ShowsFailure, ShowsLive}
use Rattle.feasibility.specs.KeptTrees.{IsKeptTree, no_tree}
use Rattle.feasibility.specs.Recurring.{AreAnswered, unanswered}
use Rattle.feasibility.specs.Tree.{no_values}
use Rattle.feasibility.proofs.KeptTrees.{none_is_kept}
use Rattle.feasibility.proofs.Nodes.{length-none}
use Rattle.feasibility.proofs.Recurring.{unanswered_are}
use Rattle.feasibility.proofs.workspace.Workspace.new.Goals as goal

pub begin-fails-requires-clause-none : goal.begin-fails-requires-clause-none
begin-fails-requires-clause-none c =
    c.in_ok-room.ensures ∙ ap (λ n. replicate n None) (c.len-count.ensures ∙ ap length c.params.ensures.value ∙ ap (λ (m : ModelView). length m.params) c.model.ensures)

pub returns : goal.returns
returns c =
    let m : ModelView = c.args.tree.now.model in
    let lists : List (List ℕ) = c.args.tree.now.values in
    let count : c.len-count.result ≡ length m.params =
    c.len-count.ensures ∙ ap length c.params.ensures.value ∙ ap (λ (w : ModelView). length w.params) c.model.ensures in
    let room : c.in_ok-room.room ≡ no_values m = c.in_ok-room.ensures ∙ ap (λ n. replicate n None) count in
    record {
      room = length-none m _ (c.begin-fails.ensures.same ∙ room);
      ready = record {
        fails = c.begin-fails.ensures.fails ∙ ap (is_failing m lists) room;
        live = λ fine. subst (λ (cells : List (Option ℕ)). ShowsLive m lists cells c.begin-fails.new.sets) room (c.begin-fails.ensures.live fine);
        why = λ failing. subst (λ (cells : List (Option ℕ)). ShowsFailure m lists cells c.begin-fails.new.sets) room (c.begin-fails.ensures.why failing);
      };
      answered = subst (AreAnswered m lists) (sym (c.in_ok-answered.ensures ∙ ap (λ n. replicate c.places_for.result (unanswered n)) count))
          (unanswered_are m lists c.places_for.result);
      kept = subst (IsKeptTree m lists) (sym (c.in_ok-kept.ensures ∙ ap no_tree count)) (none_is_kept m lists);
    }
