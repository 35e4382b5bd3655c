-- What a search that stopped says of the run: without a budget it stops for want of memory alone.
use Rattle.std.proofs.Common.{◌≡◌, ℕ, List, Option, None, Some, Err, inl, inr, refl, sym, ap, subst, ◌∙◌}
use Rattle.std.specs.Prelude.{◌≢◌, ◌⊎◌, option_map}
use Rattle.std.proofs.lemmas.Option.{none-some, same_Some}
use Rattle.outside_io.specs.believed.Seen.{FolderSeen, KeepsReadFaults}
use Rattle.definitions.specs.declared.effort.Effort.{Effort}
use Rattle.definitions.specs.declared.effort.Effort.TheVariants.{Within, Full}
use Rattle.definitions.specs.believed.Pairs.{pairs_of}
use Rattle.definitions.specs.believed.Settings.{Settings}
use Rattle.feasibility.specs.declared.answer.Question.{Question}
use Rattle.feasibility.specs.declared.answer.SearchFault.{SearchFault}
use Rattle.feasibility.specs.declared.answer.SearchFault.TheVariants as faults
use Rattle.model_lex.specs.declared.note.Note.{Note}
use Rattle.command_line.specs.declared.stop.Stop.{Stop}
use Rattle.command_line.specs.declared.stop.Stop.TheVariants.{Spent}
use Rattle.pict_cli.specs.believed.Ends.{CountsReads, End, Stopped, Unanswered, end_of}
use Rattle.pict_cli.specs.Ends.{IsAnswered, IsEarly}
use Rattle.pict_cli.specs.believed.Runs.{spent_at}
use Rattle.pict_cli.specs.Steps.{IsDueOrNoMemory, StopsWork, is_due, no_memory}
use Rattle.pict_cli.proofs.Early.{reads_stopped, stopped_answered}

pub not_spent : (fault : SearchFault) (question : Question) → fault ≡ faults.NoMemory → fault ≡ faults.Spent question → ⊥
not_spent fault question memory spent = let none : faults.NoMemory ≡ faults.Spent question = sym memory ∙ spent in cc

-- the stop of the question that a search ended by
pub spent_is : (budget : ℕ) (over : Option (List (Option ℕ))) (cells : List (ℕ × ℕ)) → option_map pairs_of over ≡ Some cells
    → spent_at (Within budget) over ≡ Some (Spent budget cells)
spent_is budget None cells ends = absurd (none-some cells ends)
spent_is budget (Some question) cells ends = ap (λ pairs. Some (Spent budget pairs)) (same_Some (pairs_of question) cells ends)

-- a run needn't stop where no question is above the budget
pub none_spent : (effort : Effort) (over : Option (List (Option ℕ))) → over ≡ None → spent_at effort over ≡ None
none_spent (Within budget) over none = ap (spent_at (Within budget)) none
none_spent Full over none = refl

-- why the work on a model stopped
pub due_work : (due : Option Stop) (later notes after : List Note) (stop : Stop) → StopsWork due later notes after stop → IsDueOrNoMemory due stop
due_work due later notes after stop (no_memory count is added) = inl is
due_work due later notes after stop (is_due is added) = inr is

-- the end of a run whose search stopped: by a question above the budget, where there is one, or for want of memory
abbrev pub IsOfSearch : Effort → End → Type 0
IsOfSearch effort end = ((end ≡ Unanswered) × (effort ≢ Full)) ⊎ (end ≡ Stopped)

pub search_ends : (effort : Effort) (over : Option (List (Option ℕ))) (stop : Stop) → IsDueOrNoMemory (spent_at effort over) stop → IsOfSearch effort (end_of (Err stop))
search_ends effort over stop (inl is) = inr (ap (λ x. end_of (Err x)) is)
search_ends (Within budget) None stop (inr due) = absurd (none-some stop due)
search_ends (Within budget) (Some question) stop (inr due) = inl (ap (λ x. end_of (Err x)) (sym (same_Some (Spent budget (pairs_of question)) stop due)), λ full. cc)
search_ends Full over stop (inr due) = absurd (none-some stop due)

pub search_early : (effort : Effort) (end : End) → IsOfSearch effort end → IsEarly end
search_early effort end (inl unanswered) = subst IsEarly (sym unanswered.0) tt
search_early effort end (inr stopped) = subst IsEarly (sym stopped) tt

pub search_answered : (effort : Effort) (end : End) → IsOfSearch effort end → IsAnswered effort end
search_answered effort end (inl unanswered) = λ full. absurd (unanswered.1 full)
search_answered effort end (inr stopped) = stopped_answered effort end stopped

pub reads_searched : (s : Settings) (name : List ℕ) (end : End) (before after : FolderSeen) → IsOfSearch s.effort end → KeepsReadFaults before after
    → CountsReads s name end before after
reads_searched s name end before after (inl unanswered) keeps = subst (λ e. CountsReads s name e before after) (sym unanswered.0) keeps
reads_searched s name end before after (inr stopped) keeps = reads_stopped s name end before after stopped keeps
