-- How the steps that read files answer.
use Rattle.std.proofs.Common.{◌≡◌, ℕ, List, Option, Some, None, Result, Ok, Err, inl, inr, refl, sym, ap, subst, ◌∙◌}
use Rattle.std.specs.Prelude.{◌⊎◌, IfErr, IfOk, IfSome, IsErrAnd}
use Rattle.cov_model.specs.believed.Sound.{ModelView}
use Rattle.command_line.specs.declared.stop.Stop.{Stop}
use Rattle.command_line.specs.declared.stop.Stop.TheVariants.{OutOfMemory}
use Rattle.jeldroft_args.specs.declared.shrink.Shrink.{Shrink}
use Rattle.jeldroft_files.specs.believed.Models.{StopsModel, opts_of}
use Rattle.jeldroft_files.specs.Runs.{IsCalledFor}
use Rattle.jeldroft_files.specs.declared.failure.Cause.TheVariants as causes
use Rattle.jeldroft_files.specs.declared.failure.Failure.{Failure}
use Rattle.jeldroft_files.proofs.Statuses.{stop_known}
use Rattle.outside_io.specs.believed.Files.{Files as NamedFiles}
use Rattle.outside_io.specs.believed.Seen.{FolderSeen, KeepsFiles}
use Rattle.row_forms.specs.declared.row_form.RowForm.{RowForm}
use Rattle.tuple_index.specs.believed.PlanFault.{limit_passed}
use Rattle.jeldroft_shrink.specs.declared.cause.ShrinkCause.{ShrinkCause}
use Rattle.jeldroft_shrink.specs.declared.cause.ShrinkCause.TheVariants.{Files, NoTable, TooManyRows, Incomplete, Invalid}
use Rattle.jeldroft_shrink.specs.declared.cause.ShrinkFailure.{ShrinkFailure}
use Rattle.jeldroft_shrink.specs.believed.Causes.{status_of}
use Rattle.jeldroft_shrink.specs.believed.Reading.{Lines, stops_by, tests_of}
use Rattle.jeldroft_shrink.specs.believed.Runs.{AreRefused, bad_model, behind, HeldFiles, Holds, IsDue, IsDueIn, IsShorterText, LackRows, too_large, bad_table, bad_seeds, Spells, form_of, given_of, seeds_of}
use Rattle.jeldroft_shrink.specs.Steps.{HasTable, IsAnswered, IsCauseOf, IsLimitOf, answer_seen}
use Rattle.jeldroft_shrink.specs.declared.answer.Table.{Table}

-- what is told of a name
pub then_told : {X : Type 0} (told : Option X) {P Q : X → Type 0} → ((x : X) → P x → Q x) → IfSome told P → IfSome told Q
then_told None then given = tt
then_told (Some x) then given = then x given

pub told : {X : Type 0} {seen : Option X} {x : X} (P : X → Type 0) → seen ≡ Some x → IfSome seen P → P x
told P is given = subst (λ t. IfSome t P) is given

-- ---- the rows of a table

-- a cause of the rows is one of the tests
pub unread_tests : (m : ModelView) (lines : Result Lines ShrinkCause) (cause : ShrinkCause) → IsCauseOf lines cause → IsCauseOf (tests_of m lines) cause
unread_tests m lines cause (inl failed) = inl failed
unread_tests m lines cause (inr is) = inr (ap (tests_of m) is)

-- ---- what is told of the names of a run

pub told_at : (files : NamedFiles) {name table : List ℕ} {held : Option (List ℕ)} (P : List ℕ → Option (List ℕ) → Type 0) → name ≡ table
    → files table ≡ Some held → IfSome (files name) (P name) → P table held
told_at files {name} {table} {held} P same is given = told {seen = files table} {x = held} (P table) is (subst (λ n. IfSome (files n) (P n)) same given)

seeds_after : (before after : FolderSeen) (seeds : Option (List ℕ)) (held : Option (List ℕ)) → KeepsFiles before after
    → IfSome seeds (λ name. before.files name ≡ Some held) → IfSome seeds (λ name. after.files name ≡ Some held)
seeds_after before after None held keeps holds = tt
seeds_after before after (Some name) held keeps holds = keeps name ∙ holds

pub holds_after : (before after : FolderSeen) (args : Shrink) (held : HeldFiles) → KeepsFiles before after → Holds before.files args held
    → Holds after.files args held
holds_after before after args held keeps holds = record {
  model = keeps args.model.name ∙ holds.model;
  table = keeps args.table ∙ holds.table;
  seeds = seeds_after before after args.seeds held.seeds keeps holds.seeds;
}

-- ---- why files hold no rows

module _ (args : Shrink) (held : HeldFiles) (m : ModelView) (cause : ShrinkCause) where
  pub lack_table : limit_passed m ≡ None → IsCauseOf (given_of args held m) cause → (status_of cause ≡ 3) ⊎ LackRows args held m cause
  lack_table within (inl failed) = inl failed
  lack_table within (inr is) = inr (bad_table within is)

  pub lack_seeds : (given : Lines) → limit_passed m ≡ None → given_of args held m ≡ Ok given → IsCauseOf (seeds_of args held m) cause
      → (status_of cause ≡ 3) ⊎ LackRows args held m cause
  lack_seeds given within tests (inl failed) = inl failed
  lack_seeds given within tests (inr is) = inr (bad_seeds given within tests is)

  pub lack_limit : IsLimitOf m cause → (status_of cause ≡ 3) ⊎ LackRows args held m cause
  lack_limit (inl failed) = inl failed
  lack_limit (inr (fault, passed, is)) = inr (too_large fault passed is)

pub lack_memory : {T : Type 0} (args : Shrink) (files : NamedFiles) (m : ModelView) (r : Result T ShrinkFailure)
    → IsErrAnd r (λ failure. failure.cause ≡ stops_by OutOfMemory)
    → IfErr r (λ failure. (held : HeldFiles) → Holds files args held → (status_of failure.cause ≡ 3) ⊎ LackRows args held m failure.cause)
lack_memory args files m (Ok x) is = absurd is
lack_memory args files m (Err failure) is = λ held holds. inl (ap status_of is)

-- ---- what files call for

-- a table of the rows that they hold
abbrev pub text_due : (args : Shrink) (held : HeldFiles) (form : RowForm) (m : ModelView) (table : Table) → HasTable args held form m table
    → IsShorterText args held form m table.text.items
text_due args held form m table has = record {
  given = has.given;
  seeds = has.seeds;
  have = has.have;
  is = (has.is.rows, has.is.shrunk, has.is.text);
}

pub due_from : (args : Shrink) (held : HeldFiles) (form : RowForm) (end : Result (List ℕ) ShrinkCause) → form_of args.format ≡ Some form
    → IsDueIn (Some form) args held end → IsDue args held end
due_from args held form end formed due = subst (λ f. IsDueIn f args held end) (sym formed) due

pub no_table_called : (args : Shrink) (held : HeldFiles) → form_of args.format ≡ None → IsCalledFor status_of (IsDue args held) (Err 2)
no_table_called args held none = inr (NoTable, subst (λ f. IsDueIn f args held (Err NoTable)) (sym none) refl, refl)

pub ended : (cause : ShrinkCause) → (status_of cause ≡ 2) ⊎ (status_of cause ≡ 3)
ended (Files (causes.Stop stop)) = stop_known stop
ended (Files (causes.Comma fault)) = inl refl
ended NoTable = inl refl
ended (TooManyRows count) = inl refl
ended (Incomplete line) = inl refl
ended (Invalid line why) = inl refl

module _ (args : Shrink) (held : HeldFiles) (form : RowForm) where
  refused_called : (cause : ShrinkCause) → form_of args.format ≡ Some form → AreRefused args held cause
      → IsCalledFor status_of (IsDue args held) (Err (status_of cause))
  refused_called cause formed refused = inr (cause, due_from args held form (Err cause) formed refused, refl)

  pub model_stops : (r : Result Table ShrinkFailure) (failure : Failure) → form_of args.format ≡ Some form
      → IsErrAnd r (λ given. given.cause ≡ Files failure.cause) → StopsModel (opts_of args.model args.strength) held.model failure.cause
      → IsCalledFor status_of (IsDue args held) (answer_seen r)
  model_stops (Ok table) failure formed is stops = absurd is
  model_stops (Err given) failure formed is (stop, because, why) = elim (stop_known stop) [
    | inl two ↦ refused_called given.cause formed (bad_model stop why two (is ∙ ap Files because))
    | inr three ↦ inl (ap status_of (is ∙ ap Files because) ∙ three)
  ]

  pub suite_called : (files : NamedFiles) (m : ModelView) (r : Result Table ShrinkFailure) → form_of args.format ≡ Some form → Spells args held m → Holds files args held
      → IfOk r (λ table. (h : HeldFiles) → Holds files args h → HasTable args h form m table)
      → IfErr r (λ failure. (h : HeldFiles) → Holds files args h → (status_of failure.cause ≡ 3) ⊎ LackRows args h m failure.cause)
      → IsCalledFor status_of (IsDue args held) (answer_seen r)
  suite_called files m (Ok table) formed spelled holds has why =
      due_from args held form (Ok table.text.items) formed (m, spelled, text_due args held form m table (has held holds))
  suite_called files m (Err failure) formed spelled holds has why = elim (why held holds) [
    | inl three ↦ inl three
    | inr lack ↦ refused_called failure.cause formed (behind m spelled lack)
  ]

-- a table that was made of a model is one of the rows that the files hold
pub suite_answered : (args : Shrink) (before after : FolderSeen) (form : RowForm) (m : ModelView) → form_of args.format ≡ Some form → KeepsFiles before after
    → ((held : HeldFiles) → Holds before.files args held → Spells args held m) → (r : Result Table ShrinkFailure)
    → IfOk r (λ table. (held : HeldFiles) → Holds after.files args held → HasTable args held form m table)
    → IfOk r (λ table. (held : HeldFiles) → Holds before.files args held → IsAnswered args held table)
suite_answered args before after form m formed keeps spells (Ok table) has = λ held holds. record {
  form = form;
  formed = formed;
  m = m;
  spelled = spells held holds;
  has = has held (holds_after before after args held keeps holds);
}
suite_answered args before after form m formed keeps spells (Err failure) none = tt
