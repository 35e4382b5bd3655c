-- Files call for one thing: for a text, or for none by one cause.
use Rattle.std.proofs.Common.{◌≡◌, ◌≤◌, ◌<◌, ℕ, List, length, Option, Some, None, refl, sym, ap, subst, ◌∙◌, arith}
use Rattle.std.specs.Prelude.{IsSomeAnd}
use Rattle.cov_model.specs.believed.Sound.{ModelView}
use Rattle.definitions.specs.believed.Limits.{ModelFile, most_bytes}
use Rattle.model_lex.specs.declared.note.Note.{Note}
use Rattle.model_lex.specs.declared.options.ModelOpts.{ModelOpts}
use Rattle.type_check.specs.believed.ModelOf.{IsModelOf, IsRefusalOf}
use Rattle.type_check.proofs.OneAnswer.{files_have_one_model, models_are_not_refused, refusals_are_one}
use Rattle.command_line.specs.believed.Loading.{IsLoaded, StopsReading, out_of_memory, cannot_read, too_long, is_refused}
use Rattle.command_line.specs.believed.Stops.{stop_of_model}
use Rattle.command_line.specs.declared.stop.Stop.{Stop}
use Rattle.jeldroft_args.specs.declared.shrink.Shrink.{Shrink}
use Rattle.jeldroft_files.specs.believed.Failures.{status_of_stop}
use Rattle.jeldroft_files.specs.believed.Models.{opts_of}
use Rattle.jeldroft_files.specs.Runs.{IsDueOnce}
use Rattle.row_forms.specs.declared.row_form.RowForm.{RowForm}
use Rattle.jeldroft_shrink.specs.declared.cause.ShrinkCause.{ShrinkCause}
use Rattle.jeldroft_shrink.specs.believed.Causes.{status_of}
use Rattle.jeldroft_shrink.specs.believed.Reading.{Lines, stops_by}
use Rattle.jeldroft_shrink.specs.believed.Runs.{AreRefused, no_model, bad_model, behind, HaveRows, HeldFiles, IsDue, IsDueIn, LackRows, too_large, bad_table, bad_seeds, Spells, form_of}

three_not_two : {stop other : Stop} → stop ≡ other → status_of_stop other ≡ 3 → status_of_stop stop ≡ 2 → ⊥
three_not_two is three two = omega (arith, ap status_of_stop is, three, two)

-- ---- a model file

one_model : (opts : ModelOpts) (held : Option (List ℕ)) (m n : ModelView) (notes others : List Note) → IsLoaded opts held m notes → IsLoaded opts held n others
    → m ≡ n
one_model opts (Some bytes) m n notes others is too = (files_have_one_model opts bytes m n notes others is.1 too.1).0
one_model opts None m n notes others is too = absurd is

too_long_or_not : (P : List ℕ → Type 0) (held : Option (List ℕ)) → IsSomeAnd held (λ bytes. most_bytes ModelFile < length bytes)
    → IsSomeAnd held (λ bytes. (length bytes ≤ most_bytes ModelFile) × P bytes) → ⊥
too_long_or_not P (Some bytes) more within = omega (arith, more, within.0)
too_long_or_not P None more within = more

not_stopped : (opts : ModelOpts) (held : Option (List ℕ)) (m : ModelView) (notes : List Note) (stop : Stop) → IsLoaded opts held m notes
    → StopsReading opts held stop → status_of_stop stop ≡ 2 → ⊥
not_stopped opts held m notes stop loaded (out_of_memory is) two = three_not_two is refl two
not_stopped opts held m notes stop loaded (cannot_read is) two = three_not_two is refl two
not_stopped opts held m notes stop loaded (too_long is more) two = too_long_or_not (λ bytes. IsModelOf opts bytes m notes) held more loaded
not_stopped opts (Some bytes) m notes stop loaded (is_refused fault is refused) two = models_are_not_refused opts bytes m notes fault loaded.1 refused.1
not_stopped opts None m notes stop loaded (is_refused fault is refused) two = refused

one_stop : (opts : ModelOpts) (held : Option (List ℕ)) (stop other : Stop) → StopsReading opts held stop → StopsReading opts held other
    → status_of_stop stop ≡ 2 → status_of_stop other ≡ 2 → stop ≡ other
one_stop opts held stop other (out_of_memory is) why two also = absurd (three_not_two is refl two)
one_stop opts held stop other (cannot_read is) why two also = absurd (three_not_two is refl two)
one_stop opts held stop other why (out_of_memory is) two also = absurd (three_not_two is refl also)
one_stop opts held stop other why (cannot_read is) two also = absurd (three_not_two is refl also)
one_stop opts held stop other (too_long is more) (too_long too more') two also = is ∙ sym too
one_stop opts held stop other (too_long is more) (is_refused fault too refused) two also = absurd (too_long_or_not (λ bytes. IsRefusalOf opts bytes fault) held more refused)
one_stop opts held stop other (is_refused fault is refused) (too_long too more) two also = absurd (too_long_or_not (λ bytes. IsRefusalOf opts bytes fault) held more refused)
one_stop opts (Some bytes) stop other (is_refused fault is refused) (is_refused fault' too refused') two also =
    is ∙ ap stop_of_model (refusals_are_one opts bytes fault fault' refused.1 refused'.1) ∙ sym too
one_stop opts None stop other (is_refused fault is refused) (is_refused fault' too refused') two also = absurd refused

unread_stops : (opts : ModelOpts) (held : Option (List ℕ)) (stop : Stop) → held ≡ None → StopsReading opts held stop → status_of_stop stop ≡ 2 → ⊥
unread_stops opts held stop none (out_of_memory is) two = three_not_two is refl two
unread_stops opts held stop none (cannot_read is) two = three_not_two is refl two
unread_stops opts held stop none (too_long is more) two = subst (λ h. IsSomeAnd h (λ bytes. most_bytes ModelFile < length bytes)) none more
unread_stops opts (Some bytes) stop none (is_refused fault is refused) two = cc
unread_stops opts None stop none (is_refused fault is refused) two = refused

unread_model : (opts : ModelOpts) (held : Option (List ℕ)) (m : ModelView) (notes : List Note) → held ≡ None → IsLoaded opts held m notes → ⊥
unread_model opts (Some bytes) m notes none loaded = cc
unread_model opts None m notes none loaded = loaded

-- ---- the files behind it

module _ (args : Shrink) (held : HeldFiles) where
  not_lacking : {m : ModelView} {given seeds : Lines} {cause : ShrinkCause} → HaveRows args held m given seeds → LackRows args held m cause → ⊥
  not_lacking have (too_large fault passed is) = let within = have.within in cc
  not_lacking have (bad_table within refused) = let tests = have.tests in cc
  not_lacking have (bad_seeds given within tests refused) = let partial = have.partial in cc

  one_lack : {m : ModelView} {cause other : ShrinkCause} → LackRows args held m cause → LackRows args held m other → cause ≡ other
  one_lack (too_large fault passed is) (too_large fault' passed' is') = cc
  one_lack (too_large fault passed is) (bad_table within refused) = cc
  one_lack (too_large fault passed is) (bad_seeds given within tests refused) = cc
  one_lack (bad_table within refused) (too_large fault passed is) = cc
  one_lack (bad_table within refused) (bad_table within' refused') = cc
  one_lack (bad_table within refused) (bad_seeds given within' tests refused') = cc
  one_lack (bad_seeds given within tests refused) (too_large fault passed is) = cc
  one_lack (bad_seeds given within tests refused) (bad_table within' refused') = cc
  one_lack (bad_seeds given within tests refused) (bad_seeds given' within' tests' refused') = cc

  abbrev opts : ModelOpts
  opts = opts_of args.model args.strength

  same_model : {m n : ModelView} → Spells args held m → Spells args held n → m ≡ n
  same_model {m} {n} is too = one_model opts held.model m n is.0 too.0 is.1 too.1

  one_refusal : {cause other : ShrinkCause} → AreRefused args held cause → AreRefused args held other → cause ≡ other
  one_refusal (no_model none is) (no_model none' is') = is ∙ sym is'
  one_refusal (no_model none is) (bad_model stop stops two is') = absurd (unread_stops opts held.model stop none stops two)
  one_refusal (no_model none is) (behind m spelled lack) = absurd (unread_model opts held.model m spelled.0 none spelled.1)
  one_refusal (bad_model stop stops two is') (no_model none is) = absurd (unread_stops opts held.model stop none stops two)
  one_refusal (bad_model stop stops two is) (bad_model stop' stops' two' is') = is ∙ ap stops_by (one_stop opts held.model stop stop' stops stops' two two') ∙ sym is'
  one_refusal (bad_model stop stops two is) (behind m spelled lack) = absurd (not_stopped opts held.model m spelled.0 stop spelled.1 stops two)
  one_refusal (behind m spelled lack) (no_model none is) = absurd (unread_model opts held.model m spelled.0 none spelled.1)
  one_refusal (behind m spelled lack) (bad_model stop stops two is) = absurd (not_stopped opts held.model m spelled.0 stop spelled.1 stops two)
  one_refusal {cause} (behind m spelled lack) (behind m' spelled' lack') = one_lack (subst (λ n. LackRows args held n cause) (same_model spelled spelled') lack) lack'

  not_refused : {m : ModelView} {given seeds : Lines} {cause : ShrinkCause} → Spells args held m → HaveRows args held m given seeds → AreRefused args held cause → ⊥
  not_refused {m} spelled have (no_model none is) = unread_model opts held.model m spelled.0 none spelled.1
  not_refused {m} spelled have (bad_model stop stops two is) = not_stopped opts held.model m spelled.0 stop spelled.1 stops two
  not_refused {cause = cause} spelled have (behind m' spelled' lack) =
      not_lacking have (subst (λ n. LackRows args held n cause) (same_model spelled' spelled) lack)

  due_in : (form : Option RowForm) → IsDueOnce status_of (IsDueIn form args held)
  due_in None = record {
    not_both = λ text cause due other. due;
    one_status = λ one other is too. ap status_of (is ∙ sym too);
  }
  due_in (Some form) = record {
    not_both = λ text cause due refused. not_refused due.1 due.2.have refused;
    one_status = λ one other is too. ap status_of (one_refusal is too);
  }

  pub due_once : IsDueOnce status_of (IsDue args held)
  due_once = due_in (form_of args.format)
