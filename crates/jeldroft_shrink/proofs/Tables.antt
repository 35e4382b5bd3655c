-- What a table of fewer tests is worth.
use Rattle.std.proofs.Common.{◌≡◌, ◌≤◌, ℕ, Bool, true, false, cond, List, length, Option, Some, None, Result, Ok, Err, inl, inr, refl, sym, ap, subst, ◌∙◌, All, arith}
use Rattle.std.specs.Prelude.{IfOk, nat_lt}
use Rattle.std.proofs.lemmas.Bool.{ltb-false}
use Rattle.std.proofs.lemmas.List.{length-map}
use Rattle.std.proofs.lemmas.List.Elements.{All-weaker}
use Rattle.std.proofs.lemmas.Simd.{map-map}
use Rattle.outside_io.specs.believed.Files.{Files as NamedFiles}
use Rattle.outside_io.specs.believed.Seen.{FolderSeen, SinkSeen, KeepsFiles}
use Rattle.cov_model.specs.believed.Sound.{IsSound, ModelView}
use Rattle.cov_model.specs.believed.Valid.{is_row, is_valid}
use Rattle.definitions.specs.believed.RowReading.{Suite, read_rows}
use Rattle.definitions.proofs.ReportRead.{reports_are_read}
use Rattle.model_parse.specs.RawModels.{AreOpts}
use Rattle.type_check.proofs.OneAnswer.{models_are_sound}
use Rattle.row_text.specs.RowFiles.{row_seen, seeds_seen, suite_seen}
use Rattle.row_text.specs.declared.row_file.RowFile.{RowFile}
use Rattle.command_line.specs.believed.Loading.{IsLoaded}
use Rattle.model_lex.specs.declared.note.Note.{Note}
use Rattle.model_lex.specs.declared.options.ModelOpts.{ModelOpts}
use Rattle.jeldroft_args.specs.Ranges.{AreMarks, IsStrength}
use Rattle.jeldroft_args.specs.declared.shrink.Shrink.{Shrink}
use Rattle.jeldroft_files.specs.believed.Models.{opts_of}
use Rattle.jeldroft_files.specs.Runs.{Ends, IsCalledFor}
use Rattle.jeldroft_files.specs.believed.Runs.{IsWritten, Leaves, Moment, RunsAs, moment}
use Rattle.jeldroft_files.proofs.Ending.{leaves, runs_as, written_since}
use Rattle.jeldroft_files.proofs.Reading.{opts_fit}
use Rattle.row_forms.specs.declared.row_form.RowForm.{RowForm}
use Rattle.shared_marks.proofs.OwnTupleLemmas.{of_valid}
use Rattle.shorter_suites.specs.believed.Bounds.{least_needed}
use Rattle.shorter_suites.specs.believed.Laws.{rows_of}
use Rattle.shorter_suites.specs.believed.Shrinking.{IsShrunk, ServesToo}
use Rattle.shorter_suites.proofs.Accepting.{accepted_stay}
use Rattle.shorter_suites.proofs.Counting.{none_is_shorter}
use Rattle.suite_forms.specs.believed.Suites.{suite_text}
use Rattle.suite_forms.proofs.Tabbed.{tsv-is-report}
use Rattle.jeldroft_files.specs.believed.Tables.{is_comma}
use Rattle.jeldroft_words.specs.believed.Sums.{TellsLast, sum_line}
use Rattle.jeldroft_shrink.specs.declared.cause.ShrinkCause.{ShrinkCause}
use Rattle.jeldroft_shrink.specs.declared.cause.ShrinkCause.TheVariants.{TooManyRows}
use Rattle.jeldroft_shrink.specs.believed.Causes.{status_of}
use Rattle.jeldroft_shrink.specs.believed.Reading.{Lines, first_flaw, given_flaw, lines_of, most_given, tests_of, unless_flawed}
use Rattle.jeldroft_shrink.specs.believed.Runs.{HeldFiles, Holds, IsDue, IsDueIn, IsShorterText, Spells, WritesShorter, form_of}
use Rattle.jeldroft_shrink.specs.believed.Shorter.{IsShorterTable}
use Rattle.jeldroft_shrink.specs.Steps.{IsAnswered, IsTableOf, answer_seen, end_status}
use Rattle.jeldroft_shrink.specs.believed.Told.{SumsUp}
use Rattle.jeldroft_shrink.specs.declared.answer.Table.{Table}
use Rattle.jeldroft_shrink.specs.declared.cause.ShrinkFailure.{ShrinkFailure}
use Rattle.jeldroft_shrink.proofs.DueOnce.{due_once}
use Rattle.jeldroft_shrink.proofs.ReadLemmas.{ended, text_due}

-- the rows of a file, with and without their lines
pub rows_seen : (file : RowFile) → rows_of (seeds_seen file) ≡ suite_seen file
rows_seen file = map-map (λ (line : ℕ × List (Option ℕ)). line.1) row_seen file.rows

-- the table of a shorter suite of rows, which are those of lines
pub table_is : (form : RowForm) (m : ModelView) (seeds : RowFile) (were rows : List (List (Option ℕ))) (table : Table)
    → IsShrunk m were (suite_seen seeds) rows → table.text.items ≡ suite_text form m rows → table.numbers.tests ≡ length rows
    → table.numbers.given ≡ length were → table.numbers.least ≡ least_needed m were
    → (lines : Lines) → were ≡ rows_of lines → IsTableOf form m lines (seeds_seen seeds) table
table_is form m seeds were rows table shrunk text tests count least lines same = record {
  rows = rows;
  shrunk = subst (λ g. IsShrunk m g (rows_of (seeds_seen seeds)) rows) same (subst (λ s. IsShrunk m were s rows) (sym (rows_seen seeds)) shrunk);
  text = text;
  tests = tests;
  were = count ∙ ap length same ∙ length-map lines (λ line. line.1);
  least = least ∙ ap (least_needed m) same;
}

-- ---- how many rows are given

unflawed_few : (m : ModelView) (lines : Lines) → given_flaw m lines ≡ None → length lines ≤ most_given
unflawed_few m lines none = go (nat_lt most_given (length lines)) refl none
  where
    go : (b : Bool) → nat_lt most_given (length lines) ≡ b → cond b (Some (TooManyRows (length lines))) (first_flaw m lines) ≡ None → length lines ≤ most_given
    go true many none = cc
    go false few none = ltb-false most_given (length lines) few

same_lines : (lines given : Lines) → unless_flawed None lines ≡ Ok given → lines ≡ given
same_lines lines given is = cc

tests_few : (m : ModelView) (lines : Result Lines ShrinkCause) (given : Lines) → tests_of m lines ≡ Ok given → length given ≤ most_given
tests_few m (Err cause) given is = cc
tests_few m (Ok lines) given is = go (given_flaw m lines) refl is
  where
    go : (flaw : Option ShrinkCause) → given_flaw m lines ≡ flaw → unless_flawed flaw lines ≡ Ok given → length given ≤ most_given
    go None none is = subst (λ l. length l ≤ most_given) (same_lines lines given is) (unflawed_few m lines none)
    go (Some cause) some is = cc

-- ---- fewer tests

shorter_table : (m : ModelView) (form : RowForm) (given seeds : Lines) (rows : List (List (Option ℕ))) → IsSound m → length given ≤ most_given
    → IsShrunk m (rows_of given) (rows_of seeds) rows → IsShorterTable m form given seeds rows
shorter_table m form given seeds rows sound few shrunk =
    let are = All-weaker (λ row. is_valid m row ≡ true) (λ row. is_row m row ≡ true) (λ row valid. (of_valid m row valid).complete) rows shrunk.valid in
    let given_few : length (rows_of given) ≤ most_given = subst (λ n. n ≤ most_given) (sym (length-map given (λ line. line.1))) few in
    record {
      shrunk = shrunk;
      accepted = λ lines proof same accepted. accepted_stay m given lines proof
          (subst (All (λ row. is_valid m row ≡ true)) (sym same) shrunk.valid) (subst (ServesToo m (rows_of given)) (sym same) shrunk.serves) accepted;
      read = λ tsv. ap (λ f. read_rows m Suite (suite_text f m rows)) tsv ∙ ap (read_rows m Suite) (tsv-is-report m rows are)
          ∙ reports_are_read m rows sound are (omega (arith, shrunk.few, given_few));
    }

-- a model that a file spells is sound
loaded_sound : (opts : ModelOpts) (held : Option (List ℕ)) (m : ModelView) (notes : List Note) → AreOpts opts → IsLoaded opts held m notes → IsSound m
loaded_sound opts None m notes are loaded = absurd loaded
loaded_sound opts (Some bytes) m notes are loaded = models_are_sound opts bytes m notes are loaded.1

module _ (args : Shrink) (marks : AreMarks args.model.marks) (strength : IsStrength args.strength) (held : HeldFiles) where
  -- the table of a shorter suite was written
  abbrev worth : (before after : Moment) (form : RowForm) (text : List ℕ) (m : ModelView) → form_of args.format ≡ Some form → Spells args held m
      → IsShorterText args held form m text → IsWritten args.output text before after → WritesShorter args held before after
  worth before after form text m formed spelled short written = record {
    form = form;
    formed = formed;
    m = m;
    given = short.given;
    seeds = short.seeds;
    spelled = spelled;
    have = short.have;
    rows = short.is.0;
    shorter =
        shorter_table m form short.given short.seeds short.is.0
        (loaded_sound (opts_of args.model args.strength) held.model m spelled.0 (opts_fit args.model args.strength marks strength) spelled.1)
        (tests_few m (lines_of m Suite (is_comma args.delimiter args.table) held.table) short.given short.have.tests) short.is.1;
    written = subst (λ t. IsWritten args.output t before after) short.is.2 written;
  }

  pub writes_shorter : (before after : Moment) (status : ℕ) → RunsAs status_of (IsDue args held) args.output before after status → status ≡ 0
      → WritesShorter args held before after
  writes_shorter before after status runs zero =
      let done = runs.done zero in
      go done.0 done.2 (form_of args.format) refl done.1
    where
      go : (text : List ℕ) → IsWritten args.output text before after → (form : Option RowForm) → form_of args.format ≡ form → IsDueIn form args held (Ok text)
          → WritesShorter args held before after
      go text written None is due = absurd due
      go text written (Some form) is due = worth before after form text due.0 is due.1 due.2 written

-- ---- a run that ends with its answer

pub run : (args : Shrink) (held : HeldFiles) (output : Option (List ℕ)) (folder read : FolderSeen) (out : SinkSeen) (after : Moment) (status given : ℕ)
    (answer : Result (List ℕ) ℕ) → output ≡ args.output → status ≡ given → IsCalledFor status_of (IsDue args held) answer
    → Ends answer output (moment read out) after given → RunsAs status_of (IsDue args held) args.output (moment folder out) after status
run args held output folder read out after status given answer named same called ends =
    subst (λ o. RunsAs status_of (IsDue args held) o (moment folder out) after status) named
    (subst (RunsAs status_of (IsDue args held) output (moment folder out) after) (sym same)
    (runs_as (due_once args held) output folder read out after given answer called ends))

pub left : (output named : Option (List ℕ)) (folder read : FolderSeen) (out : SinkSeen) (after : Moment) (status given : ℕ) (answer : Result (List ℕ) ℕ)
    → KeepsFiles folder read → output ≡ named → status ≡ given → Ends answer output (moment read out) after given
    → Leaves named (moment folder out) after status
left output named folder read out after status given answer reads is same ends =
    subst (λ o. Leaves o (moment folder out) after status) is
    (subst (Leaves output (moment folder out) after) (sym same) (leaves output folder read out after given answer reads ends))

-- it ends with 0, 2 or 3
pub not_one : (answer : Result (List ℕ) ℕ) (output : Option (List ℕ)) (before after : Moment) (given : ℕ) → Ends answer output before after given → given ≡ 1 → ⊥
not_one (Ok text) output before after given ends one = elim ends.known [
  | inl zero ↦ omega (arith, one, zero)
  | inr three ↦ omega (arith, one, three)
]
not_one (Err status) output before after given ends one = elim ends.1 [
  | inl two ↦ omega (arith, one, ends.0, two)
  | inr three ↦ omega (arith, one, ends.0, three)
]

-- ---- what is told of it

pub answered_at : (args : Shrink) (files : NamedFiles) (held : HeldFiles) → Holds files args held → (r : Result Table ShrinkFailure)
    → IfOk r (λ table. (h : HeldFiles) → Holds files args h → IsAnswered args h table) → IfOk r (λ table. IsAnswered args held table)
answered_at args files held holds (Ok table) are = are held holds
answered_at args files held holds (Err failure) none = tt

stop_told : (cause : ShrinkCause) → status_of cause ≡ 0 → ⊥
stop_told cause zero = elim (ended cause) [
  | inl two ↦ omega (arith, zero, two)
  | inr three ↦ omega (arith, zero, three)
]

module _ (args : Shrink) (marks : AreMarks args.model.marks) (strength : IsStrength args.strength) (held : HeldFiles) (folder read : FolderSeen) (out told : SinkSeen)
    (after : Moment) (output : Option (List ℕ)) (named : output ≡ args.output) where
  sums_up : (table : Table) → IsAnswered args held table → Ends (Ok table.text.items) output (moment read out) after 0
      → TellsLast (sum_line table.numbers.tests table.numbers.given table.numbers.least) told → SumsUp args held (moment folder out) after told
  sums_up table answered ends told_last =
      let has = answered.has in
      let written = subst (λ o. IsWritten o table.text.items (moment folder out) after) named
      (written_since output table.text.items (moment folder out) (moment read out) after refl (ends.written refl)) in
      record {
        wrote = worth args marks strength held (moment folder out) after answered.form table.text.items answered.m answered.formed answered.spelled
            (text_due args held answered.form answered.m table has) written;
        sums = subst (λ n. TellsLast (sum_line (length has.is.rows) (length has.given) n) told) has.is.least
            (subst (λ n. TellsLast (sum_line (length has.is.rows) n table.numbers.least) told) has.is.were
            (subst (λ n. TellsLast (sum_line n table.numbers.given table.numbers.least) told) has.is.tests told_last));
        least = none_is_shorter answered.m (rows_of has.given);
      }

  pub told_sum : (answer end : Result Table ShrinkFailure) (status : ℕ) → IfOk answer (λ table. IsAnswered args held table)
      → Ends (answer_seen answer) output (moment read out) after (end_status end) → IfOk end (λ given. answer ≡ Ok given)
      → IfOk end (λ given. TellsLast (sum_line given.numbers.tests given.numbers.given given.numbers.least) told)
      → status ≡ end_status end → status ≡ 0 → SumsUp args held (moment folder out) after told
  told_sum answer (Err failure) status answered ends same last is zero = absurd (stop_told failure.cause (sym is ∙ zero))
  told_sum answer (Ok given) status answered ends same last is zero =
      sums_up given (subst (λ r. IfOk r (λ one. IsAnswered args held one)) same answered)
      (subst (λ r. Ends (answer_seen r) output (moment read out) after 0) same ends) last
