-- What the files of `show` call for: one thing, which the steps give.
use Rattle.std.proofs.Common.{◌≡◌, ℕ, ◌≤◌, true, List, map, length, Option, None, Some, Ok, Err, Result, inl, inr, refl, ap, sym, subst, ◌∙◌}
use Rattle.std.specs.Prelude.{IfSome, option_map, if◌then◌else◌}
use Rattle.std.proofs.lemmas.Bool.{le-ltb, lt-ltb}
use Rattle.std.proofs.lemmas.Option.{none-some, same_Some}
use Rattle.outside_io.specs.believed.Seen.{FolderSeen, KeepsFiles}
use Rattle.cov_model.specs.believed.Sound.{ModelView}
use Rattle.definitions.specs.believed.Limits.{ProofFile, most_bytes}
use Rattle.definitions.specs.believed.RowReading.{RowReading}
use Rattle.tuple_index.specs.believed.PlanFault.{limit_passed}
use Rattle.tuple_index.specs.declared.fault.PlanFault.{PlanFault}
use Rattle.command_line.specs.Loading as reads
use Rattle.command_line.specs.Loading.{IsUnread}
use Rattle.command_line.specs.believed.Stops.{stop_of_plan}
use Rattle.command_line.specs.declared.files.FileKind.TheVariants as kinds
use Rattle.command_line.specs.declared.stop.Stop.{Stop}
use Rattle.command_line.specs.declared.stop.Stop.TheVariants.{TooLong}
use Rattle.row_text.specs.RowFiles.{seeds_seen, suite_seen}
use Rattle.row_text.specs.declared.row_file.RowFile.{RowFile}
use Rattle.row_text.proofs.SeenRows.{suite_rows}
use Rattle.row_forms.specs.declared.row_form.RowForm.{RowForm}
use Rattle.suite_forms.specs.believed.Suites.{suite_text}
use Rattle.jeldroft_args.specs.declared.show.Show.{Show}
use Rattle.jeldroft_files.specs.believed.Failures.{status_of}
use Rattle.jeldroft_files.specs.believed.Models.{opts_of}
use Rattle.jeldroft_files.specs.believed.Tables.{is_comma}
use Rattle.jeldroft_files.specs.declared.failure.Cause.{Cause}
use Rattle.jeldroft_files.specs.declared.failure.Cause.TheVariants as causes
use Rattle.jeldroft_files.specs.declared.failure.Failure.{Failure}
use Rattle.jeldroft_inputs.specs.Inputs.{EndsBy, HoldsTests}
use Rattle.jeldroft_inputs.specs.believed.Inputs.{GivesModel, and_then, tests_of, unless}
use Rattle.jeldroft_inputs.proofs.InputLemmas.{one_model}
use Rattle.jeldroft_show.specs.believed.Due.{Due, HeldFiles, HoldsSuite, proof_in, proof_of, rows_shown, shown_due, shown_words, words_shown}
use Rattle.jeldroft_show.specs.Due.{IsLimit}
use Rattle.jeldroft_show.specs.believed.Shows.{Shown}
use Rattle.jeldroft_show.specs.Steps.{Gives, IsCalledFor, shown_by}
use Rattle.jeldroft_show.specs.declared.answer.Answer.{Answer}
use Rattle.value_text.proofs.ListLemmas.{at_held}

-- the files call for one thing
pub due_once : (form : Option RowForm) (args : Show) (held : HeldFiles) (due other : Result Shown Cause) → Due form args held due → Due form args held other → due ≡ other
due_once form args held due other one two =
    one.is
    ∙ ap (λ given. and_then given (λ m. shown_due form args m held))
    (one_model (opts_of args.model args.strength) held.model one.given two.given one.gives two.gives)
    ∙ sym two.is

-- the text of a table in a form
abbrev text_in : RowForm → ModelView → List (List (Option ℕ)) → Result Shown Cause
text_in form m rows = Ok (record { text = suite_text form m rows; accepted = true })

-- the tests of a table were read, or they weren't
pub rows_given : (form : RowForm) (args : Show) (m : ModelView) (table : Option (List ℕ)) (tests : RowFile) (answer : Answer)
    → HoldsTests m (is_comma args.delimiter args.table) table tests
    → shown_by answer ≡ record { text = suite_text form m (suite_seen tests); accepted = true } → Gives (rows_shown form args m table) (Ok answer)
rows_given form args m table tests answer holds shown =
    ap (λ reading. and_then reading (λ read. text_in form m (map (λ row. row.1) read.rows))) holds.read
    ∙ ap (text_in form m) (ap (map (λ row. row.1)) (sym holds.holds.rows) ∙ suite_rows tests.rows)
    ∙ sym (ap Ok shown)

pub rows_ended : (form : RowForm) (args : Show) (m : ModelView) (table : Option (List ℕ)) (cause : Cause)
    → EndsBy (λ other. tests_of m (is_comma args.delimiter args.table) table ≡ Err other) cause → EndsBy (λ other. rows_shown form args m table ≡ Err other) cause
rows_ended form args m table cause (inl three) = inl three
rows_ended form args m table cause (inr is) = inr (ap (λ reading. and_then reading (λ read. text_in form m (map (λ row. row.1) read.rows))) is)

-- a proof that is named
proof_kept : (named : Option (List ℕ)) (held : Option (List ℕ)) (before after : FolderSeen) → KeepsFiles before after
    → IfSome named (λ name. before.files name ≡ Some held) → IfSome named (λ name. after.files name ≡ Some held)
proof_kept None held before after keeps holds = tt
proof_kept (Some name) held before after keeps holds = keeps name ∙ holds

-- ---- in words

-- the model passes no limit, and the tests of a table and the proof were read
abbrev words_last : Show → ModelView → List (ℕ × List (Option ℕ)) → List ℕ → Result Shown Cause
words_last args m lines bytes = Ok (shown_words args m lines (map (λ row. row.1) lines) bytes)

abbrev words_step : Show → ModelView → HeldFiles → RowReading → Result Shown Cause
words_step args m held reading = and_then (proof_of args.proof held.proof) (words_last args m reading.rows)

words_within : (args : Show) (m : ModelView) (held : HeldFiles) → limit_passed m ≡ None
    → words_shown args m held ≡ and_then (tests_of m (is_comma args.delimiter args.table) held.table) (words_step args m held)
words_within args m held within =
    ap (λ limit. unless (option_map stop_of_plan limit) (and_then (tests_of m (is_comma args.delimiter args.table) held.table) (words_step args m held))) within

pub words_given : (args : Show) (m : ModelView) (held : HeldFiles) (tests : RowFile) (bytes : List ℕ) (answer : Answer) → limit_passed m ≡ None
    → HoldsTests m (is_comma args.delimiter args.table) held.table tests → proof_of args.proof held.proof ≡ Ok bytes
    → shown_by answer ≡ shown_words args m (seeds_seen tests) (suite_seen tests) bytes → Gives (words_shown args m held) (Ok answer)
words_given args m held tests bytes answer within holds proof shown =
    words_within args m held within
    ∙ ap (λ read. and_then read (words_step args m held)) holds.read
    ∙ ap (λ given. and_then given (words_last args m holds.reading.rows)) proof
    ∙ ap (λ lines. words_last args m lines bytes) (sym holds.holds.rows)
    ∙ ap (λ rows. Ok (shown_words args m (seeds_seen tests) rows bytes)) (suite_rows tests.rows)
    ∙ sym (ap Ok shown)

-- or they weren't
limit_stops : (limit : Option PlanFault) (rest : Result Shown Cause) (cause : Cause) → option_map (λ fault. causes.Stop (stop_of_plan fault)) limit ≡ Some cause
    → unless (option_map stop_of_plan limit) rest ≡ Err cause
limit_stops None rest cause is = absurd (none-some cause is)
limit_stops (Some fault) rest cause is = ap Err (same_Some (causes.Stop (stop_of_plan fault)) cause is)

pub limit_ends : (args : Show) (m : ModelView) (held : HeldFiles) (cause : Cause) → EndsBy (IsLimit m) cause → EndsBy (λ other. words_shown args m held ≡ Err other) cause
limit_ends args m held cause (inl three) = inl three
limit_ends args m held cause (inr is) =
    inr (limit_stops (limit_passed m) (and_then (tests_of m (is_comma args.delimiter args.table) held.table) (words_step args m held)) cause is)

pub tests_end : (args : Show) (m : ModelView) (held : HeldFiles) (cause : Cause) → limit_passed m ≡ None
    → EndsBy (λ other. tests_of m (is_comma args.delimiter args.table) held.table ≡ Err other) cause → EndsBy (λ other. words_shown args m held ≡ Err other) cause
tests_end args m held cause within (inl three) = inl three
tests_end args m held cause within (inr is) = inr (words_within args m held within ∙ ap (λ read. and_then read (words_step args m held)) is)

pub proof_ends : (args : Show) (m : ModelView) (held : HeldFiles) (tests : RowFile) (cause : Cause) → limit_passed m ≡ None
    → HoldsTests m (is_comma args.delimiter args.table) held.table tests → EndsBy (λ other. proof_of args.proof held.proof ≡ Err other) cause
    → EndsBy (λ other. words_shown args m held ≡ Err other) cause
proof_ends args m held tests cause within holds (inl three) = inl three
proof_ends args m held tests cause within holds (inr is) =
    inr (words_within args m held within ∙ ap (λ read. and_then read (words_step args m held)) holds.read
    ∙ ap (λ given. and_then given (words_last args m holds.reading.rows)) is)

-- the bytes of a proof file
proof_within : (bytes : List ℕ) → length bytes ≤ most_bytes ProofFile → proof_in (Some bytes) ≡ Ok bytes
proof_within bytes short = ap (λ b. if b then Err (causes.Stop (TooLong kinds.Proof)) else Ok bytes) (le-ltb (most_bytes ProofFile) (length bytes) short)

proof_is : (held : Option (List ℕ)) (bytes : List ℕ) → held ≡ Some bytes → length bytes ≤ most_bytes ProofFile → proof_in held ≡ Ok bytes
proof_is held bytes is short = ap proof_in is ∙ proof_within bytes short

pub proof_told : (file : Option (Option (List ℕ))) (held : Option (List ℕ)) (bytes : List ℕ) → IfSome file (λ h. h ≡ Some bytes) → length bytes ≤ most_bytes ProofFile
    → file ≡ Some held → proof_in held ≡ Ok bytes
proof_told file held bytes whole short told = proof_is held bytes (at_held (λ h. h ≡ Some bytes) file held told whole) short

unread_ends : (held : Option (List ℕ)) (stop : Stop) → IsUnread kinds.Proof held stop → EndsBy (λ cause. proof_in held ≡ Err cause) (causes.Stop stop)
unread_ends held stop (reads.no_room is) = inl (ap (λ other. status_of (causes.Stop other)) is)
unread_ends held stop (reads.folder_failed is) = inl (ap (λ other. status_of (causes.Stop other)) is)
unread_ends None stop (reads.has_more is more) = absurd more
unread_ends (Some bytes) stop (reads.has_more is more) =
    inr (ap (λ b. if b then Err (causes.Stop (TooLong kinds.Proof)) else Ok bytes) (lt-ltb (most_bytes ProofFile) (length bytes) more) ∙ ap (λ other. Err (causes.Stop other)) (sym is))

pub proof_unread : (file : Option (Option (List ℕ))) (held : Option (List ℕ)) (stop : Stop) (cause : Cause) → IfSome file (λ h. IsUnread kinds.Proof h stop)
    → cause ≡ causes.Stop stop → file ≡ Some held → EndsBy (λ other. proof_in held ≡ Err other) cause
proof_unread file held stop cause unread is told =
    subst (EndsBy (λ other. proof_in held ≡ Err other)) (sym is) (unread_ends held stop (at_held (λ h. IsUnread kinds.Proof h stop) file held told unread))

-- the model was read, or it wasn't
pub due_given : (form : Option RowForm) (args : Show) (held : HeldFiles) (m : ModelView) → GivesModel (opts_of args.model args.strength) held.model (Ok m)
    → (answer : Result Answer Failure) → Gives (shown_due form args m held) answer → IsCalledFor (Due form args held) answer
due_given form args held m gives (Ok answer) is = record { given = Ok m; gives = gives; is = sym is }
due_given form args held m gives (Err failure) (inl three) = inl three
due_given form args held m gives (Err failure) (inr is) = inr (record { given = Ok m; gives = gives; is = sym is })

pub due_ended : (form : Option RowForm) (args : Show) (held : HeldFiles) (cause : Cause)
    → EndsBy (λ other. GivesModel (opts_of args.model args.strength) held.model (Err other)) cause → EndsBy (λ other. Due form args held (Err other)) cause
due_ended form args held cause (inl three) = inl three
due_ended form args held cause (inr gives) = inr (record { given = Err cause; gives = gives; is = refl })

-- a folder that was only read tells what it told
pub suite_kept : (args : Show) (held : HeldFiles) (before after : FolderSeen) → KeepsFiles before after → HoldsSuite before.files args held → HoldsSuite after.files args held
suite_kept args held before after keeps holds = record { table = keeps args.table ∙ holds.table; proof = proof_kept args.proof held.proof before after keeps holds.proof }
