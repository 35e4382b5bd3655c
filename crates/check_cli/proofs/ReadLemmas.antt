-- What the reading of the three files gives, from that of each.
use Rattle.std.proofs.Common.{◌≡◌, ℕ, ◌<◌, ◌≤◌, true, cond, List, Option, None, Some, Ok, Err, length, refl, sym, ap, subst, ◌∙◌}
use Rattle.std.specs.Prelude.{IsSomeAnd}
use Rattle.std.proofs.lemmas.Bool.{le-ltb, lt-ltb}
use Rattle.outside_io.specs.believed.Faults.{Rose}
use Rattle.outside_io.specs.believed.Seen.{FolderSeen, KeepsFiles, KeepsReadFaults, ReadFaultsRose}
use Rattle.definitions.specs.believed.Limits.{most_bytes}
use Rattle.model_lex.specs.declared.options.ModelOpts.{ModelOpts}
use Rattle.command_line.specs.Loading.{IsOfReading, IsUnread, no_room, folder_failed, has_more}
use Rattle.command_line.specs.believed.Stops.{NamesView, measured, name_of}
use Rattle.command_line.specs.declared.files.FileKind.{FileKind}
use Rattle.command_line.specs.declared.files.FileKind.TheVariants as kinds
use Rattle.command_line.specs.declared.stop.Stop.{Stop}
use Rattle.command_line.specs.declared.stop.Stop.TheVariants.{OutOfMemory, Spent, BadWord, BadModel, BadConstraint, BadRows, NoResult, BadResult, CannotRead}
use Rattle.command_line.specs.declared.stop.Stop.TheVariants.{CannotWrite, CannotWriteReport, TooMany, TooLong}
use Rattle.check_cli.specs.RunSteps.{StopsBefore, cannot_read, is_before, is_refused, no_memory}
use Rattle.check_cli.specs.believed.Runs.{HeldFiles, Holds, bytes_of, inputs_of, join_bytes, unread}

-- a file that was read whole, and one with too many bytes
pub whole : (kind : FileKind) (held : Option (List ℕ)) (bytes : List ℕ) → held ≡ Some bytes → length bytes ≤ most_bytes (measured kind)
    → bytes_of kind held ≡ Ok bytes
whole kind held bytes is short =
    ap (bytes_of kind) is ∙ ap (λ b. cond b (Err (TooLong kind)) (Ok bytes)) (le-ltb (most_bytes (measured kind)) (length bytes) short)

long : (kind : FileKind) (held : Option (List ℕ)) → IsSomeAnd held (λ bytes. most_bytes (measured kind) < length bytes) → bytes_of kind held ≡ Err (TooLong kind)
long kind None none = absurd none
long kind (Some bytes) more = ap (λ b. cond b (Err (TooLong kind)) (Ok bytes)) (lt-ltb (most_bytes (measured kind)) (length bytes) more)

-- why a run stops that didn't read a file, where this would be why no bytes are had
pub stops : (opts : ModelOpts) (held : HeldFiles) (kind : FileKind) (file : Option (List ℕ)) (stop : Stop)
    → (bytes_of kind file ≡ Err (TooLong kind) → inputs_of held ≡ Err (TooLong kind)) → IsUnread kind file stop → StopsBefore opts held stop
stops opts held kind file stop first (no_room is) = no_memory is
stops opts held kind file stop first (folder_failed is) = cannot_read kind is
stops opts held kind file stop first (has_more is more) =
    is_refused (unread (subst (λ s. inputs_of held ≡ Err s) (sym is) (first (long kind file more))))

-- a file that isn't read stops a run before anything is written
pub stops_before : {kind : FileKind} (stop : Stop) → IsOfReading kind stop → is_before stop ≡ true
stops_before OutOfMemory of = refl
stops_before (Spent budget question) of = absurd (of.questions budget question refl)
stops_before (BadWord index) of = absurd (of.words index refl)
stops_before (BadModel diag) of = refl
stops_before (BadConstraint diag) of = refl
stops_before (BadRows fault) of = refl
stops_before NoResult of = absurd (of.results.0 refl)
stops_before (BadResult line) of = absurd (of.results.1 line refl)
stops_before (CannotRead other) of = refl
stops_before (CannotWrite other) of = absurd (of.writes other refl)
stops_before CannotWriteReport of = absurd (of.report refl)
stops_before (TooMany quantity count) of = refl
stops_before (TooLong other) of = refl

-- where it is said that a file couldn't be read, it is this one, whose count of faults rose
pub blames_itself : (kind : FileKind) (stop : Stop) (names : NamesView) (first before after : FolderSeen) → IsOfReading kind stop → KeepsReadFaults first before
    → (stop ≡ CannotRead kind → ReadFaultsRose (name_of names kind) before after)
    → (other : FileKind) → stop ≡ CannotRead other → ReadFaultsRose (name_of names other) first after
blames_itself kind stop names first before after of keeps rose other is =
    let same = of.read other is in
    let here = subst (λ n. Rose n (after.read_faults (name_of names kind))) (keeps (name_of names kind)) (rose (subst (λ k. stop ≡ CannotRead k) same is)) in
    subst (λ k. ReadFaultsRose (name_of names k) first after) (sym same) here

-- files that stay are told as before
pub holds_after : (before after : FolderSeen) {names : NamesView} {held : HeldFiles} → KeepsFiles before after → Holds before.files names held → Holds after.files names held
holds_after before after {names = names} keeps holds = record {
  model = keeps names.model ∙ holds.model;
  report = keeps names.rows ∙ holds.report;
  proof = keeps names.proof ∙ holds.proof;
}

-- the bytes of the files one by one
module _ (held : HeldFiles) where
  pub model_first : (stop : Stop) → bytes_of kinds.Model held.model ≡ Err stop → inputs_of held ≡ Err stop
  model_first stop e = ap (λ r. join_bytes r (bytes_of kinds.Rows held.report) (bytes_of kinds.Proof held.proof)) e

  pub report_next : (model : List ℕ) (stop : Stop) → bytes_of kinds.Model held.model ≡ Ok model → bytes_of kinds.Rows held.report ≡ Err stop → inputs_of held ≡ Err stop
  report_next model stop a e =
      ap (λ r. join_bytes r (bytes_of kinds.Rows held.report) (bytes_of kinds.Proof held.proof)) a
      ∙ ap (λ r. join_bytes (Ok model) r (bytes_of kinds.Proof held.proof)) e

  behind_two : (model report : List ℕ) → bytes_of kinds.Model held.model ≡ Ok model → bytes_of kinds.Rows held.report ≡ Ok report
      → inputs_of held ≡ join_bytes (Ok model) (Ok report) (bytes_of kinds.Proof held.proof)
  behind_two model report a b =
      ap (λ r. join_bytes r (bytes_of kinds.Rows held.report) (bytes_of kinds.Proof held.proof)) a
      ∙ ap (λ r. join_bytes (Ok model) r (bytes_of kinds.Proof held.proof)) b

  pub proof_last : (model report : List ℕ) (stop : Stop) → bytes_of kinds.Model held.model ≡ Ok model → bytes_of kinds.Rows held.report ≡ Ok report
      → bytes_of kinds.Proof held.proof ≡ Err stop → inputs_of held ≡ Err stop
  proof_last model report stop a b e = behind_two model report a b ∙ ap (join_bytes (Ok model) (Ok report)) e

  pub all_read : (model report proof : List ℕ) → bytes_of kinds.Model held.model ≡ Ok model → bytes_of kinds.Rows held.report ≡ Ok report
      → bytes_of kinds.Proof held.proof ≡ Ok proof → inputs_of held ≡ Ok (record { model = model; report = report; proof = proof })
  all_read model report proof a b c = behind_two model report a b ∙ ap (join_bytes (Ok model) (Ok report)) c
