-- A run whose model file was read, and one whose reading stopped.
use Rattle.std.proofs.Common.{◌≡◌, ℕ, List, [], Option, None, Some, Err, Result, inl, inr, refl, sym, ap, subst, ◌∙◌}
use Rattle.std.specs.Prelude.{◌≢◌, IfSome, IsSomeAnd}
use Rattle.value_text.proofs.ListLemmas.{at_held}
use Rattle.outside_io.specs.believed.Seen.{FolderSeen, KeepsFiles, KeepsReadFaults, KeepsWriteFaults, ReadFaultsRose}
use Rattle.cov_model.specs.believed.Sound.{ModelView}
use Rattle.definitions.specs.declared.effort.Effort.{Effort}
use Rattle.definitions.specs.believed.Settings.{Settings}
use Rattle.model_lex.specs.declared.note.Note.{Note}
use Rattle.model_lex.specs.declared.options.ModelOpts.{ModelOpts}
use Rattle.command_line.specs.believed.Loading.{IsLoaded, StopsReading}
use Rattle.command_line.specs.Loading.{IsOfReading}
use Rattle.command_line.specs.declared.files.FileKind.TheVariants as kinds
use Rattle.command_line.specs.declared.stop.Stop.{Stop}
use Rattle.command_line.specs.declared.stop.Stop.TheVariants.{CannotRead}
use Rattle.pict_cli.specs.believed.Ends.{CountsReads, Moment, Prints, Stopped, Unread, end_of, read_unless_made}
use Rattle.pict_cli.specs.Ends.{IsAnswered, IsEarly, Leaves}
use Rattle.pict_cli.specs.believed.Modes.{RowSource, row_file, row_source, source_in}
use Rattle.command_line.specs.believed.Words.{opts_of}
use Rattle.pict_cli.specs.believed.Runs.{Ends, RunsModel, given_of, out_text, rows_of_run}
use Rattle.pict_cli.specs.Steps.{RanOn}
use Rattle.pict_cli.proofs.Early.{leaves_early, leaves_from, proof_from, stopped_answered}
use Rattle.pict_cli.proofs.RunEnds.{ends_loaded, reading_ends}

if_told : {A : Type 0} (P : A → Type 0) (o : Option A) → ((x : A) → o ≡ Some x → P x) → IfSome o P
if_told P None says = tt
if_told P (Some x) says = says x refl

-- the row file is told as before
source_kept : (s : Settings) (before loaded : FolderSeen) → KeepsFiles before loaded → row_source s loaded.files ≡ row_source s before.files
source_kept s before loaded keeps = at (row_file s)
  where
    at : (file : Option (List ℕ)) → source_in file loaded.files ≡ source_in file before.files
    at None = refl
    at (Some name) = ap (λ held. source_in (Some name) (λ other. held)) (keeps name)

-- what a run on a model did once that was read, it did since the moment before
runs_read : (s : Settings) (seed : ℕ) (source : RowSource) (m : ModelView) (row_notes : List Note) (before loaded after : Moment)
    (end : Result (Unit {0}) Stop) → KeepsFiles before.folder loaded.folder → loaded.out ≡ before.out
    → RunsModel s seed m source row_notes loaded after end → RunsModel s seed m source row_notes before after end
runs_read s seed source m row_notes before loaded after end keeps quiet runs = record {
  sound = runs.sound;
  ends = runs.ends;
  prints = subst (λ out. Prints (out_text s seed m (given_of s m source)) out after.out (end_of end)) quiet runs.prints;
  writes = proof_from s seed m (rows_of_run s m source) before.folder loaded.folder after.folder (end_of end) keeps runs.writes;
  others = λ file other. runs.others file other ∙ keeps file;
}

-- the reading stopped
unread_early : (stop : Stop) → IsOfReading kinds.Model stop → IsEarly (end_of (Err stop))
unread_early stop of = elim (reading_ends stop of) [
  | inl is ↦ subst (λ other. IsEarly (end_of (Err other))) (sym is) tt
  | inr is ↦ subst IsEarly (sym is) tt
]

unread_answered : (effort : Effort) (stop : Stop) → IsOfReading kinds.Model stop → IsAnswered effort (end_of (Err stop))
unread_answered effort stop of = elim (reading_ends stop of) [
  | inl is ↦ subst (λ other. IsAnswered effort (end_of (Err other))) (sym is) (λ full e. cc)
  | inr is ↦ stopped_answered effort (end_of (Err stop)) is
]

unread_counts : (s : Settings) (name : List ℕ) (stop : Stop) (before after : FolderSeen) → s.make ≡ None → IsOfReading kinds.Model stop
    → (stop ≡ (CannotRead kinds.Model) → ReadFaultsRose name before after) → (stop ≢ (CannotRead kinds.Model) → KeepsReadFaults before after)
    → CountsReads s name (end_of (Err stop)) before after
unread_counts s name stop before after none of rose keeps = elim (reading_ends stop of) [
  | inl is ↦ subst (λ other. CountsReads s name (end_of (Err other)) before after) (sym is)
      (subst (λ make. IsSomeAnd (read_unless_made make name) (λ file. ReadFaultsRose file before after)) (sym none) (rose is))
  | inr is ↦ subst (λ end. CountsReads s name end before after) (sym is)
      (keeps (λ e. let other : Unread kinds.Model ≡ Stopped = sym (ap (λ x. end_of (Err x)) e) ∙ is in cc))
]

pub leaves_unread : (s : Settings) (name : List ℕ) (before after : Moment) (stop : Stop) → s.make ≡ None → IsOfReading kinds.Model stop → KeepsFiles before.folder after.folder
    → (stop ≡ (CannotRead kinds.Model) → ReadFaultsRose name before.folder after.folder) → (stop ≢ (CannotRead kinds.Model) → KeepsReadFaults before.folder after.folder)
    → KeepsWriteFaults before.folder after.folder → after.out ≡ before.out → Leaves s name before after (end_of (Err stop))
leaves_unread s name before after stop none of keeps rose calm writes quiet =
    leaves_early s name before after (end_of (Err stop)) (unread_early stop of) (unread_answered s.effort stop of) keeps
    (unread_counts s name stop before.folder after.folder none of rose calm) writes quiet

-- a run on the bytes of a model, once they were read, where the folder and the output are as before
pub ran_loaded : (bytes : Option (Option (List ℕ))) (opts : ModelOpts) (s : Settings) (seed : ℕ) (name : List ℕ) (m : ModelView) (noted notes row_notes : List Note)
    (before loaded after : Moment) (end : Result (Unit {0}) Stop) → opts ≡ opts_of s → notes ≡ noted
    → KeepsFiles before.folder loaded.folder → KeepsReadFaults before.folder loaded.folder → KeepsWriteFaults before.folder loaded.folder → loaded.out ≡ before.out
    → IfSome bytes (λ held. IsLoaded opts held m noted)
    → ((source : RowSource) → row_source s loaded.folder.files ≡ Some source → RunsModel s seed m source row_notes loaded after end)
    → Leaves s name loaded after (end_of end) → RanOn bytes s seed name before after notes row_notes end
ran_loaded bytes opts s seed name m noted notes row_notes before loaded after end same told keeps reads writes quiet read runs left = record {
  ends = λ held at.
      subst (λ list. Ends s seed held (row_source s before.folder.files) list row_notes before after end) (sym told)
      (ends_loaded s seed held (row_source s before.folder.files) m noted row_notes before after end
      (subst (λ found. IsLoaded found held m noted) same (at_held (λ found. IsLoaded opts found m noted) bytes held at read))
      (if_told _ (row_source s before.folder.files) (λ source given.
      runs_read s seed source m row_notes before loaded after end keeps quiet (runs source (source_kept s before.folder loaded.folder keeps ∙ given)))));
  leaves = leaves_from s name before loaded after (end_of end) keeps reads writes quiet left;
}

-- and one whose reading stopped
pub ran_unread : (bytes : Option (Option (List ℕ))) (opts : ModelOpts) (s : Settings) (seed : ℕ) (name : List ℕ) (notes row_notes : List Note)
    (before after : Moment) (end : Result (Unit {0}) Stop) (stop : Stop) → opts ≡ opts_of s → end ≡ Err stop → notes ≡ [] → row_notes ≡ []
    → after.out ≡ before.out → KeepsFiles before.folder after.folder → IfSome bytes (λ held. StopsReading opts held stop)
    → Leaves s name before after (end_of (Err stop)) → RanOn bytes s seed name before after notes row_notes end
ran_unread bytes opts s seed name notes row_notes before after end stop same e told told_rows quiet keeps stops left =
    subst (RanOn bytes s seed name before after notes row_notes) (sym e) (record {
      ends = λ held at. inl (
        subst (λ found. StopsReading found held stop) same (at_held (λ found. StopsReading opts found stop) bytes held at stops),
        told,
        told_rows,
        quiet,
        keeps,
      );
      leaves = left;
    })
