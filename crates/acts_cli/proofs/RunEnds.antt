-- What the status of a run tells of how it ended.
use Rattle.std.proofs.Common.{◌≡◌, ℕ, ◌≤◌, List, Option, None, Some, Ok, Err, Result, ◌⊎◌, inl, inr, ◌∙◌, refl, sym, ap, arith, subst, length}
use Rattle.std.specs.Prelude.{◌≢◌, ◌^◌, ◌-◌, Bool, IfSome, IsSomeAnd, min}
use Rattle.outside_io.specs.believed.Seen.{FolderSeen, SinkSeen, KeepsFiles, KeepsOtherFiles, KeepsReadFaults, KeepsWriteFaults, ReadFaultsRose, WriteFaultsRose}
use Rattle.definitions.specs.believed.Limits.{ModelFile, most_bytes}
use Rattle.acts_front.specs.believed.Codes.{refusal_status}
use Rattle.acts_cli.specs.believed.Runs.{Ends, IsRun, IsTooLong, IsTranslated}
use Rattle.acts_cli.specs.Steps.{Ran}
use Rattle.command_line.specs.believed.Told.{Tells}
use Rattle.acts_cli.specs.believed.Stops.{IsStatus, end_status, end_text}
use Rattle.acts_front.specs.believed.Translation.{translation}
use Rattle.acts_cli.specs.believed.Words.{Asked, IsWordFault, asked_by}
use Rattle.acts_front.specs.declared.code.ActsCode.{ActsCode}
use Rattle.acts_front.specs.declared.code.ActsCode.TheVariants.{A1, A2, A3, A4, A5, A6, A7, A8, A9, A10, A11}
use Rattle.acts_cli.specs.declared.stop.Stop.{Stop}
use Rattle.acts_cli.specs.declared.stop.Stop.TheVariants.{OutOfMemory, Refused, CannotRead, CannotWrite, TooLong}
use Rattle.acts_front.specs.believed.SameModels.{IsFaithful}
use Rattle.acts_front.proofs.SayTheSame.{faithful}
use Rattle.value_text.proofs.ListLemmas.{one_err, one_ok}

-- ---- words without a reading

pub unasked : (words : List (List ℕ)) (index : ℕ) (asked : Asked) → IsWordFault words index → asked_by words ≡ Ok asked → ⊥
unasked words index asked fault asks = let differ = sym fault.1 ∙ asks in cc

-- ---- which end has a status

refusal : (code : ActsCode) → (refusal_status code ≡ 4) ⊎ (refusal_status code ≡ 5)
refusal A1 = inl refl
refusal A2 = inl refl
refusal A3 = inl refl
refusal A4 = inl refl
refusal A5 = inl refl
refusal A6 = inl refl
refusal A7 = inl refl
refusal A8 = inl refl
refusal A9 = inr refl
refusal A10 = inr refl
refusal A11 = inr refl

-- a refusal has no other status
unrefused : (code : ActsCode) (status : ℕ) → status ≢ 4 → status ≢ 5 → refusal_status code ≢ status
unrefused code status four five is = elim (refusal code) [
  | inl a ↦ four (sym is ∙ a)
  | inr a ↦ five (sym is ∙ a)
]

pub zero_is_end : (end : Result (Unit {0}) Stop) → end_status end ≡ 0 → end ≡ Ok tt
zero_is_end (Ok done) zero = refl
zero_is_end (Err OutOfMemory) zero = absurd (omega arith)
zero_is_end (Err (Refused line code)) zero = absurd (unrefused code 0 (λ e. omega arith) (λ e. omega arith) zero)
zero_is_end (Err CannotRead) zero = absurd (omega arith)
zero_is_end (Err CannotWrite) zero = absurd (omega arith)
zero_is_end (Err TooLong) zero = absurd (omega arith)

three_is_word : (end : Result (Unit {0}) Stop) → end_status end ≢ 3
three_is_word (Ok done) is = omega arith
three_is_word (Err OutOfMemory) is = omega arith
three_is_word (Err (Refused line code)) is = unrefused code 3 (λ e. omega arith) (λ e. omega arith) is
three_is_word (Err CannotRead) is = omega arith
three_is_word (Err CannotWrite) is = omega arith
three_is_word (Err TooLong) is = omega arith

seven_is_read : (end : Result (Unit {0}) Stop) → end_status end ≡ 7 → end ≡ Err CannotRead
seven_is_read (Ok done) is = absurd (omega arith)
seven_is_read (Err OutOfMemory) is = absurd (omega arith)
seven_is_read (Err (Refused line code)) is = absurd (unrefused code 7 (λ e. omega arith) (λ e. omega arith) is)
seven_is_read (Err CannotRead) is = refl
seven_is_read (Err CannotWrite) is = absurd (omega arith)
seven_is_read (Err TooLong) is = absurd (omega arith)

eight_is_write : (end : Result (Unit {0}) Stop) → end_status end ≡ 8 → end ≡ Err CannotWrite
eight_is_write (Ok done) is = absurd (omega arith)
eight_is_write (Err OutOfMemory) is = absurd (omega arith)
eight_is_write (Err (Refused line code)) is = absurd (unrefused code 8 (λ e. omega arith) (λ e. omega arith) is)
eight_is_write (Err CannotRead) is = absurd (omega arith)
eight_is_write (Err CannotWrite) is = refl
eight_is_write (Err TooLong) is = absurd (omega arith)

is_status : (end : Result (Unit {0}) Stop) → IsStatus (end_status end)
is_status (Ok done) = refl
is_status (Err OutOfMemory) = refl
is_status (Err (Refused line code)) = elim (refusal code) [
  | inl four ↦ subst IsStatus (sym four) refl
  | inr five ↦ subst IsStatus (sym five) refl
]
is_status (Err CannotRead) = refl
is_status (Err CannotWrite) = refl
is_status (Err TooLong) = refl

-- ---- which status an end has, by the file that was read

module _ (fold : Bool) (bytes : List ℕ) (before after : Option (Option (List ℕ))) where
  completes : (text : List ℕ) (end : Result (Unit {0}) Stop) → Ends fold (Some bytes) before after end → length bytes ≤ most_bytes ModelFile → translation fold bytes ≡ Ok text
      → end ≢ Err CannotRead → end ≢ Err CannotWrite → (end_status end ≡ 0) ⊎ (end_status end ≡ 1)
  completes text (Ok done) ends within made read write = inl refl
  completes text (Err OutOfMemory) ends within made read write = inr refl
  completes text (Err (Refused line code)) ends within made read write = let differ = sym made ∙ ends.0.1 in absurd (cc)
  completes text (Err CannotRead) ends within made read write = absurd (read refl)
  completes text (Err CannotWrite) ends within made read write = absurd (write refl)
  completes text (Err TooLong) ends within made read write = absurd (omega (arith, ends.0))

  refuses : (line : ℕ) (code : ActsCode) (end : Result (Unit {0}) Stop) → Ends fold (Some bytes) before after end → length bytes ≤ most_bytes ModelFile
      → translation fold bytes ≡ Err (line, code) → end ≢ Err CannotRead → (end_status end ≡ refusal_status code) ⊎ (end_status end ≡ 1)
  refuses line code (Ok done) ends within refused read = let differ = sym refused ∙ ends.translated in absurd (cc)
  refuses line code (Err OutOfMemory) ends within refused read = inr refl
  refuses line code (Err (Refused told other)) ends within refused read = inl (ap (λ first. refusal_status first.1) (one_err ends.0.1 refused))
  refuses line code (Err CannotRead) ends within refused read = absurd (read refl)
  refuses line code (Err CannotWrite) ends within refused read = let differ = sym refused ∙ ends.translated in absurd (cc)
  refuses line code (Err TooLong) ends within refused read = absurd (omega (arith, ends.0))

  is_longer : (end : Result (Unit {0}) Stop) → Ends fold (Some bytes) before after end → IsTooLong bytes → end ≢ Err CannotRead → (end_status end ≡ 9) ⊎ (end_status end ≡ 1)
  is_longer (Ok done) ends long read = absurd (omega (arith, ends.within))
  is_longer (Err OutOfMemory) ends long read = inr refl
  is_longer (Err (Refused line code)) ends long read = absurd (omega (arith, ends.0.0))
  is_longer (Err CannotRead) ends long read = absurd (read refl)
  is_longer (Err CannotWrite) ends long read = absurd (omega (arith, ends.within))
  is_longer (Err TooLong) ends long read = inl refl

is_missing : (fold : Bool) (before after : Option (Option (List ℕ))) (end : Result (Unit {0}) Stop) → Ends fold None before after end → (end_status end ≡ 7) ⊎ (end_status end ≡ 1)
is_missing fold before after (Ok done) ends = absurd ends
is_missing fold before after (Err OutOfMemory) ends = inr refl
is_missing fold before after (Err (Refused line code)) ends = absurd ends.0
is_missing fold before after (Err CannotRead) ends = inl refl
is_missing fold before after (Err CannotWrite) ends = absurd ends
is_missing fold before after (Err TooLong) ends = absurd ends.0

-- ---- a run that came to an end, by its status

module _ {words : Result Asked ℕ} {ran_for : Asked} {before after : FolderSeen} {end : Result (Unit {0}) Stop} {status : ℕ}
    (asks : words ≡ Ok ran_for) (ran : Ran ran_for before after end) (is : status ≡ end_status end) where
  ran_as : (asked : Asked) → words ≡ Ok asked → Ran asked before after end
  ran_as asked also = subst (λ a. Ran a before after end) (one_ok asks also) ran

  ends_as : (asked : Asked) (held : Option (List ℕ)) → words ≡ Ok asked → before.files asked.input ≡ Some held → Ends asked.fold held (before.files asked.output) (after.files asked.output) end
  ends_as asked held also at = subst (λ found. IfSome found (λ h. Ends asked.fold h (before.files asked.output) (after.files asked.output) end)) at (ran_as asked also).ends

  -- a file was translated, and its translation was written
  pub whole : status ≡ 0 → (asked : Asked) (held : Option (List ℕ)) → words ≡ Ok asked → before.files asked.input ≡ Some held
      → IsSomeAnd held (IsTranslated asked.fold (λ text. IfSome (after.files asked.output) (λ file. file ≡ Some text)))
  whole zero asked held also at = subst (Ends asked.fold held (before.files asked.output) (after.files asked.output)) (zero_is_end end (sym is ∙ zero)) (ends_as asked held also at)

  pub run_is : {told told_after : SinkSeen} → Tells told told_after (end_text end ran_for.input ran_for.output)
      → (asked : Asked) → words ≡ Ok asked → IsRun asked before after told told_after status
  run_is {told = told} {told_after = told_after} tells asked also =
      subst (λ a. IsRun a before after told told_after status) (one_ok asks also) (record { end = end; ends = ran.ends; tells = tells; ended = is })

  pub not_words : status ≢ 3
  not_words three = three_is_word end (sym is ∙ three)

  pub complete : (asked : Asked) (bytes text : List ℕ) → words ≡ Ok asked → before.files asked.input ≡ Some (Some bytes) → length bytes ≤ most_bytes ModelFile
      → translation asked.fold bytes ≡ Ok text → ¬ ReadFaultsRose asked.input before after → ¬ WriteFaultsRose asked.output before after
      → (status ≡ 0) ⊎ (status ≡ 1)
  complete asked bytes text also at within made read write =
      let r = ran_as asked also in
      subst (λ s. (s ≡ 0) ⊎ (s ≡ 1)) (sym is) (completes asked.fold bytes (before.files asked.output) (after.files asked.output) text end (ends_as asked (Some bytes) also at) within made
      (λ e. read (r.read e)) (λ e. write (r.write e)))

  pub refused : (asked : Asked) (bytes : List ℕ) (line : ℕ) (code : ActsCode) → words ≡ Ok asked → before.files asked.input ≡ Some (Some bytes) → length bytes ≤ most_bytes ModelFile
      → translation asked.fold bytes ≡ Err (line, code) → ¬ ReadFaultsRose asked.input before after → (status ≡ refusal_status code) ⊎ (status ≡ 1)
  refused asked bytes line code also at within refusal read =
      let r = ran_as asked also in
      subst (λ s. (s ≡ refusal_status code) ⊎ (s ≡ 1)) (sym is) (refuses asked.fold bytes (before.files asked.output) (after.files asked.output) line code end
      (ends_as asked (Some bytes) also at) within refusal (λ e. read (r.read e)))

  pub too_long : (asked : Asked) (bytes : List ℕ) → words ≡ Ok asked → before.files asked.input ≡ Some (Some bytes) → IsTooLong bytes
      → ¬ ReadFaultsRose asked.input before after → (status ≡ 9) ⊎ (status ≡ 1)
  too_long asked bytes also at long read =
      let r = ran_as asked also in
      subst (λ s. (s ≡ 9) ⊎ (s ≡ 1)) (sym is)
      (is_longer asked.fold bytes (before.files asked.output) (after.files asked.output) end (ends_as asked (Some bytes) also at) long (λ e. read (r.read e)))

  pub missing : (asked : Asked) → words ≡ Ok asked → before.files asked.input ≡ Some None → (status ≡ 7) ⊎ (status ≡ 1)
  missing asked also at =
      subst (λ s. (s ≡ 7) ⊎ (s ≡ 1)) (sym is) (is_missing asked.fold (before.files asked.output) (after.files asked.output) end (ends_as asked None also at))

  pub read : status ≡ 7 → (asked : Asked) → words ≡ Ok asked → ReadFaultsRose asked.input before after
  read seven asked also = (ran_as asked also).read (seven_is_read end (sym is ∙ seven))

  pub write : status ≡ 8 → (asked : Asked) → words ≡ Ok asked → WriteFaultsRose asked.output before after
  write eight asked also = (ran_as asked also).write (eight_is_write end (sym is ∙ eight))

  pub others : (asked : Asked) → words ≡ Ok asked → KeepsOtherFiles asked.output before after
  others asked also = (ran_as asked also).others

  pub statuses : IsStatus status
  statuses = subst IsStatus (sym is) (is_status end)

  pub nothing : status ≢ 0 → status ≢ 8 → KeepsFiles before after
  nothing some other = ran.nothing (λ e. some (is ∙ ap end_status e)) (λ e. other (is ∙ ap end_status e))

  pub no_read_fault : status ≢ 7 → KeepsReadFaults before after
  no_read_fault other = ran.no_read_fault (λ e. other (is ∙ ap end_status e))

  pub no_write_fault : status ≢ 8 → KeepsWriteFaults before after
  no_write_fault other = ran.no_write_fault (λ e. other (is ∙ ap end_status e))

-- what a run wrote says what the file said
pub written_faithful : (fold : Bool) (held : Option (List ℕ)) (after : Option (Option (List ℕ)))
    → IsSomeAnd held (IsTranslated fold (λ text. IfSome after (λ file. file ≡ Some text))) → IsSomeAnd held (λ bytes. IfSome after (λ file. IsSomeAnd file (IsFaithful fold bytes)))
written_faithful fold None after is = is
written_faithful fold (Some bytes) None is = tt
written_faithful fold (Some bytes) (Some file) is = subst (λ f. IsSomeAnd f (IsFaithful fold bytes)) (sym is.holds) (faithful fold bytes is.text is.translated)
