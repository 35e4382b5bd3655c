-- What the steps of a run say of each other. (This project's rules.)
use Rattle.std.specs.Prelude.{◌≡◌, ◌≢◌, ℕ, Bool, List, Option, Result, Ok, Err, IfSome, IsSomeAnd}
use Rattle.std.specs.declared.vec.Vec.{Vec}
use Rattle.std.specs.declared.alloc.Global.{Global}
use Rattle.outside_io.specs.believed.Seen.{FolderSeen, KeepsFiles, KeepsOtherFiles, KeepsReadFaults, KeepsWriteFaults, ReadFaultsRose, WriteFaultsRose}
use Rattle.acts_cli.specs.believed.Runs.{Ends, IsRefused, IsTooLong, IsTranslated}
use Rattle.acts_cli.specs.believed.Words.{Asked}
use Rattle.acts_cli.specs.declared.stop.Stop.{Stop}
use Rattle.acts_cli.specs.declared.stop.Stop.TheVariants.{OutOfMemory, Refused, CannotRead, CannotWrite, TooLong}

-- how the reading of a file may end, where it is held or there is none: with its translation, or why not
abbrev pub Loads : Bool → Option (List ℕ) → Result (Vec ℕ Global) Stop → Type 0
Loads fold held (Ok text) = IsSomeAnd held (IsTranslated fold (λ t. t ≡ text.items))
Loads fold held (Err OutOfMemory) = Unit {0}
Loads fold held (Err (Refused line code)) = IsSomeAnd held (IsRefused fold (line, code))
Loads fold held (Err CannotRead) = Unit {0}
Loads fold held (Err CannotWrite) = ⊥
Loads fold held (Err TooLong) = IsSomeAnd held IsTooLong

-- a run ended so that was asked for this, in a folder that tells this before and after
pub record Ran (asked : Asked) (before after : FolderSeen) (end : Result (Unit {0}) Stop) : Type 0 where
  pub ends : IfSome (before.files asked.input) (λ held. Ends asked.fold held (before.files asked.output) (after.files asked.output) end)
  pub read : end ≡ Err CannotRead → ReadFaultsRose asked.input before after
  pub write : end ≡ Err CannotWrite → WriteFaultsRose asked.output before after
  pub others : KeepsOtherFiles asked.output before after
  pub nothing : end ≢ Ok tt → end ≢ Err CannotWrite → KeepsFiles before after
  pub no_read_fault : end ≢ Err CannotRead → KeepsReadFaults before after
  pub no_write_fault : end ≢ Err CannotWrite → KeepsWriteFaults before after
