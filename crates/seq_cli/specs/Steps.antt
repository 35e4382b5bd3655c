-- What the steps of a run of `pictseq` say of each other. (This project's rules.)
use Rattle.std.specs.Prelude.{◌≡◌, ◌≢◌, ℕ, List, Option, Result, Err}
use Rattle.outside_io.specs.believed.Files.{Files}
use Rattle.outside_io.specs.believed.Seen.{FolderSeen, SinkSeen, KeepsReadFaults, PutFaultsRose}
use Rattle.seq_check.specs.believed.Events.{EventsView}
use Rattle.seq_cli.specs.believed.Runs.{Ends, IsReportRead, RoseOf, answer_of}
use Rattle.seq_cli.specs.believed.Words.{Asked}
use Rattle.seq_cli.specs.declared.stop.Ended.{Ended}
use Rattle.seq_cli.specs.declared.stop.Input.{Input}
use Rattle.seq_cli.specs.declared.stop.Stop.{Stop}
use Rattle.seq_cli.specs.declared.stop.Stop.TheVariants.{CannotRead, CannotWrite}

-- the text and the end of a run on these events
pub record IsAnswer (asked : Asked) (files : Files) (e : EventsView) (text : List ℕ) (ended : Ended) : Type 0 where
  pub report : Option (List ℕ)
  pub read : IsReportRead files asked.report report
  pub text_is : text ≡ (answer_of e report).text
  pub ended_is : ended ≡ (answer_of e report).ended

-- the count of faults of the output: it rose where the output couldn't be written, and else it stays
abbrev pub CountsOut : Result Ended Stop → SinkSeen → SinkSeen → Type 0
CountsOut (Err CannotWrite) before after = PutFaultsRose before after
CountsOut end before after = after.faults ≡ before.faults

-- a run ended so, by what the folder and the output tell before and after
pub record Ran (asked : Asked) (folder folder_after : FolderSeen) (out out_after : SinkSeen) (end : Result Ended Stop) : Type 0 where
  pub ends : Ends asked folder.files out out_after end
  pub rose : (input : Input) → end ≡ Err (CannotRead input) → RoseOf asked input folder folder_after
  pub calm : ((input : Input) → end ≢ Err (CannotRead input)) → KeepsReadFaults folder folder_after
  pub counts : CountsOut end out out_after
