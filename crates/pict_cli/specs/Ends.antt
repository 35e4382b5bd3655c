-- How a run ends, as far as files and output tell: whole, by a file that couldn't be read or written, by the output
-- that couldn't, by its words, by a question above the budget, or by any other stop. (This project's rules.)
use Rattle.std.specs.Prelude.{◌≡◌, ◌≢◌, ℕ, List}
use Rattle.outside_io.specs.believed.Seen.{FolderSeen, SinkSeen, KeepsFiles}
use Rattle.definitions.specs.declared.effort.Effort.{Effort}
use Rattle.definitions.specs.declared.effort.Effort.TheVariants.{Full}
use Rattle.definitions.specs.believed.Settings.{Settings}
use Rattle.command_line.specs.declared.files.FileKind.TheVariants as kinds
use Rattle.pict_cli.specs.believed.Ends.{End, Whole, Unread, Unwritten, Unprinted, Misworded, Unanswered, Stopped, file_written, CountsOut, CountsReads, CountsWrites, KeepsOthers, KeepsUnwritten, Moment}

-- it ends before anything is written
abbrev pub IsEarly : End → Type 0
IsEarly (Unread kind) = Unit {0}
IsEarly Unanswered = Unit {0}
IsEarly Stopped = Unit {0}
IsEarly end = ⊥

-- without a budget no question is above it
abbrev pub IsAnswered : Effort → End → Type 0
IsAnswered effort end = effort ≡ Full → end ≢ Unanswered

-- the output got nothing, unless its text was to be written
abbrev pub IsQuiet : End → SinkSeen → SinkSeen → Type 0
IsQuiet Whole before after = Unit {0}
IsQuiet Unprinted before after = Unit {0}
IsQuiet end before after = after ≡ before

-- no file changes where a run ends before one is written
abbrev pub StaysStill : End → FolderSeen → FolderSeen → Type 0
StaysStill Whole before after = Unit {0}
StaysStill (Unwritten kind) before after = Unit {0}
StaysStill Unprinted before after = Unit {0}
StaysStill end before after = KeepsFiles before after

-- what a run on a model that ends so leaves of the folder and the output, whether they tell what they hold or not
pub record Leaves (s : Settings) (name : List ℕ) (before after : Moment) (end : End) : Type 0 where
  pub reads : CountsReads s name end before.folder after.folder
  pub writes : CountsWrites s name end before.folder after.folder
  pub faults : CountsOut end before.out after.out
  pub quiet : IsQuiet end before.out after.out
  pub others : KeepsOthers s.proof before.folder after.folder
  pub still : StaysStill end before.folder after.folder
  pub worded : end ≢ Misworded
  pub answered : IsAnswered s.effort end

-- and what a whole run leaves: one that ends before a suite is written has written no file but a made model
pub record LeavesAll (s : Settings) (name : List ℕ) (before after : Moment) (end : End) : Type 0 where
  pub reads : CountsReads s name end before.folder after.folder
  pub writes : CountsWrites s name end before.folder after.folder
  pub faults : CountsOut end before.out after.out
  pub quiet : IsQuiet end before.out after.out
  pub others : KeepsUnwritten (file_written s name) before.folder after.folder
  pub still : IsEarly end → KeepsOthers (file_written s name kinds.Model) before.folder after.folder
  pub worded : end ≢ Misworded
  pub answered : IsAnswered s.effort end
