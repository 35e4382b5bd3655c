-- What words ask for, as the program has it.
use Rattle.std.specs.Prelude.{ℕ, option_map}
use Rattle.seq_cli.specs.believed.Words as words
use Rattle.seq_cli.specs.declared.command.Command.{Command}
use Rattle.seq_cli.specs.declared.setting.Length.{Length}
use Rattle.seq_cli.specs.declared.setting.Length.TheVariants.{Two, Three}
use Rattle.seq_cli.specs.declared.setting.Setting.{Setting}
use Rattle.seq_cli.specs.declared.setting.Setting.TheVariants.{Events, Report}

abbrev pub events_in : Length → ℕ
events_in Two = 2
events_in Three = 3

abbrev pub setting_seen : Setting → words.Setting
setting_seen (Events length) = words.Length (events_in length)
setting_seen (Report name) = words.Report name.now

abbrev pub asked_seen : Command → words.Asked
asked_seen command = record { file = command.file.now; len = events_in command.length; report = option_map (λ name. name.now) command.report }
