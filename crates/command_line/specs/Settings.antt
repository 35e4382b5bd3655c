-- What one word sets, as the program has it, and as definitions name it.
use Rattle.definitions.specs.believed.Settings as defined
use Rattle.model_lex.specs.declared.options.OrderWord.{OrderWord}
use Rattle.model_lex.specs.declared.options.OrderWord.TheVariants as orders
use Rattle.refutation.specs.believed.Proofs.{format_of}
use Rattle.command_line.specs.declared.setting.Shuffle.{Shuffle}
use Rattle.command_line.specs.declared.setting.Shuffle.TheVariants as shuffles
use Rattle.command_line.specs.declared.setting.Setting.{Setting}
use Rattle.command_line.specs.declared.setting.Setting.TheVariants as settings

abbrev pub order_seen : OrderWord → defined.OrderWord
order_seen (orders.Number n) = defined.OrderOf n
order_seen orders.Max = defined.OrderMax

abbrev pub shuffle_seen : Shuffle → defined.Shuffle
shuffle_seen shuffles.Off = defined.NoShuffle
shuffle_seen shuffles.Bare = defined.AnyShuffle
shuffle_seen (shuffles.Number n) = defined.ShuffleBy n

-- what one word sets
abbrev pub setting_seen : Setting → defined.Setting
setting_seen (settings.Order order) = defined.Order (order_seen order)
setting_seen (settings.Separator c) = defined.Separator c
setting_seen (settings.Alias c) = defined.Alias c
setting_seen (settings.Prefix c) = defined.Prefix c
setting_seen (settings.SeedFile name) = defined.SeedFile name.now
setting_seen (settings.ShuffleValues shuffle) = defined.ShuffleValues (shuffle_seen shuffle)
setting_seen settings.CaseCounts = defined.CaseCounts
setting_seen settings.Statistics = defined.Statistics
setting_seen (settings.Workers n) = defined.Workers n
setting_seen (settings.Budget effort) = defined.Budget effort
setting_seen (settings.ProofFile name) = defined.ProofFile name.now
setting_seen (settings.ProofFormat form) = defined.ProofFormat (format_of form)
setting_seen (settings.MeasureFile name) = defined.MeasureFile name.now
setting_seen (settings.Make n) = defined.Make n
setting_seen (settings.SuspectFile name) = defined.SuspectFile name.now
