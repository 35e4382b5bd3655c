-- The words behind a program's name, as texts, and what they ask for. (PICT's guide; how a fault is told is this project's rule.)
use Rattle.std.specs.Prelude.{◌≡◌, ℕ, ◌-◌, ◌^◌, min, List, map, Result, Ok, Err}
use Rattle.std.specs.String.{string_bytes}
use Rattle.std.specs.declared.string.String.{String}
use Rattle.std.specs.declared.alloc.Global.{Global}
use Rattle.model_lex.specs.declared.options.ModelOpts.{ModelOpts}
use Rattle.model_lex.specs.declared.options.OrderWord as words
use Rattle.model_lex.specs.declared.options.OrderWord.TheVariants.{Number, Max}
use Rattle.definitions.specs.believed.Settings.{OrderWord, OrderOf, OrderMax, Settings}
use Rattle.definitions.specs.believed.Words.{Command}

abbrev pub texts : List (String Global) → List (List ℕ)
texts words = map string_bytes words

-- what words ask for beside the names, or the number of the first that has no reading
abbrev pub settings_in : Result Command ℕ → Result Settings ℕ
settings_in (Ok command) = Ok command.settings
settings_in (Err index) = Err index

-- how the model file is to be read
abbrev pub order_word : OrderWord → words.OrderWord
order_word (OrderOf n) = Number n
order_word OrderMax = Max

abbrev pub opts_of : Settings → ModelOpts
opts_of s = record { order = order_word s.order; marks = record { separator = s.separator; alias = s.alias; prefix = s.prefix }; fold = s.fold_case }

-- words have no reading, and the number of the first that has none is told, or 2^32 - 1 where it is greater
abbrev pub TellsFault : {A : Type 0} → Result A ℕ → ℕ → Type 0
TellsFault reading index = (n : ℕ) × (reading ≡ Err n) × (index ≡ min n (2 ^ 32 - 1))
