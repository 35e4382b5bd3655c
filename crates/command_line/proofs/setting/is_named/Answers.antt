use Rattle.std.proofs.Common.{◌&&◌, None, true, sym, ap, lit<}
use Rattle.std.proofs.lemmas.Str.Pattern.{split_once_first}
use Rattle.std.specs.List.{before_first}
use Rattle.value_text.specs.believed.Texts.{is_same_text}
use Rattle.definitions.specs.believed.Settings.{is_colon}
use Rattle.command_line.proofs.Colons.{no_colon}
use Rattle.command_line.proofs.setting.is_named.Goals as goal

pub returns-in-None : goal.returns-in-None
returns-in-None c =
    let word = c.args.word.now in
    sym (ap (λ b. b && is_same_text true (before_first is_colon word) c.args.name.now)
    (no_colon word (split_once_first 58 word None c.in-None.ensures.cases (lit< tt))))
