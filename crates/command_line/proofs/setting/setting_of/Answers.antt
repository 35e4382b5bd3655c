use Rattle.std.proofs.Common.{None, sym, ap, lit<, ◌∙◌, if◌then◌else◌}
use Rattle.std.proofs.lemmas.Str.Pattern.{split_once_first}
use Rattle.std.specs.List.{after_first}
use Rattle.definitions.specs.believed.Settings.{bare_setting, is_colon, valued_setting}
use Rattle.command_line.proofs.Colons.{no_colon}
use Rattle.command_line.proofs.setting.setting_of.Goals as goal

pub returns-in-None : goal.returns-in-None
returns-in-None c =
    let word = c.args.word.now in
    c.bare_setting.ensures
    ∙ sym (ap (λ b. if b then valued_setting word (after_first is_colon word) else bare_setting word)
    (no_colon word (split_once_first 58 word None c.in-None.ensures.cases (lit< tt))))
