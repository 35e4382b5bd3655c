use Rattle.std.proofs.Common.{◌∙◌, ap}
use Rattle.std.specs.Prelude.{is_some}
use Rattle.std.specs.Str.{bytes_eq}
use Rattle.value_text.specs.believed.Texts.{folded}
use Rattle.acts_front.proofs.Mapped.{is_some-position}
use Rattle.acts_front.proofs.name_set.NameSet.holds.Goals as goal

pub returns : goal.returns
returns c =
    c.is_some.ensures ∙ (ap is_some c.in_ok-place.ensures.value ∙ is_some-position (bytes_eq (folded c.args.fold c.args.name.now)) c.args.self.now)
