use Rattle.made_models.specs.believed.MadeModel.{value_behind}
use Rattle.std.specs.String.{string_bytes}
use Rattle.made_models.proofs.texts.push_values.Goals as goal
use Rattle.value_text.proofs.ListLemmas.{text_more}

pub loop-value-preserved : goal.loop-value-preserved
loop-value-preserved c =
    text_more value_behind c.loop-value.value (string_bytes c.args.text.now) (string_bytes c.loop-value.text) (string_bytes c.push_value.new.text)
    c.loop-value.invariant c.in_ok-push_value.ensures
