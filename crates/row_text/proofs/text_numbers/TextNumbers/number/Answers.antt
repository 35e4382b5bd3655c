use Rattle.std.proofs.Common.{ℕ, Vec, ◌∙◌, ap}
use Rattle.std.specs.declared.alloc.Global.{Global}
use Rattle.row_text.specs.Lookups.{number_of}
use Rattle.row_text.proofs.LookingUp.{looked_up}
use Rattle.row_text.proofs.text_numbers.TextNumbers.number.Goals as goal

pub returns : goal.returns
returns c =
    c.copied.ensures ∙ c.get.ensures.value ∙ looked_up (λ (key : Vec ℕ Global). key.items) c.args.text.now c.self.inside.numbers.entries
    ∙ ap (λ pairs. number_of pairs c.args.text.now) c.self.view_is
