use Rattle.std.proofs.Common.{◌∙◌, ◌++◌, ◌∷◌, [], List, ap}
use Rattle.std.specs.Option.{option_copied}
use Rattle.json.specs.Token.{Token, key}
use Rattle.row_forms.specs.believed.Json.{cell_token}
use Rattle.row_forms.proofs.MemberText.{written-member}
use Rattle.row_forms.proofs.json_member.member.Goals as goal

pub returns : goal.returns
returns c =
    c.into_inner.ensures.items
    ∙ written-member c.args.name.now (option_copied c.args.cell) c.add_value.new.writer.before c.add_value.new.writer.tokens
    (c.in_ok-add_value.ensures.room.0 ∙ c.in_ok-key.ensures.room.0 ∙ c.new-writer.ensures.before ∙ c.new.ensures.items)
    (c.in_ok-add_value.ensures.ok
    ∙ ap (λ (ts : List Token). ts ++ (cell_token (option_copied c.args.cell) ∷ []))
    (c.in_ok-key.ensures.ok ∙ ap (λ (ts : List Token). ts ++ (key c.args.name.now ∷ [])) c.new-writer.ensures.tokens))
