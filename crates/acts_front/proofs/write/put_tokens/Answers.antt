use Rattle.std.proofs.Common.{◌≡◌, ◌++◌, ◌∙◌, [], ap, sym, subst, codes}
use Rattle.std.specs.Prelude.{OnOk}
use Rattle.std.proofs.lemmas.Simd.{map-map}
use Rattle.model_parse.specs.believed.Written.{joined}
use Rattle.acts_front.specs.Reading.{token_seen}
use Rattle.acts_front.specs.believed.Translation.{token_text}
use Rattle.acts_front.specs.declared.token.Token.TheVariants.{Name}
use Rattle.acts_front.proofs.Joined.{all_put}
use Rattle.acts_front.proofs.write.put_tokens.Goals as goal

pub returns : goal.returns
returns c =
    subst (λ items. OnOk c.put_behind_blanks.result (c.put_behind_blanks.new.out.items ≡ items))
    (all_put (λ token. token_text (token_seen token)) (codes " ") c.args.out.now.items c.args.tokens.now
    (Name (record { ref_ptr = (0, 0); now = [] })) c.put_token.new.out.items c.in-len1-up.len_at_least c.in_ok-put_token.ensures
    ∙ ap (λ texts. c.args.out.now.items ++ joined (codes " ") texts) (sym (map-map token_text token_seen c.args.tokens.now)))
    c.put_behind_blanks.ensures
