use Rattle.std.proofs.Common.{[], ◌++◌, ◌∙◌, ap, codes, get_or}
use Rattle.acts_front.specs.Reading.{token_seen}
use Rattle.acts_front.specs.believed.Translation.{token_text}
use Rattle.acts_front.specs.declared.token.Token.{Token}
use Rattle.acts_front.specs.declared.token.Token.TheVariants.{Name}
use Rattle.acts_front.proofs.Joined.{one_more}
use Rattle.acts_front.proofs.write.put_behind_blanks.Goals as goal

pub loop-token-preserved : goal.loop-token-preserved
loop-token-preserved c =
    let none : Token = Name (record { ref_ptr = (0, 0); now = [] }) in
    let blank = c.in_ok-extend_from_slice.ensures.items ∙ ap (λ items. items ++ codes " ") c.loop-token.invariant in
    c.in_ok-put_token.ensures
    ∙ (ap (λ items. items ++ token_text (token_seen (get_or c.args.tokens.now c.loop-token.token-index none))) blank
    ∙ one_more (λ token. token_text (token_seen token)) (codes " ") c.args.out.now.items c.args.tokens.now c.loop-token.token-index none c.loop-token-test.true)
