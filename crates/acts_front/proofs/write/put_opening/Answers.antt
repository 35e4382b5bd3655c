use Rattle.std.proofs.Common.{◌≡◌, ◌∙◌, true, false, sym, append-nil}
use Rattle.std.specs.List.{list_any}
use Rattle.value_text.proofs.ListLemmas.{list_any-map}
use Rattle.acts_front.specs.believed.Constraints.{is_arrow}
use Rattle.acts_front.specs.Reading.{token_seen, tokens_seen}
use Rattle.acts_front.proofs.write.put_opening.Goals as goal

pub returns-in_ok-extend_from_slice : goal.returns-in_ok-extend_from_slice
returns-in_ok-extend_from_slice c =
    let arrow : list_any is_arrow (tokens_seen c.args.tokens.now) ≡ true = list_any-map is_arrow token_seen c.args.tokens.now ∙ (sym c.has_arrow.ensures ∙ c.if-has_arrow.true) in
    rw arrow c.in_ok-extend_from_slice.ensures.items

pub returns-else-has_arrow : goal.returns-else-has_arrow
returns-else-has_arrow c =
    let arrow : list_any is_arrow (tokens_seen c.args.tokens.now) ≡ false = list_any-map is_arrow token_seen c.args.tokens.now ∙ (sym c.has_arrow.ensures ∙ c.if-has_arrow.false) in
    rw arrow (sym (append-nil c.args.out.now.items))
