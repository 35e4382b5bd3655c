use Rattle.std.proofs.Common.{◌≡◌, ◌∙◌, sym, ap, true, false, take, refl}
use Rattle.std.specs.List.{list_any}
use Rattle.std.specs.Prelude.{is_some}
use Rattle.model_parse.specs.believed.Pieces.{is_byte}
use Rattle.acts_front.proofs.Mapped.{is_some-position}
use Rattle.acts_front.proofs.token.words_token.Goals as goal

pub returns-then-is_some-clause-value : goal.returns-then-is_some-clause-value
returns-then-is_some-clause-value c =
    let marked : list_any (is_byte 92) (take c.in_ok-len.len c.args.behind.now) ≡ true =
    sym (is_some-position (is_byte 92) (take c.in_ok-len.len c.args.behind.now)) ∙ (ap is_some (sym c.mark_place-2.ensures) ∙ sym c.if-is_some.ensures) in
    rw (← c.in_ok-len.ensures, marked) refl

pub returns-clause-value : goal.returns-clause-value
returns-clause-value c =
    let unmarked : list_any (is_byte 92) (take c.in_ok-len.len c.args.behind.now) ≡ false =
    sym (is_some-position (is_byte 92) (take c.in_ok-len.len c.args.behind.now)) ∙ (ap is_some (sym c.mark_place-2.ensures) ∙ sym c.if-is_some.ensures) in
    rw (← c.in_ok-len.ensures, unmarked) refl
