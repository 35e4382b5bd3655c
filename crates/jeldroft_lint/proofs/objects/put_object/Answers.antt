use Rattle.std.proofs.Common.{[], ◌∷◌}
use Rattle.json.specs.Token.{begin_object, end_object}
use Rattle.jeldroft_lint.specs.Texts.{Adds}
use Rattle.jeldroft_lint.proofs.Tokens.{adds_both, adds_last, adds_token}
use Rattle.jeldroft_lint.proofs.objects.put_object.Goals as goal

pub returns : goal.returns
returns c =
    let opened : Adds _ _ (begin_object ∷ []) = record { before = c.in_ok-begin_object.ensures.room.0; tokens = c.in_ok-begin_object.ensures.ok } in
    let named : Adds _ _ _ = adds_both _ _ _ _ _ opened c.in_ok-put_name.ensures in
    let placed : Adds _ _ _ = adds_both _ _ _ _ _ named c.in_ok-put_place.ensures in
    let subject : Adds _ _ _ = adds_both _ _ _ _ _ placed c.in_ok-put_subject.ensures in
    adds_last _ _ _ _ _ _ subject (adds_last _ _ _ _ _ _ c.in_ok-put_words.ensures (adds_token _ _ _ _ c.end_object.ensures))
