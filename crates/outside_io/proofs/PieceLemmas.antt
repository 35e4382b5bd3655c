-- Texts in pieces on a sink.
use Rattle.std.proofs.Common.{◌≡◌, ℕ, suc, ◌+◌, ◌<◌, List, [], ◌∷◌, ◌++◌, length, get_or, take, drop, sym, ap, subst, ◌∙◌, append_assoc, drop-cons}
use Rattle.std.proofs.lemmas.List.{append-nil, take-append-drop, take_more}
use Rattle.std.proofs.lemmas.Grind.{flat_map-append}
use Rattle.std.specs.List.{flat_map}
use Rattle.outside_io.specs.declared.answers.WriteAnswer.TheVariants.{Done, Failed}
use Rattle.outside_io.specs.believed.Seen.{SinkSeen}
use Rattle.outside_io.specs.believed.Puts.{Puts}
use Rattle.outside_io.proofs.PutsLaws.{Puts-then, Puts-stopped}

-- the pieces before one, this one, and those behind it
pub split_pieces : {X : Type 0} (f : X → List ℕ) (pieces : List X) (i : ℕ) (d : X) → i < length pieces
    → (flat_map f (take i pieces) ++ f (get_or pieces i d)) ++ flat_map f (drop (suc i) pieces) ≡ flat_map f pieces
split_pieces f pieces i d inside =
    append_assoc (flat_map f (take i pieces)) (f (get_or pieces i d)) (flat_map f (drop (suc i) pieces))
    ∙ ap (λ rest. flat_map f (take i pieces) ++ flat_map f rest) (sym (drop-cons pieces i d inside))
    ∙ sym (flat_map-append f (take i pieces) (drop i pieces)) ∙ ap (flat_map f) (take-append-drop i pieces)

-- a fault at a piece, where those before it were put whole
pub Puts-failed_at : {X : Type 0} (f : X → List ℕ) (pieces : List X) (i : ℕ) (d : X) (piece : List ℕ) (before middle after : SinkSeen)
    → i < length pieces → piece ≡ f (get_or pieces i d) → Puts Done before middle (flat_map f (take i pieces)) → Puts Failed middle after piece
    → Puts Failed before after (flat_map f pieces)
Puts-failed_at f pieces i d piece before middle after inside is first second =
    subst (Puts Failed before after) (ap (λ p. (flat_map f (take i pieces) ++ p) ++ flat_map f (drop (suc i) pieces)) is ∙ split_pieces f pieces i d inside)
    (Puts-stopped before after (flat_map f (take i pieces) ++ piece) (flat_map f (drop (suc i) pieces))
    (Puts-then Failed before middle after (flat_map f (take i pieces)) piece first second))

-- a piece was put behind the pieces before it
pub Puts-piece : {X : Type 0} (f : X → List ℕ) (pieces : List X) (i : ℕ) (d : X) (before middle after : SinkSeen) → i < length pieces
    → Puts Done before middle (flat_map f (take i pieces)) → Puts Done middle after (f (get_or pieces i d))
    → Puts Done before after (flat_map f (take (i + 1) pieces))
Puts-piece f pieces i d before middle after inside first second =
    subst (Puts Done before after)
    (ap (λ text. flat_map f (take i pieces) ++ text) (sym (append-nil (f (get_or pieces i d))))
    ∙ sym (flat_map-append f (take i pieces) (get_or pieces i d ∷ [])) ∙ ap (flat_map f) (sym (take_more pieces i d inside)))
    (Puts-then Done before middle after (flat_map f (take i pieces)) (f (get_or pieces i d)) first second)
