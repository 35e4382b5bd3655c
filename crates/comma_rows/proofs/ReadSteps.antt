-- One byte of a reading, and its end.
use Rattle.std.proofs.Common.{◌≡◌, ◌⊎◌, ◌==◌, ℕ, suc, Bool, true, false, List, [], ◌∷◌, ◌∙◌, refl, sym, ap, subst, inl, inr, arith, length}
use Rattle.std.proofs.lemmas.Bool.{cases_Bool}
use Rattle.comma_rows.specs.declared.position.Position.{Position}
use Rattle.comma_rows.specs.declared.action.Place.{Place}
use Rattle.comma_rows.specs.declared.action.Place.TheVariants.{LineStart, CellStart, InText, AfterQuote}
use Rattle.comma_rows.specs.declared.action.Action.{Action}
use Rattle.comma_rows.specs.believed.Positions.{is_inside, next}
use Rattle.comma_rows.specs.believed.Actions.{action_of}
use Rattle.comma_rows.specs.believed.Reading.{at_end, Reading, begins_with_feed, follow, read, with_cell}
use Rattle.comma_rows.specs.Taking.{HasRoom}

pub read-end : (place : Place) (begun at : Position) (text rest : List ℕ) → rest ≡ [] → read place begun at text rest ≡ at_end place begun text
unfolding read
read-end place begun at text rest e = rw e refl

-- a byte whose action is known
pub read-byte : (place : Place) (begun at : Position) (text : List ℕ) (byte : ℕ) (bytes : List ℕ) (action : Action) → action_of place byte (begins_with_feed bytes) ≡ action
    → read place begun at text (byte ∷ bytes) ≡ follow action byte begun at (next byte at) text (λ place begun text. read place begun (next byte at) text bytes)
unfolding read
read-byte place begun at text byte bytes action e =
    ap (λ (d : Action). follow d byte begun at (next byte at) text (λ place begun text. read place begun (next byte at) text bytes)) e

-- the first byte of what is left, whose action is known
pub read-next : (place : Place) (begun at : Position) (text rest : List ℕ) (byte : ℕ) (bytes : List ℕ) (feed : Bool) (action : Action)
    → rest ≡ byte ∷ bytes → feed ≡ begins_with_feed bytes → action ≡ action_of place byte feed
    → read place begun at text rest ≡ follow action byte begun at (next byte at) text (λ place begun text. read place begun (next byte at) text bytes)
read-next place begun at text rest byte bytes feed action cut feeds does =
    ap (λ (b : List ℕ). read place begun at text b) cut ∙ read-byte place begun at text byte bytes action (ap (λ (f : Bool). action_of place byte f) (sym feeds) ∙ sym does)

-- there is room behind a byte
pub room-next : (at : Position) (rest : List ℕ) (byte : ℕ) (bytes : List ℕ) → rest ≡ byte ∷ bytes → HasRoom at rest → HasRoom (next byte at) bytes
room-next at rest byte bytes cut room = go (cases_Bool (byte == 10)) (cases_Bool (is_inside byte))
  where
    fewer : suc (length bytes) ≡ length rest
    fewer = ap length (sym cut)

    go : ((byte == 10) ≡ true) ⊎ ((byte == 10) ≡ false) → (is_inside byte ≡ true) ⊎ (is_inside byte ≡ false) → HasRoom (next byte at) bytes
    go (inl feed) k = rw feed (record { few = omega (arith, fewer); lines = omega (arith, fewer); columns = omega (arith, fewer) })
    go (inr other) (inl inside) = rw (other, inside) (record { few = omega (arith, fewer); lines = omega (arith, fewer); columns = omega (arith, fewer) })
    go (inr other) (inr outside) = rw (other, outside) (record { few = omega (arith, fewer); lines = omega (arith, fewer); columns = omega (arith, fewer) })

-- the end of a text ends a cell that was begun
pub ends-cell : (place : Place) (begun at : Position) (text rest : List ℕ) → rest ≡ [] → (place ≡ CellStart) ⊎ ((place ≡ InText) ⊎ (place ≡ AfterQuote))
    → read place begun at text rest ≡ with_cell (record { at = begun; text = text; ends_row = true }) (read LineStart at at [] rest)
ends-cell place begun at text rest end (inl is) =
    read-end place begun at text rest end ∙ ap (λ (p : Place). at_end p begun text) is
    ∙ ap (with_cell (record { at = begun; text = text; ends_row = true })) (sym (read-end LineStart at at [] rest end))
ends-cell place begun at text rest end (inr (inl is)) =
    read-end place begun at text rest end ∙ ap (λ (p : Place). at_end p begun text) is
    ∙ ap (with_cell (record { at = begun; text = text; ends_row = true })) (sym (read-end LineStart at at [] rest end))
ends-cell place begun at text rest end (inr (inr is)) =
    read-end place begun at text rest end ∙ ap (λ (p : Place). at_end p begun text) is
    ∙ ap (with_cell (record { at = begun; text = text; ends_row = true })) (sym (read-end LineStart at at [] rest end))

-- what follows the action of the first byte of what is left reads as the whole does
pub goes-on : (place : Place) (begun at after : Position) (text rest : List ℕ) (byte : ℕ) (bytes : List ℕ) (feed : Bool) (action : Action) (whole : Reading)
    → read place begun at text rest ≡ whole → rest ≡ byte ∷ bytes → feed ≡ begins_with_feed bytes → action ≡ action_of place byte feed → after ≡ next byte at
    → follow action byte begun at after text (λ place begun text. read place begun after text bytes) ≡ whole
goes-on place begun at after text rest byte bytes feed action whole reads cut feeds does follows =
    ap (λ (p : Position). follow action byte begun at p text (λ place begun text. read place begun p text bytes)) follows
    ∙ sym (read-next place begun at text rest byte bytes feed action cut feeds does) ∙ reads

pub room-behind : (at after : Position) (rest : List ℕ) (byte : ℕ) (bytes : List ℕ) → rest ≡ byte ∷ bytes → HasRoom at rest → after ≡ next byte at → HasRoom after bytes
room-behind at after rest byte bytes cut room follows = subst (λ (p : Position). HasRoom p bytes) (sym follows) (room-next at rest byte bytes cut room)
