-- What a sink has done after it was asked for one text, or for several in a row that join to it.
-- The bytes written and the room left are None where the sink doesn't tell them.
-- (This project's rule.)
use Rattle.std.specs.Prelude.{◌≡◌, ℕ, ◌+◌, ◌-◌, ◌<◌, ◌≤◌, Option, Some, List, ◌++◌, length, take, IfSome}
use Rattle.outside_io.specs.declared.answers.WriteAnswer.{WriteAnswer}
use Rattle.outside_io.specs.declared.answers.WriteAnswer.TheVariants.{Done, Failed}
use Rattle.outside_io.specs.believed.Faults.{Rose, GoesOn}
use Rattle.outside_io.specs.believed.Seen.{SinkSeen}

-- the bytes written: all of the text was appended, or after a fault a prefix of it
abbrev pub PutsBytes : WriteAnswer → Option (List ℕ) → Option (List ℕ) → List ℕ → Type 0
PutsBytes Done before after text = IfSome before (λ written. after ≡ Some (written ++ text))
PutsBytes Failed before after text =
    IfSome before (λ written. (count : ℕ) × (after ≡ Some (written ++ take count text)))

-- the room left: it falls by the bytes of the text, or after a fault, which comes only where they
-- are more than the room, by those of them that were appended
abbrev pub Leaves : WriteAnswer → Option ℕ → Option ℕ → List ℕ → Type 0
Leaves Done before after text =
    IfSome before (λ room. (length text ≤ room) × (after ≡ Some (room - length text)))
Leaves Failed before after text =
    IfSome before (λ room. (room < length text)
    × ((count : ℕ) × (count ≤ room) × (after ≡ Some (room - count))))

-- what the room lost is what the bytes gained, where all four are told
abbrev pub Balances : Option (List ℕ) → Option (List ℕ) → Option ℕ → Option ℕ → Type 0
Balances written written_after room room_after =
    IfSome written (λ bytes. IfSome written_after (λ bytes_after.
    IfSome room (λ left. IfSome room_after (λ left_after.
    left_after + length bytes_after ≡ left + length bytes))))

-- the count of faults: it stays, or after a fault it rose
abbrev pub CountsFaults : WriteAnswer → ℕ → ℕ → Type 0
CountsFaults Done before after = after ≡ before
CountsFaults Failed before after = Rose before after × GoesOn before after

-- the sink was asked for the text, in one piece or in several, up to the first fault
pub record Puts (answer : WriteAnswer) (before after : SinkSeen) (text : List ℕ) : Type 0 where
  pub puts : PutsBytes answer before.written after.written text
  pub leaves : Leaves answer before.room after.room text
  pub balances : Balances before.written after.written before.room after.room
  pub counts : CountsFaults answer before.faults after.faults
