-- What a call on a seat knows of its table.
use Rattle.std.proofs.Common.{◌≡◌, ℕ, Bool, ◌*◌, ◌/◌, ◌<◌, ◌≤◌, ◌∙◌, sym, ap, subst, arith}
use Rattle.atomic_table.specs.Seated.{TableId}
use Rattle.shared_marks.specs.declared.holding.Holding.{Holding}
use Rattle.shared_marks.specs.Seats.{SeatView, TableView}
use Rattle.shared_marks.specs.Steps.{IsMarkStep, IsTestStep}

-- the seat is of the table
pub own_table : (seat table : TableId) (held : Holding) (bits : ℕ) (seen : SeatView) (of : TableView) → record { table = seat; holds = held } ≡ seen
    → record { table = table; bits = bits } ≡ of → seen.table ≡ of.table → seat ≡ table
own_table seat table held bits seen of viewed whole own =
    ap (λ (s : SeatView). s.table) viewed ∙ own ∙ sym (ap (λ (t : TableView). t.table) whole)

-- the word of a place of the table is there
pub word_there : (place bits words count : ℕ) (table : TableId) (of : TableView) → record { table = table; bits = bits } ≡ of → place < of.bits
    → words ≡ count → bits < 64 * count → (place / 64 < words) × (place / 64 < count)
word_there place bits words count table of whole below as_many enough =
    let size = ap (λ (t : TableView). t.bits) whole in
    (omega arith, omega arith)

pub own_word : (word bits words count : ℕ) (table : TableId) (of : TableView) → record { table = table; bits = bits } ≡ of → 64 * word ≤ of.bits
    → words ≡ count → bits < 64 * count → (word < words) × (word < count)
own_word word bits words count table of whole below as_many enough =
    let size = ap (λ (t : TableView). t.bits) whole in
    (omega arith, omega arith)

-- a table has as many words as it was made with
pub own_count : (counted bits count : ℕ) (table : TableId) (of : TableView) → record { table = table; bits = bits } ≡ of → counted ≡ of.table.words
    → table.words ≡ count → counted ≡ count
own_count counted bits count table of whole is as_many = is ∙ sym (ap (λ (t : TableView). t.table.words) whole) ∙ as_many

-- a step of what lies in a seat is one of the seat
pub mark_step_seen : {count place : ℕ} {held after : Holding} {table : TableId} {seat : SeatView} → record { table = table; holds = held } ≡ seat
    → IsMarkStep count place held after → IsMarkStep count place seat.holds after
mark_step_seen {count} {place} {held} {after} viewed step = subst (λ (s : SeatView). IsMarkStep count place s.holds after) viewed step

pub test_step_seen : {count place : ℕ} {bit answer : Bool} {held after : Holding} {table : TableId} {seat : SeatView}
    → record { table = table; holds = held } ≡ seat → bit ≡ answer → IsTestStep count place bit held after
    → IsTestStep count place answer seat.holds after
test_step_seen {count} {place} {bit} {answer} {held} {after} viewed same step =
    subst (λ (s : SeatView). IsTestStep count place answer s.holds after) viewed (subst (λ b. IsTestStep count place b held after) same step)
