-- What a suite of orders is for: each of its rows is a permitted order, and each sequence is had by a row, or it is
-- set aside with a cycle, and then no permitted order has it. (Sequence covering arrays: Kuhn and others 2012; the
-- sequences that are set aside are this project's rule.)
use Rattle.std.specs.Prelude.{◌≡◌, ℕ, ◌⊎◌, true, false, List, All, Any}
use Rattle.seq_check.specs.believed.Events.{EventsView}
use Rattle.seq_check.specs.believed.OrderReport.{never_line, report_lines, row_line}
use Rattle.seq_check.specs.believed.Orders.{arrows, has, is_cycle, is_permitted, is_sequence}
use Rattle.seq_check.specs.declared.verdict.OrderVerdict.{OrderVerdict}
use Rattle.seq_check.specs.declared.verdict.OrderVerdict.TheVariants.{Accepted, BadLine, Uncovered}

-- no permitted order has the sequence
abbrev pub HasNoOrder : EventsView → List ℕ → Type 0
HasNoOrder e sequence = (order : List ℕ) → is_permitted e order ≡ true → has order sequence ≡ false

-- a sequence with a cycle along its arrows, so that no permitted order has it
pub record IsNever (e : EventsView) (sequence cycle : List ℕ) : Type 0 where
  pub sequence_is : is_sequence e sequence ≡ true
  pub cycle_is : is_cycle (arrows e sequence) cycle ≡ true
  pub no_order : HasNoOrder e sequence

-- a line is that of a permitted order, which P holds of
abbrev pub IsRowLine : EventsView → (List ℕ → Type 0) → List ℕ → Type 0
IsRowLine e P line = (order : List ℕ) × (is_permitted e order ≡ true) × (line ≡ row_line e order) × P order

-- a line is that of this sequence, set aside with a cycle
abbrev pub IsNeverLine : EventsView → List ℕ → List ℕ → Type 0
IsNeverLine e sequence line = (cycle : List ℕ) × IsNever e sequence cycle × (line ≡ never_line e sequence cycle)

-- the same of a text: each of its lines is that of a permitted order or of a sequence that is set aside, and each
-- sequence is had by the order of a line or set aside by one
pub record IsCovering (e : EventsView) (text : List ℕ) : Type 0 where
  pub lines_are : All (λ line. IsRowLine e (λ order. Unit {0}) line ⊎ ((sequence : List ℕ) × IsNeverLine e sequence line)) (report_lines text)
  pub covered :
      (sequence : List ℕ) → is_sequence e sequence ≡ true
      → Any (IsRowLine e (λ order. has order sequence ≡ true)) (report_lines text) ⊎ Any (IsNeverLine e sequence) (report_lines text)

-- the verdict is that the report is accepted
abbrev pub IsAccepted : OrderVerdict → Type 0
IsAccepted (Accepted rows omissions) = Unit {0}
IsAccepted (BadLine line) = ⊥
IsAccepted (Uncovered sequence) = ⊥
