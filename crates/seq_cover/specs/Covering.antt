-- What a suite of orders is for: each of its rows is a permitted order, and each sequence is had by a row, or it is
-- set aside with a cycle, and then no permitted order has it. (Sequence covering arrays: Kuhn and others 2012; the
-- sequences that are set aside are this project's rule.)
use Rattle.std.specs.Prelude.{◌≡◌, ℕ, ◌⊎◌, true, List, All, Any}
use Rattle.seq_check.specs.believed.Events.{EventsView}
use Rattle.seq_check.specs.believed.Orders.{is_had, is_permitted, is_sequence}
use Rattle.seq_cover.specs.declared.suite.OrderSuite.{OrderSuite}
use Rattle.seq_cover.specs.believed.Covering.{IsNever}

-- the rows are permitted orders, and each sequence is had by one of them or set aside
pub record Covers (e : EventsView) (suite : OrderSuite) : Type 0 where
  pub rows_are : All (λ row. is_permitted e row ≡ true) suite.rows
  pub nevers_are : All (λ never. IsNever e never.sequence never.cycle) suite.never
  pub covered :
      (sequence : List ℕ) → is_sequence e sequence ≡ true
      → (is_had suite.rows sequence ≡ true) ⊎ Any (λ never. never.sequence ≡ sequence) suite.never
