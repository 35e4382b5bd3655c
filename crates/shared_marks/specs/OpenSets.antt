-- Lines of demanded sets, which are prepared once for many rows. Sets that stand one after another mostly
-- begin with the same members and differ in the last.
use Rattle.std.specs.Prelude.{◌≡◌, ℕ, ◌+◌, ◌-◌, ◌<◌, ◌≤◌, Bool, true, false, ◌&&◌, ◌||◌, List, length, nat_le, nat_lt, sum, take, slice_index_or}
use Rattle.std.specs.List.{list_any}
use Rattle.tuple_index.specs.Plan.{PlanView, set_at}
use Rattle.shared_marks.specs.declared.holding.Holding.{Holding}
use Rattle.shared_marks.specs.declared.open_sets.Line.{Line}
use Rattle.shared_marks.specs.Seats.{is_held}

-- the members of a set but the last
abbrev pub front : List ℕ → List ℕ
front set = take (length set - 1) set

-- how many demanded tuples the sets before one have
abbrev pub tuples_before : PlanView → ℕ → ℕ
tuples_before plan set = sum (take set plan.sizes)

-- the line of a set that has members
pub record IsLine (plan : PlanView) (line : Line) : Type 0 where
  pub there : line.set < length plan.sets
  pub base : line.base ≡ tuples_before plan line.set
  pub some : 0 < length (set_at plan line.set)
  pub last : line.last ≡ slice_index_or (set_at plan line.set) (length (set_at plan line.set) - 1) 0

-- a line is fresh unless the set of the line before begins with the same members
pub record AreLines (plan : PlanView) (lines : List Line) : Type 0 where
  pub each : (i : ℕ) (other : Line) → i < length lines → IsLine plan (slice_index_or lines i other)
  pub same : (i : ℕ) (other : Line) → i < length lines → (slice_index_or lines i other).is_fresh ≡ false
      → (0 < i) × (front (set_at plan (slice_index_or lines i other).set) ≡ front (set_at plan (slice_index_or lines (i - 1) other).set))

-- the place is one of the set of a line, and of some of these lines
abbrev pub is_of : PlanView → ℕ → Line → Bool
is_of plan place line = nat_le (tuples_before plan line.set) place && nat_lt place (tuples_before plan (line.set + 1))

abbrev pub is_of_some : PlanView → List Line → ℕ → Bool
is_of_some plan lines place = list_any (is_of plan place) lines

-- of the sets before a number all places are held but those of the lines
pub record AreOpen (plan : PlanView) (lines : List Line) (upto : ℕ) (held : Holding) : Type 0 where
  pub few : upto ≤ length plan.sets
  pub are : AreLines plan lines
  pub rest : (place : ℕ) → place < tuples_before plan upto → (is_of_some plan lines place || is_held held place) ≡ true
