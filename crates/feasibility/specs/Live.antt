-- The values of the parameters that are live on a path, and what looking at constraints tells of them. (This
-- project's rule.)
use Rattle.std.specs.Prelude.{◌≡◌, ◌≢◌, ℕ, ◌<◌, ◌≤◌, Bool, true, false, ◌&&◌, not, List, [], length, Option, slice_index_or, All, ◌⊎◌, if◌then◌else◌}
use Rattle.std.specs.List.{count_by, flat_map, list_any}
use Rattle.cov_model.specs.believed.Sound.{ModelView, param_at}
use Rattle.cov_model.specs.Sound.{rule_at}
use Rattle.cov_model.specs.believed.Rows.{is_assigned, value_in, with_value}
use Rattle.cov_model.specs.believed.Kleene.{body_truth}
use Rattle.definitions.specs.believed.Demand.{is_among}
use Rattle.definitions.specs.believed.Search.{body_params, breaks_a_rule, is_no}
use Rattle.live_sets.specs.Trail.{LiveView, mark_at, IsSince}
use Rattle.compiled_rules.specs.Codes.{is_yes}
use Rattle.feasibility.specs.Tree.{no_values, undecided}

-- a value is live if it is listed and no constraint is No with it
abbrev pub is_live : ModelView → List (List ℕ) → List (Option ℕ) → ℕ → ℕ → Bool
is_live m lists cells q w = is_among (slice_index_or lists q []) w && not (breaks_a_rule m (with_value cells q w))

-- the constraint of a number is No
abbrev pub no_on : ModelView → List (Option ℕ) → ℕ → Bool
no_on m cells k = is_no (body_truth m (rule_at m k).body cells)

-- a parameter has no value, and one that alone makes the constraint hold
pub record IsFree (m : ModelView) (k : ℕ) (cells : List (Option ℕ)) (q : ℕ) : Type 0 where
  pub low : q < length m.params
  pub unset : is_assigned cells q ≡ false
  pub value : ℕ
  pub holds : is_yes (body_truth m (rule_at m k).body (with_value (no_values m) q value)) ≡ true

-- with no value of a parameter that has none is the constraint No
abbrev pub NoValueBreaks : ModelView → ℕ → List (Option ℕ) → Type 0
NoValueBreaks m k cells = (q w : ℕ) → is_assigned cells q ≡ false → no_on m (with_value cells q w) k ≡ false

-- a constraint is neither No nor, with a value that is marked, made so
pub record BreaksNoMark (m : ModelView) (k : ℕ) (cells : List (Option ℕ)) (sets : LiveView) : Type 0 where
  pub unbroken : no_on m cells k ≡ false
  pub kept : (q w : ℕ) → q < length m.params → w < length (param_at m.params q).values → is_assigned cells q ≡ false
      → mark_at sets.live q w ≡ true → no_on m (with_value cells q w) k ≡ false

-- a constraint names a parameter below a number that has a value
pub record NamesEarlier (m : ModelView) (k p : ℕ) (cells : List (Option ℕ)) : Type 0 where
  pub param : ℕ
  pub below : param < p
  pub named : is_among (body_params (rule_at m k).body) param ≡ true
  pub given : is_assigned cells param ≡ true

-- those that do so say nothing more of a value
abbrev pub AreSeen : ModelView → ℕ → List (Option ℕ) → LiveView → Type 0
AreSeen m p cells sets = (k : ℕ) → 0 < k → k ≤ length m.rules → NamesEarlier m k p cells → BreaksNoMark m k cells sets

-- none of them is No
abbrev pub IsUnbrokenBefore : ModelView → ℕ → List (Option ℕ) → Type 0
IsUnbrokenBefore m p cells = (k : ℕ) → 0 < k → k ≤ length m.rules → NamesEarlier m k p cells → no_on m cells k ≡ false

-- one of these constraints is No
abbrev pub breaks_one : ModelView → List ℕ → List (Option ℕ) → Bool
breaks_one m numbers cells = list_any (no_on m cells) numbers

-- constraints have these numbers
abbrev pub AreRules : ModelView → List ℕ → Type 0
AreRules m numbers = All (λ k. (0 < k) × (k ≤ length m.rules)) numbers

-- there is a mark for each value of each parameter
pub record HasShape (m : ModelView) (live : List (List Bool)) : Type 0 where
  pub as_many : length live ≡ length m.params
  pub each : (q : ℕ) → length (slice_index_or live q []) ≡ length (param_at m.params q).values

-- the marks of the parameters without a value are those of a test
abbrev pub Marks : ModelView → List (Option ℕ) → List (List Bool) → (ℕ → ℕ → Bool) → Type 0
Marks m cells live test =
    (q w : ℕ) → q < length m.params → w < length (param_at m.params q).values → is_assigned cells q ≡ false → mark_at live q w ≡ test q w

-- the marks of the parameters without a value are set exactly where a value is live
pub record ShowsLive (m : ModelView) (lists : List (List ℕ)) (cells : List (Option ℕ)) (sets : LiveView) : Type 0 where
  pub shape : HasShape m sets.live
  pub marks : Marks m cells sets.live (is_live m lists cells)

-- the marks are set exactly where a value is listed
pub record ShowsListed (m : ModelView) (lists : List (List ℕ)) (sets : LiveView) : Type 0 where
  pub shape : HasShape m sets.live
  pub marks : (q w : ℕ) → q < length m.params → w < length (param_at m.params q).values → mark_at sets.live q w ≡ is_among (slice_index_or lists q []) w

-- each parameter without a value has a mark
abbrev pub EachHasOne : ModelView → List (Option ℕ) → List (List Bool) → Type 0
EachHasOne m cells live = (q : ℕ) → q < length m.params → is_assigned cells q ≡ false → 0 < count_by (λ mark. mark) (slice_index_or live q [])

-- some values of a parameter were looked at, and those taken away with which the constraint is No
pub record NarrowedBy (m : ModelView) (k q : ℕ) (done : List ℕ) (cells : List (Option ℕ)) (old new : LiveView) : Type 0 where
  pub marks : (w : ℕ) → mark_at new.live q w ≡ (mark_at old.live q w && not (is_among done w && no_on m (with_value cells q w) k))
  pub others : (s : ℕ) → s ≢ q → slice_index_or new.live s [] ≡ slice_index_or old.live s []
  pub shape : HasShape m new.live
  pub since : IsSince old new

-- of all values those were taken away
pub record Narrowed (m : ModelView) (k q : ℕ) (cells : List (Option ℕ)) (old new : LiveView) : Type 0 where
  pub below : (w : ℕ) → w < length (param_at m.params q).values
      → mark_at new.live q w ≡ (mark_at old.live q w && not (no_on m (with_value cells q w) k))
  pub others : (s : ℕ) → s ≢ q → slice_index_or new.live s [] ≡ slice_index_or old.live s []
  pub shape : HasShape m new.live
  pub since : IsSince old new

-- none of these constraints is No, the values are taken away with which one is, and each parameter without a
-- value has one left
pub record LookedAt (m : ModelView) (numbers : List ℕ) (cells : List (Option ℕ)) (old new : LiveView) : Type 0 where
  pub unbroken : breaks_one m numbers cells ≡ false
  pub shape : HasShape m new.live
  pub marks : Marks m cells new.live (λ q w. mark_at old.live q w && not (breaks_one m numbers (with_value cells q w)))
  pub left : EachHasOne m cells new.live
  pub since : IsSince old new

-- some parameter without a value has no mark
pub record HasUnmarked (m : ModelView) (cells : List (Option ℕ)) (live : List (List Bool)) : Type 0 where
  pub param : ℕ
  pub exists : param < length m.params
  pub free : is_assigned cells param ≡ false
  pub unmarked : count_by (λ mark. mark) (slice_index_or live param []) ≡ 0

-- only values were taken away with which a constraint is No, and then a constraint is No, or some parameter without
-- a value has no mark: so the node fails
pub record Stops (m : ModelView) (cells : List (Option ℕ)) (old new : LiveView) : Type 0 where
  pub shape : HasShape m new.live
  pub taken : (q w : ℕ) → q < length m.params → w < length (param_at m.params q).values → is_assigned cells q ≡ false
      → mark_at old.live q w ≡ true → mark_at new.live q w ≡ false → breaks_a_rule m (with_value cells q w) ≡ true
  pub why : (breaks_a_rule m cells ≡ true) ⊎ HasUnmarked m cells new.live

-- the sets show why a node fails: with each listed value without a mark a constraint is No, and a constraint is No,
-- or some parameter without a value has no mark
pub record ShowsFailure (m : ModelView) (lists : List (List ℕ)) (cells : List (Option ℕ)) (sets : LiveView) : Type 0 where
  pub shape : HasShape m sets.live
  pub dead : (q w : ℕ) → q < length m.params → w < length (param_at m.params q).values → is_assigned cells q ≡ false
      → is_among (slice_index_or lists q []) w ≡ true → mark_at sets.live q w ≡ false → breaks_a_rule m (with_value cells q w) ≡ true
  pub why : (breaks_a_rule m cells ≡ true) ⊎ HasUnmarked m cells sets.live

-- the constraints that the values of some parameters leave undecided
abbrev pub undecided_of : ModelView → List (Option ℕ) → List ℕ → List ℕ
undecided_of m cells params = flat_map (λ p. if is_assigned cells p then undecided m p (value_in cells p) else []) params

-- the marks of one list of values, among so many
pub record ListMarks (list : List ℕ) (count : ℕ) (table : List Bool) : Type 0 where
  pub long : length table ≡ count
  pub are : (w : ℕ) → w < count → slice_index_or table w false ≡ is_among list w

-- the marks of the lists of the parameters below a number
pub record AreMarks (m : ModelView) (lists : List (List ℕ)) (n : ℕ) (live : List (List Bool)) : Type 0 where
  pub as_many : length live ≡ n
  pub each : (q : ℕ) → q < n → ListMarks (slice_index_or lists q []) (length (param_at m.params q).values) (slice_index_or live q [])
