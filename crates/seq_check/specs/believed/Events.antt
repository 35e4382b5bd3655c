-- Events and the precedences among them. Events are numbered from 0 in the order of their declaration.
-- (This project's rules.)
use Rattle.std.specs.Prelude.{◌≡◌, ◌≢◌, ℕ, ◌<◌, ◌≤◌, ◌⊎◌, Bool, true, ◌&&◌, ◌||◌, List, length, ◌==◌, nat_lt, All, AllPairs}
use Rattle.std.specs.Char.{is_ascii_alphanumeric}
use Rattle.std.specs.List.{list_all}

-- a name: ASCII letters, digits and `_`, one at least
abbrev pub is_name : List ℕ → Bool
is_name text = nat_lt 0 (length text) && list_all (λ byte. is_ascii_alphanumeric byte || (byte == 95)) text

-- the names of the events, the precedences, each as the pair of the numbers of its events, of which the
-- first has to come before the second, and the length of the sequences of events that are to be covered
pub record EventsView : Type 0 where
  pub names : List (List ℕ)
  pub precedences : List (ℕ × ℕ)
  pub len : ℕ

-- what each list of events keeps
pub record AreEvents (e : EventsView) : Type 0 where
  pub few : length e.names ≤ 64
  pub few_precedences : length e.precedences ≤ 4096
  pub exist : All (λ pair. (pair.0 < length e.names) × (pair.1 < length e.names)) e.precedences
  pub len : (e.len ≡ 2) ⊎ (e.len ≡ 3)
  pub enough : e.len ≤ length e.names
  pub named : All (λ name. is_name name ≡ true) e.names
  pub distinct : AllPairs (λ name other. name ≢ other) e.names
