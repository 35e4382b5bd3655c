-- How the reading of a file of events goes on line by line, and what its answer says.
use Rattle.std.specs.Prelude.{◌≡◌, ◌≢◌, true, AllPairs, ℕ, ◌+◌, ◌<◌, ◌≤◌, ◌^◌, ◌==◌, if◌then◌else◌}
use Rattle.std.specs.Prelude.{List, [], ◌++◌, length, Option, Some, Result, Ok, Err, All}
use Rattle.std.specs.List.{enumerate_from}
use Rattle.model_lex.specs.believed.Lines.{file_lines}
use Rattle.seq_check.specs.believed.Events.{EventsView, is_name}
use Rattle.seq_check.specs.believed.EventFile.{Line, Ignored, Event, Precedence, Neither, declared, first_refusal, last_declaring, names_in, pairs_in, precedences}
use Rattle.seq_check.specs.declared.event_line.EventLine.{EventLine}
use Rattle.seq_check.specs.declared.event_line.EventLine.TheVariants as lines
use Rattle.seq_check.specs.declared.fault.EventCode.{EventCode}
use Rattle.seq_check.specs.declared.fault.EventsFault.{EventsFault}
use Rattle.seq_check.specs.declared.fault.EventsFault.TheVariants.{Bad, TooMany, NoMemory}

-- what a line is
abbrev pub line_seen : EventLine → Line
line_seen lines.Ignored = Ignored
line_seen (lines.Event name) = Event name.now
line_seen (lines.Precedence first second) = Precedence first.now second.now
line_seen lines.Neither = Neither

-- an answer that gives the events, or the refusal
abbrev pub Reads : Result EventsView EventsFault → Result EventsView EventsFault → Type 0
Reads events (Ok read) = events ≡ Ok read
Reads events (Err (Bad line code)) = events ≡ Err (Bad line code)
Reads events (Err (TooMany limit count)) = events ≡ Err (TooMany limit count)
Reads events (Err NoMemory) = Unit {0}

-- what lines declare: names and precedences, and the number of the last line that declares an event
pub record Declared : Type 0 where
  pub names : List (List ℕ)
  pub pairs : List (ℕ × ℕ)
  pub last : ℕ

abbrev pub nothing_declared : Declared
nothing_declared = record { names = []; pairs = []; last = 0 }

-- and with a line of this number besides
abbrev pub with_line : ℕ → Line → Declared → Declared
with_line number line d = record {
  names = d.names ++ names_in line;
  pairs = d.pairs ++ pairs_in d.names line;
  last = if length (names_in line) == 0 then d.last else number;
}

-- the names are names, and distinct, and the precedences are between events that are declared
pub record AreKnown (d : Declared) : Type 0 where
  pub named : All (λ name. is_name name ≡ true) d.names
  pub distinct : AllPairs (λ name other. name ≢ other) d.names
  pub exist : All (λ pair. (pair.0 < length d.names) × (pair.1 < length d.names)) d.pairs

-- the name of an event is a name
abbrev pub IsNamed : EventLine → Type 0
IsNamed lines.Ignored = Unit {0}
IsNamed (lines.Event name) = is_name name.now ≡ true
IsNamed (lines.Precedence first second) = Unit {0}
IsNamed lines.Neither = Unit {0}

-- a line of this number is refused, where it is
abbrev pub Refuses : ℕ → Option EventCode → EventsFault → Type 0
Refuses number refused (Bad line code) = (line ≡ number) × (refused ≡ Some code)
Refuses number refused (TooMany limit count) = ⊥
Refuses number refused NoMemory = Unit {0}

-- what is asked of all lines of a file, once some are read, which declare this, and a rest is left
pub record SoFar (lines : List (ℕ × List ℕ)) (d : Declared) (line : ℕ) (rest : List ℕ) : Type 0 where
  pub refused : first_refusal [] lines ≡ first_refusal d.names (enumerate_from (line + 1) (file_lines rest))
  pub names : declared lines ≡ d.names ++ declared (enumerate_from (line + 1) (file_lines rest))
  pub pairs : precedences [] lines ≡ d.pairs ++ precedences d.names (enumerate_from (line + 1) (file_lines rest))
  pub last : last_declaring 0 lines ≡ last_declaring d.last (enumerate_from (line + 1) (file_lines rest))
  pub few : line + length rest ≤ 2 ^ 28
