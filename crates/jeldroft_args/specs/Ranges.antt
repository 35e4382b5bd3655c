-- What is known of the numbers and marks of every command that words ask for.
use Rattle.std.specs.Prelude.{◌≡◌, ◌≤◌, ⊤, ℕ, true, false}
use Rattle.jeldroft_args.specs.believed.Readings.{has_equal_marks, is_mark}
use Rattle.jeldroft_args.specs.declared.command.Command.{Command}
use Rattle.jeldroft_args.specs.declared.command.Command.TheVariants.{Generate, Check, Shrink, Show}
use Rattle.jeldroft_args.specs.declared.command.Command.TheVariants.{Lint, Measure, Suspect}
use Rattle.jeldroft_args.specs.declared.command.Command.TheVariants.{Sequence, Import}
use Rattle.jeldroft_args.specs.declared.marks.Marks.{Marks}
use Rattle.jeldroft_args.specs.declared.strength.Strength.{Strength}
use Rattle.jeldroft_args.specs.declared.strength.Strength.TheVariants.{Number, Max}

-- each of the three may be a mark, and no two are equal
pub record AreMarks (marks : Marks) : Type 0 where
  pub separator : is_mark marks.separator ≡ true
  pub alias : is_mark marks.alias ≡ true
  pub invalid : is_mark marks.invalid ≡ true
  pub differ : has_equal_marks marks ≡ false

abbrev pub IsStrength : Strength → Type 0
IsStrength (Number n) = (1 ≤ n) × (n ≤ 256)
IsStrength Max = ⊤

abbrev pub AreThreads : ℕ → Type 0
AreThreads n = (1 ≤ n) × (n ≤ 64)

abbrev pub IsInRange : Command → Type 0
IsInRange (Generate g) = AreMarks g.model.marks × IsStrength g.strength × AreThreads g.threads
IsInRange (Check c) = AreMarks c.model.marks × IsStrength c.strength × AreThreads c.threads
IsInRange (Shrink s) = AreMarks s.model.marks × IsStrength s.strength
IsInRange (Show s) = AreMarks s.model.marks × IsStrength s.strength × AreThreads s.threads
IsInRange (Lint l) = AreMarks l.model.marks
IsInRange (Measure m) = AreMarks m.model.marks × IsStrength m.strength × AreThreads m.threads
IsInRange (Suspect s) = AreMarks s.model.marks × IsStrength s.strength
IsInRange (Sequence s) = (2 ≤ s.length) × (s.length ≤ 3)
IsInRange (Import i) = ⊤
