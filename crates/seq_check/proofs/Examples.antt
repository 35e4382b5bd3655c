-- What the definitions say of small files of events and of reports, worked out from the definitions alone.
use Rattle.std.proofs.Common.{◌≡◌, true, false, [], ◌∷◌, codes, Ok, Err, refl}
use Rattle.seq_check.specs.believed.Events.{EventsView}
use Rattle.seq_check.specs.believed.EventFile.{events_of}
use Rattle.seq_check.specs.believed.OrderReport.{never_line, row_line}
use Rattle.seq_check.specs.believed.Orders.{arrows, has, is_cycle, is_permitted, sequences, steps}
use Rattle.seq_check.specs.believed.Verdicts.{verdict, verdict_text}
use Rattle.seq_check.specs.declared.fault.EventCode.TheVariants.{Q1, Q2, Q3, Q4, Q5}
use Rattle.seq_check.specs.declared.fault.EventsFault.TheVariants.{Bad}
use Rattle.seq_check.specs.declared.verdict.OrderVerdict.TheVariants.{Accepted, BadLine, Uncovered}

-- ---- files of events

abbrev three : EventsView
three = record { names = codes "a" ∷ codes "b" ∷ codes "c" ∷ []; precedences = (0, 1) ∷ []; len = 2 }

three_read : events_of 2 (codes "a\nb\nc\na < b\n") ≡ Ok three
three_read = refl

-- blank lines and comments are left out, and a line may end with a carriage return
three_again : events_of 2 (codes "# events\na\r\n \nb\r\nc\na < b") ≡ Ok three
three_again = refl

abbrev two : EventsView
two = record { names = codes "a" ∷ codes "b" ∷ []; precedences = (0, 0) ∷ []; len = 2 }

two_read : events_of 2 (codes "a\nb\na < a\n") ≡ Ok two
two_read = refl

two_words : events_of 2 (codes "a\nb c\n") ≡ Err (Bad 2 Q1)
two_words = refl

two_spaces : events_of 2 (codes "a\nb\na  < b\n") ≡ Err (Bad 3 Q1)
two_spaces = refl

repeated : events_of 2 (codes "a\nb\n\na\n") ≡ Err (Bad 4 Q2)
repeated = refl

unknown : events_of 2 (codes "a\na < b\nb\n") ≡ Err (Bad 2 Q3)
unknown = refl

nothing : events_of 2 (codes "\n# a\n") ≡ Err (Bad 1 Q4)
nothing = refl

too_few : events_of 3 (codes "\na\nb\n\n") ≡ Err (Bad 3 Q5)
too_few = refl

-- ---- orders and sequences

three_sequences : sequences three ≡ (0 ∷ 1 ∷ []) ∷ (0 ∷ 2 ∷ []) ∷ (1 ∷ 0 ∷ []) ∷ (1 ∷ 2 ∷ []) ∷ (2 ∷ 0 ∷ []) ∷ (2 ∷ 1 ∷ []) ∷ []
three_sequences = refl

permitted : is_permitted three (2 ∷ 0 ∷ 1 ∷ []) ≡ true
permitted = refl

against_precedence : is_permitted three (1 ∷ 0 ∷ 2 ∷ []) ≡ false
against_precedence = refl

twice : is_permitted three (0 ∷ 1 ∷ 1 ∷ []) ≡ false
twice = refl

triple_steps : steps (2 ∷ 0 ∷ 1 ∷ []) ≡ (2, 0) ∷ (2, 1) ∷ (0, 1) ∷ []
triple_steps = refl

had : has (2 ∷ 0 ∷ 1 ∷ []) (2 ∷ 1 ∷ []) ≡ true
had = refl

not_had : has (2 ∷ 0 ∷ 1 ∷ []) (0 ∷ 2 ∷ []) ≡ false
not_had = refl

round_trip : is_cycle (arrows three (1 ∷ 0 ∷ [])) (0 ∷ 1 ∷ 0 ∷ []) ≡ true
round_trip = refl

one_event : is_cycle (arrows three (1 ∷ 0 ∷ [])) (0 ∷ []) ≡ false
one_event = refl

-- ---- reports

a_row_line : row_line three (2 ∷ 0 ∷ 1 ∷ []) ≡ codes "c\ta\tb"
a_row_line = refl

a_never_line : never_line three (1 ∷ 0 ∷ []) (0 ∷ 1 ∷ 0 ∷ []) ≡ codes "never b a : a b a"
a_never_line = refl

accepted : verdict three (codes "a\tb\tc\nc\ta\tb\nnever b a : a b a\n") ≡ Accepted 2 1
accepted = refl

without_a_row : verdict three (codes "a\tb\tc\nnever b a : a b a\n") ≡ Uncovered (2 ∷ 0 ∷ [])
without_a_row = refl

without_a_cycle : verdict three (codes "a\tb\tc\nnever b a : a b\n") ≡ BadLine 2
without_a_cycle = refl

empty_line : verdict three (codes "a\tb\tc\n\n") ≡ BadLine 2
empty_line = refl

loops : verdict two (codes "never a b : a a\nnever b a : a a") ≡ Accepted 0 2
loops = refl

told : verdict_text three (Uncovered (2 ∷ 0 ∷ [])) ≡ codes "refused: uncovered c a\n"
told = refl
