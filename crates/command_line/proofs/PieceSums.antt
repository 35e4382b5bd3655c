-- Pieces of a text, joined from the right and from the left.
use Rattle.std.proofs.Common.{◌≡◌, ℕ, List, ◌++◌, sym, ◌∙◌, append_assoc}

-- pieces in a row, joined from the right and from the left
six_pieces : (a b c d e f : List ℕ) → a ++ (b ++ (c ++ (d ++ (e ++ f)))) ≡ a ++ b ++ c ++ d ++ e ++ f
six_pieces a b c d e f =
    sym (append_assoc a b (c ++ (d ++ (e ++ f)))) ∙ sym (append_assoc (a ++ b) c (d ++ (e ++ f))) ∙ sym (append_assoc (a ++ b ++ c) d (e ++ f))
    ∙ sym (append_assoc (a ++ b ++ c ++ d) e f)

pub seven_pieces : (a b c d e f g : List ℕ) → a ++ (b ++ (c ++ (d ++ (e ++ (f ++ g))))) ≡ a ++ b ++ c ++ d ++ e ++ f ++ g
seven_pieces a b c d e f g = sym (append_assoc a b (c ++ (d ++ (e ++ (f ++ g))))) ∙ six_pieces (a ++ b) c d e f g
