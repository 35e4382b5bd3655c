-- Pairs on a sink, one by one.
use Rattle.std.proofs.Common.{◌≡◌, ℕ, suc, ◌+◌, ◌<◌, List, [], ◌∷◌, ◌++◌, length, get_or, take, refl, sym, ap, ◌∙◌, arith, append_assoc}
use Rattle.std.proofs.lemmas.List.{take_more, length-take-le, take-append-drop, append-nil}
use Rattle.std.proofs.Common.{drop, subst}
use Rattle.definitions.specs.believed.Pairs.{pair_text, pairs_text}
use Rattle.outside_io.specs.declared.answers.WriteAnswer.TheVariants.{Done, Failed}
use Rattle.outside_io.specs.believed.Seen.{SinkSeen}
use Rattle.outside_io.specs.believed.Puts.{Puts}
use Rattle.outside_io.proofs.PutsLaws.{Puts-then, Puts-stopped}
use Rattle.command_line.specs.Pieces.{pair_behind}

-- one pair more
pairs_push : (pairs : List (ℕ × ℕ)) (pair : ℕ × ℕ) → pairs_text (pairs ++ pair ∷ []) ≡ pairs_text pairs ++ pair_behind (length pairs) pair
pairs_push [] pair = refl
pairs_push (a ∷ []) pair = refl
pairs_push (a ∷ b ∷ pairs) pair =
    ap (λ rest. pair_text a ++ (32 ∷ rest)) (pairs_push (b ∷ pairs) pair)
    ∙ sym (append_assoc (pair_text a) (32 ∷ pairs_text (b ∷ pairs)) (pair_behind (suc (length pairs + 1)) pair))

pub pairs_more : (pairs : List (ℕ × ℕ)) (i : ℕ) (d : ℕ × ℕ) → i < length pairs
    → pairs_text (take i pairs) ++ pair_behind i (get_or pairs i d) ≡ pairs_text (take (i + 1) pairs)
pairs_more pairs i d inside =
    ap (λ n. pairs_text (take i pairs) ++ pair_behind n (get_or pairs i d)) (sym (length-take-le i pairs (omega (arith, inside))))
    ∙ sym (pairs_push (take i pairs) (get_or pairs i d)) ∙ ap pairs_text (sym (take_more pairs i d inside))

-- the pairs behind others add to their text
pairs_behind : (pairs more : List (ℕ × ℕ)) → (rest : List ℕ) × (pairs_text (pairs ++ more) ≡ pairs_text pairs ++ rest)
pairs_behind pairs [] = ([], ap pairs_text (append-nil pairs) ∙ sym (append-nil (pairs_text pairs)))
pairs_behind pairs (pair ∷ more) =
    let later = pairs_behind (pairs ++ pair ∷ []) more in (
      pair_behind (length pairs) pair ++ later.0,
      ap pairs_text (sym (append_assoc pairs (pair ∷ []) more)) ∙ later.1 ∙ ap (λ text. text ++ later.0) (pairs_push pairs pair)
          ∙ append_assoc (pairs_text pairs) (pair_behind (length pairs) pair) later.0,
    )

-- a pair was put behind the pairs before it
pub Puts-pair : (pairs : List (ℕ × ℕ)) (i : ℕ) (d : ℕ × ℕ) (before middle after : SinkSeen) → i < length pairs
    → Puts Done before middle (pairs_text (take i pairs)) → Puts Done middle after (pair_behind i (get_or pairs i d))
    → Puts Done before after (pairs_text (take (i + 1) pairs))
Puts-pair pairs i d before middle after inside first second =
    subst (Puts Done before after) (pairs_more pairs i d inside)
    (Puts-then Done before middle after (pairs_text (take i pairs)) (pair_behind i (get_or pairs i d)) first second)

-- the pairs before one, this one, and those behind it
pairs_around : (pairs : List (ℕ × ℕ)) (i : ℕ) (d : ℕ × ℕ) → i < length pairs
    → (rest : List ℕ) × ((pairs_text (take i pairs) ++ pair_behind i (get_or pairs i d)) ++ rest ≡ pairs_text pairs)
pairs_around pairs i d inside =
    let later = pairs_behind (take (i + 1) pairs) (drop (i + 1) pairs) in
    (later.0, ap (λ text. text ++ later.0) (pairs_more pairs i d inside) ∙ sym later.1 ∙ ap pairs_text (take-append-drop (i + 1) pairs))

-- a fault at a pair, where those before it were put whole
pub Puts-failed_pair : (pairs : List (ℕ × ℕ)) (i : ℕ) (d : ℕ × ℕ) (before middle after : SinkSeen) → i < length pairs
    → Puts Done before middle (pairs_text (take i pairs)) → Puts Failed middle after (pair_behind i (get_or pairs i d))
    → Puts Failed before after (pairs_text pairs)
Puts-failed_pair pairs i d before middle after inside first second =
    let around = pairs_around pairs i d inside in
    subst (Puts Failed before after) around.1
    (Puts-stopped before after (pairs_text (take i pairs) ++ pair_behind i (get_or pairs i d)) around.0
    (Puts-then Failed before middle after (pairs_text (take i pairs)) (pair_behind i (get_or pairs i d)) first second))
