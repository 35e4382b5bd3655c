-- What is read of words, one after another.
use Rattle.std.proofs.Common.{◌≡◌, ℕ, suc, ◌+◌, ◌<◌, ◌≤◌, Bool, true, false, ◌&&◌, List, [], ◌∷◌, ◌++◌, length, get_or, take, drop, Option, Some, None, ◌∙◌, sym, ap, refl, arith, append_assoc}
use Rattle.std.specs.Prelude.{nat_lt, option_map}
use Rattle.std.specs.Option.{option_zip}
use Rattle.std.specs.List.{position_or_len, before_first, after_first}
use Rattle.std.proofs.lemmas.List.{append-nil, drop_more}
use Rattle.definitions.specs.believed.ProofText.{is_rising, read_each}
use Rattle.refutation.specs.Reading.{with_front}

-- ---- up to the first that passes

pub before_first-yes : {X : Type 0} (test : X → Bool) (x : X) (xs : List X) → test x ≡ true → before_first test (x ∷ xs) ≡ []
before_first-yes test x xs passes = rw passes refl

pub after_first-yes : {X : Type 0} (test : X → Bool) (x : X) (xs : List X) → test x ≡ true → after_first test (x ∷ xs) ≡ xs
after_first-yes test x xs passes = rw passes refl

pub before_first-no : {X : Type 0} (test : X → Bool) (x : X) (xs : List X) → test x ≡ false → before_first test (x ∷ xs) ≡ x ∷ before_first test xs
before_first-no test x xs fails =
    let place : position_or_len test (x ∷ xs) ≡ suc (position_or_len test xs) = rw fails (omega arith) in
    ap (λ (i : ℕ). take i (x ∷ xs)) place

pub after_first-no : {X : Type 0} (test : X → Bool) (x : X) (xs : List X) → test x ≡ false → after_first test (x ∷ xs) ≡ after_first test xs
after_first-no test x xs fails =
    let place : position_or_len test (x ∷ xs) + 1 ≡ suc (position_or_len test xs + 1) = rw fails (omega arith) in
    ap (λ (i : ℕ). drop i (x ∷ xs)) place

-- ---- one item after another

-- what is read of all items is what is read of those that are left behind what was read
abbrev pub ReadSoFar : {X Y : Type 0} → (X → Option Y) → List X → List X → List Y → Type 0
ReadSoFar read all left front = read_each read all ≡ with_front front (read_each read left)

pub read_start : {X Y : Type 0} (read : X → Option Y) (all : List X) → ReadSoFar read all all []
read_start read all = at (read_each read all)
  where
    at : {Y : Type 0} (o : Option (List Y)) → o ≡ with_front [] o
    at None = refl
    at (Some ys) = refl

pub read_more : {X Y : Type 0} (read : X → Option Y) (all left : List X) (x : X) (y : Y) (front : List Y) → ReadSoFar read all (x ∷ left) front → read x ≡ Some y
    → ReadSoFar read all left (front ++ y ∷ [])
read_more {X} {Y} read all left x y front so_far is =
    so_far ∙ ap (λ o. with_front front (option_map (λ both. both.0 ∷ both.1) (option_zip o (read_each read left)))) is ∙ at (read_each read left)
  where
    at : (o : Option (List Y)) → with_front front (option_map (λ both. both.0 ∷ both.1) (option_zip (Some y) o)) ≡ with_front (front ++ y ∷ []) o
    at None = refl
    at (Some ys) = ap Some (sym (append_assoc front (y ∷ []) ys))

pub read_stops : {X Y : Type 0} (read : X → Option Y) (all left : List X) (x : X) (front : List Y) → ReadSoFar read all (x ∷ left) front → read x ≡ None
    → read_each read all ≡ None
read_stops read all left x front so_far is =
    so_far ∙ ap (λ o. with_front front (option_map (λ both. both.0 ∷ both.1) (option_zip o (read_each read left)))) is

pub read_ends : {X Y : Type 0} (read : X → Option Y) (all : List X) (front : List Y) → ReadSoFar read all [] front → read_each read all ≡ Some front
read_ends read all front so_far = so_far ∙ ap Some (append-nil front)

-- ---- rising pairs

pub rising_more : (pairs : List (ℕ × ℕ)) (i : ℕ) (d : ℕ × ℕ) → i + 1 < length pairs
    → is_rising (drop i pairs) ≡ (nat_lt (get_or pairs i d).0 (get_or pairs (i + 1) d).0 && is_rising (drop (i + 1) pairs))
rising_more pairs i d within =
    let next = drop_more pairs (i + 1) d within in
    ap is_rising (drop_more pairs i d (omega arith) ∙ ap (λ rest. get_or pairs i d ∷ rest) next)
    ∙ ap (λ rest. nat_lt (get_or pairs i d).0 (get_or pairs (i + 1) d).0 && is_rising rest) (sym next)

pub rising_last : (pairs : List (ℕ × ℕ)) → length pairs ≤ 1 → is_rising pairs ≡ true
rising_last [] few = refl
rising_last (a ∷ []) few = refl
rising_last (a ∷ b ∷ pairs) few = absurd (omega arith)
