-- Names under the case rule: a name is a cell, and printed names differ where the names do.
use Rattle.std.proofs.Common.{◌≡◌, ℕ, ◌+◌, ◌-◌, ◌<◌, ◌≤◌, ◌≢◌, Bool, true, false, List, [], ◌∷◌, ◌++◌, length, get_or, take, ◌==◌, All, AllPairs}
use Rattle.std.proofs.Common.{flat_map, sym, refl, subst, subst₂, if◌then◌else◌, arith, ne_eqb, length-take, le_of_lt, ltb-true, eqb-true, nat_eq, suc}
use Rattle.std.proofs.lemmas.Bool.{and_parts, and_left, and_right, not-true, both_ways, false_from_ne_true}
use Rattle.std.proofs.lemmas.Bool.Decides.{nat_tests}
use Rattle.std.proofs.lemmas.Slice.Eq.{bytes_eq-Decides}
use Rattle.std.proofs.lemmas.List.Elements.{All-weaker, All-cons}
use Rattle.std.specs.List.{starts_with, list_any}
use Rattle.std.specs.Str.{chars}
use Rattle.model_lex.specs.believed.Lines.{byte_order_mark}
use Rattle.std.proofs.lemmas.List.Concat.{get_or-flat_map}
use Rattle.std.proofs.lemmas.List.Folds.{length-flat_map-take}
use Rattle.std.proofs.lemmas.List.Sums.{AllPass-from_list_all}
use Rattle.std.proofs.lemmas.List.{get_or-take, take-take}
use Rattle.std.specs.Char.{to_ascii_lowercase}
use Rattle.value_text.specs.believed.Texts.{is_same_text, folded, is_blank}
use Rattle.cov_model.specs.believed.Names.{is_name, is_mark, is_plain}
use Rattle.definitions.proofs.Cells.{IsCell}

-- a text is one with itself
pub same_itself : (fold : Bool) (text : List ℕ) → is_same_text fold text text ≡ true
same_itself fold text = (bytes_eq-Decides (folded fold text) (folded fold text)).1 refl

-- a byte that isn't the mark isn't it under the case rule
pub lowercase_mark : (mark byte : ℕ) → is_mark mark ≡ true → byte ≢ mark → to_ascii_lowercase byte ≢ to_ascii_lowercase mark
lowercase_mark mark byte is other e = grind (arith, nat_tests)

-- a name as it is printed, with the mark or without
abbrev pub marked : Bool → ℕ → List ℕ → List ℕ
marked negative mark name = if negative then mark ∷ name else name

-- a name without the mark
pub record IsUnmarked (mark : ℕ) (name : List ℕ) : Type 0 where
  pub some : 0 < length name
  pub first : get_or name 0 0 ≢ mark

-- a text that begins with the mark is no name
with_mark : (fold : Bool) (mark : ℕ) (a b : List ℕ) → is_mark mark ≡ true → IsUnmarked mark b → is_same_text fold (mark ∷ a) b ≡ false
with_mark fold mark a [] is other = absurd (omega (arith, other.some))
with_mark true mark a (byte ∷ b) is other = and_left _ _ (ne_eqb _ _ (λ e. lowercase_mark mark byte is other.first (sym e)))
with_mark false mark a (byte ∷ b) is other = and_left _ _ (ne_eqb mark byte (λ e. other.first (sym e)))

without_mark : (fold : Bool) (mark : ℕ) (a b : List ℕ) → is_mark mark ≡ true → IsUnmarked mark a → is_same_text fold a (mark ∷ b) ≡ false
without_mark fold mark [] b is other = absurd (omega (arith, other.some))
without_mark true mark (byte ∷ a) b is other = and_left _ _ (ne_eqb _ _ (lowercase_mark mark byte is other.first))
without_mark false mark (byte ∷ a) b is other = and_left _ _ (ne_eqb byte mark other.first)

both_marked : (fold : Bool) (mark : ℕ) (a b : List ℕ) → is_same_text fold a b ≡ false → is_same_text fold (mark ∷ a) (mark ∷ b) ≡ false
both_marked true mark a b differ = and_right _ _ differ
both_marked false mark a b differ = and_right _ _ differ

-- printed names differ where the names do
pub marked_apart : (fold p q : Bool) (mark : ℕ) (a b : List ℕ) → is_mark mark ≡ true → IsUnmarked mark a → IsUnmarked mark b
    → is_same_text fold a b ≡ false → is_same_text fold (marked p mark a) (marked q mark b) ≡ false
marked_apart fold true true mark a b is un_a un_b differ = both_marked fold mark a b differ
marked_apart fold true false mark a b is un_a un_b differ = with_mark fold mark a b is un_b
marked_apart fold false true mark a b is un_a un_b differ = without_mark fold mark a b is un_a
marked_apart fold false false mark a b is un_a un_b differ = differ

-- elements of two pieces of a joined list, of which all elements are apart
pub apart : {X A : Type 0} (R : A → A → Type 0) (f : X → List A) (xs : List X) (u v j k : ℕ) (e : X) (d : A) → AllPairs R (flat_map f xs)
    → u < v → v < length xs → j < length (f (get_or xs u e)) → k < length (f (get_or xs v e))
    → R (get_or (f (get_or xs u e)) j d) (get_or (f (get_or xs v e)) k d)
apart R f xs u v j k e d pairs before within in_u in_v =
    let first = get_or-flat_map f xs u j e d (omega arith) in_u in
    let second = get_or-flat_map f xs v k e d within in_v in
    let front = length-flat_map-take f (take v xs) u e (omega (arith, length-take v xs)) in
    let pieces = rw (take-take u v xs (le_of_lt before), get_or-take v xs u e before) at front in
    let whole = length-flat_map-take f xs v e within in
    subst₂ R first second (pairs (length (flat_map f (take u xs)) + j) (length (flat_map f (take v xs)) + k) d (omega arith) (omega arith))

-- the parts of what a name is
name_parts : (text : List ℕ) → is_name text ≡ true
    → (0 < length text) × (is_blank (get_or text 0 0) ≡ false) × (is_blank (get_or text (length text - 1) 0) ≡ false)
    × All (λ byte. is_plain byte ≡ true) text × (list_any (λ c. c == 0xfeff) (chars text) ≡ false)
name_parts text is =
    let outer = and_parts _ _ is in
    let inner = and_parts _ _ outer.0 in
    let trimmed = and_parts _ _ inner.0 in
    let start = and_parts _ _ trimmed.0 in
    (ltb-true _ _ start.0, not-true _ start.1, not-true _ trimmed.1, AllPass-from_list_all is_plain text inner.1, not-true _ outer.1)

plain_byte : (byte : ℕ) → is_plain byte ≡ true → 32 ≤ byte
plain_byte byte is = grind (arith, nat_tests)

not_blank : (byte : ℕ) → is_blank byte ≡ false → byte ≢ 32
not_blank byte is = grind (arith, nat_tests)

-- a name is a cell
pub name_cell : (name : List ℕ) → is_name name ≡ true → IsCell name
name_cell name is =
    let parts = name_parts name is in
    record {
      some = parts.0;
      plain = All-weaker (λ byte. is_plain byte ≡ true) (λ byte. 32 ≤ byte) plain_byte name parts.3;
      first = not_blank _ parts.1;
      last = not_blank _ parts.2;
    }

mark_above : (mark : ℕ) → is_mark mark ≡ true → 32 < mark
mark_above mark is = grind (arith, nat_tests)

-- so it is with the mark before it
pub marked_cell : (negative : Bool) (mark : ℕ) (name : List ℕ) → is_mark mark ≡ true → IsCell name → IsCell (marked negative mark name)
marked_cell false mark name is cell = cell
marked_cell true mark [] is cell = absurd (omega (arith, cell.some))
marked_cell true mark (byte ∷ name) is cell =
    let above = mark_above mark is in
    record {
      some = omega arith;
      plain = All-cons (λ b. 32 ≤ b) mark (byte ∷ name) (omega arith) cell.plain;
      first = λ e. omega arith;
      last =
          let long : length (mark ∷ byte ∷ name) - 1 ≡ suc (length (byte ∷ name) - 1) = omega arith in
          rw long cell.last;
    }

-- a text that begins with the bytes of a byte-order mark spells one
mark_spelled : (text : List ℕ) → list_any (λ c. c == 0xfeff) (chars (0xef ∷ 0xbb ∷ 0xbf ∷ text)) ≡ true
unfolding chars
mark_spelled [] = refl
mark_spelled (byte ∷ text) = refl

-- a name doesn't begin with a byte-order mark, whatever follows it
begins : (c : ℕ) (rest text : List ℕ) → c < 32 → list_any (λ d. d == 0xfeff) (chars text) ≡ false
    → starts_with nat_eq (text ++ c ∷ rest) byte_order_mark ≡ false
begins c rest [] low none = and_left _ _ (ne_eqb 0xef c (λ e. omega arith))
begins c rest (x ∷ []) low none = and_right _ _ (and_left _ _ (ne_eqb 0xbb c (λ e. omega arith)))
begins c rest (x ∷ y ∷ []) low none = and_right _ _ (and_right _ _ (and_left _ _ (ne_eqb 0xbf c (λ e. omega arith))))
begins c rest (x ∷ y ∷ z ∷ text) low none = false_from_ne_true _ (λ is.
    let first = and_parts _ _ is in
    let second = and_parts _ _ first.1 in
    let third = and_parts _ _ second.1 in
    let same : 0xef ∷ 0xbb ∷ 0xbf ∷ text ≡ x ∷ y ∷ z ∷ text =
    let a = eqb-true 0xef x first.0 in let b = eqb-true 0xbb y second.0 in let d = eqb-true 0xbf z third.0 in cc in
    both_ways _ none (subst (λ t. list_any (λ c. c == 0xfeff) (chars t) ≡ true) same (mark_spelled text)))

pub name_unmarked : (name : List ℕ) (c : ℕ) (rest : List ℕ) → c < 32 → is_name name ≡ true → starts_with nat_eq (name ++ c ∷ rest) byte_order_mark ≡ false
name_unmarked name c rest low is = begins c rest name low (name_parts name is).4
