-- What is quoted reads back, and a name between brackets reads back with no blank lost at its ends.
use Rattle.std.proofs.Common.{◌≡◌, ℕ, zero, suc, ◌+◌, ◌-◌, ◌<◌, ◌≤◌, Bool, true, false, ◌&&◌, List, [], ◌∷◌, ◌++◌}
use Rattle.std.proofs.Common.{length, take, take_all, drop, reverse, get_or, refl, ap, sym, arith, inl, inr, ◌∙◌}
use Rattle.std.specs.List.{prefix_len, suffix_len}
use Rattle.std.specs.Option.{option_map}
use Rattle.std.specs.Prelude.{Some, ◌==◌}
use Rattle.std.proofs.lemmas.Bool.{and_parts, eqb-true}
use Rattle.std.proofs.lemmas.Bool.Decides.{nat_tests, leb_tells}
use Rattle.std.proofs.lemmas.List.{get_or-reverse, get_or-take, length-reverse, length-take-le}
use Rattle.std.proofs.lemmas.List.Sums.{prefix_len_stops, suffix_len-le-length}
use Rattle.model_lex.specs.believed.Blanks.{trimmed, without_first_blanks, without_last_blanks}
use Rattle.value_text.specs.believed.Texts.{is_blank}
use Rattle.model_lex.specs.believed.Tokens.{is_quotable, name_between, quoted_len, unquoted}
use Rattle.model_lex.proofs.Opening.{solid}
use Rattle.constraint_ast.specs.believed.RuleText.{quoted}

-- ---- what is quoted

-- at a byte that isn't a backslash
unquoted_plain : (b : ℕ) (text : List ℕ) → (b == 92) ≡ false → unquoted (b ∷ text) ≡ b ∷ unquoted text
unquoted_plain b [] other = refl
unquoted_plain b (next ∷ text) other = rw other refl

quoted_len_plain : (close b : ℕ) (text : List ℕ) → (b == close) ≡ false → (b == 92) ≡ false → quoted_len close (b ∷ text) ≡ option_map (λ n. 1 + n) (quoted_len close text)
quoted_len_plain close b [] open_yet other = rw open_yet refl
quoted_len_plain close b (next ∷ text) open_yet other = rw (open_yet, other) refl

no_backslash : (b : ℕ) → is_quotable b ≡ false → (b == 92) ≡ false
no_backslash b plain = grind (arith, nat_tests)

no_mark : (b close : ℕ) → is_quotable b ≡ false → is_quotable close ≡ true → (b == close) ≡ false
no_mark b close plain quotable = by (b == close) refl
  where
    by : (same : Bool) → (b == close) ≡ same → (b == close) ≡ false
    by false e = e
    by true e = let is = eqb-true b close e in absurd (let found : is_quotable close ≡ false = rw (← is) plain in cc)

pub unquoted_quoted : (text : List ℕ) → unquoted (quoted text) ≡ text
unquoted_quoted [] = refl
unquoted_quoted (b ∷ text) = by (is_quotable b) refl (unquoted_quoted text)
  where
    by : (quotable : Bool) → is_quotable b ≡ quotable → unquoted (quoted text) ≡ text → unquoted (quoted (b ∷ text)) ≡ b ∷ text
    by true e rest =
        let here : quoted (b ∷ text) ≡ 92 ∷ b ∷ quoted text = rw e refl in
        let read : unquoted (92 ∷ b ∷ quoted text) ≡ b ∷ unquoted (quoted text) = rw e refl in
        ap unquoted here ∙ (read ∙ ap (λ behind. b ∷ behind) rest)
    by false e rest =
        let here : quoted (b ∷ text) ≡ b ∷ quoted text = rw e refl in
        ap unquoted here ∙ (unquoted_plain b (quoted text) (no_backslash b e) ∙ ap (λ behind. b ∷ behind) rest)

-- the closing mark is found behind it
pub quoted_closes : (close : ℕ) → is_quotable close ≡ true → (close == 92) ≡ false
    → (text tail : List ℕ) → quoted_len close (quoted text ++ close ∷ tail) ≡ Some (length (quoted text))
quoted_closes close quotable mark [] [] = let same : (close == close) ≡ true = grind (arith, nat_tests) in rw same refl
quoted_closes close quotable mark [] (next ∷ tail) = let same : (close == close) ≡ true = grind (arith, nat_tests) in rw same refl
quoted_closes close quotable mark (b ∷ text) tail = by (is_quotable b) refl (quoted_closes close quotable mark text tail)
  where
    backslash : (92 == close) ≡ false
    backslash = grind (arith, nat_tests)

    by :
        (is : Bool) → is_quotable b ≡ is → quoted_len close (quoted text ++ close ∷ tail) ≡ Some (length (quoted text))
        → quoted_len close (quoted (b ∷ text) ++ close ∷ tail) ≡ Some (length (quoted (b ∷ text)))
    by true e rest =
        let here : quoted (b ∷ text) ≡ 92 ∷ b ∷ quoted text = rw e refl in
        let behind : List ℕ = quoted text ++ close ∷ tail in
        let step : quoted_len close (92 ∷ b ∷ behind) ≡ option_map (λ n. 2 + n) (quoted_len close behind) = rw (backslash, e) refl in
        let size : 2 + length (quoted text) ≡ length (92 ∷ b ∷ quoted text) = omega arith in
        ap (λ front. quoted_len close (front ++ close ∷ tail)) here
        ∙ (step ∙ (ap (λ found. option_map (λ n. 2 + n) found) rest ∙ (ap Some size ∙ ap (λ front. Some (length front)) (sym here))))
    by false e rest =
        let here : quoted (b ∷ text) ≡ b ∷ quoted text = rw e refl in
        let behind : List ℕ = quoted text ++ close ∷ tail in
        let size : 1 + length (quoted text) ≡ length (b ∷ quoted text) = omega arith in
        ap (λ front. quoted_len close (front ++ close ∷ tail)) here
        ∙ (quoted_len_plain close b behind (no_mark b close e quotable) (no_backslash b e)
        ∙ (ap (λ found. option_map (λ n. 1 + n) found) rest ∙ (ap Some size ∙ ap (λ front. Some (length front)) (sym here))))

-- ---- the ends of a name

last_byte : List ℕ → ℕ
last_byte [] = 0
last_byte (b ∷ []) = b
last_byte (b ∷ next ∷ text) = last_byte (next ∷ text)

-- no blank stands first or last
record IsSolid (text : List ℕ) : Type 0 where
  first : is_blank (get_or text 0 0) ≡ false
  last : is_blank (last_byte text) ≡ false

last_is : (text : List ℕ) → last_byte text ≡ get_or text (length text - 1) 0
unfolding last_byte
last_is [] = refl
last_is (b ∷ []) = refl
last_is (b ∷ next ∷ text) =
    let place : length (b ∷ next ∷ text) - 1 ≡ suc (length (next ∷ text) - 1) = omega arith in
    last_is (next ∷ text) ∙ ap (λ n. get_or (b ∷ next ∷ text) n 0) (sym place)

-- a trimmed text is solid
first_of_part : (n : ℕ) (text : List ℕ) → is_blank (get_or text 0 0) ≡ false → is_blank (get_or (take n text) 0 0) ≡ false
first_of_part zero text dense = refl
first_of_part (suc n) [] dense = refl
first_of_part (suc n) (b ∷ text) dense = dense

first_left : (text : List ℕ) → is_blank (get_or (without_first_blanks text) 0 0) ≡ false
first_left text =
    elim (leb_tells 1 (length (without_first_blanks text))) [
      | inl some ↦ solid text (omega arith)
      | inr none ↦ at (without_first_blanks text) (omega arith)
    ]
  where
    at : (left : List ℕ) → length left < 1 → is_blank (get_or left 0 0) ≡ false
    at [] none = refl
    at (b ∷ left) none = absurd (omega arith)

last_left : (text : List ℕ) → is_blank (last_byte (without_last_blanks text)) ≡ false
unfolding last_byte
last_left text =
    let blanks : ℕ = suffix_len is_blank text in
    let within : blanks ≤ length text = suffix_len-le-length is_blank text in
    elim (leb_tells (suc blanks) (length text)) [
      | inl some ↦
          let size : length (without_last_blanks text) ≡ length text - blanks = length-take-le (length text - blanks) text (omega arith) in
          let place : length (without_last_blanks text) - 1 ≡ length text - 1 - blanks = omega arith in
          let inside : length text - 1 - blanks < length text - blanks = omega arith in
          let here : last_byte (without_last_blanks text) ≡ get_or text (length text - 1 - blanks) 0 =
          last_is (without_last_blanks text) ∙ (ap (λ n. get_or (without_last_blanks text) n 0) place ∙ get_or-take (length text - blanks) text (length text - 1 - blanks) 0 inside) in
          let back : get_or (reverse text) blanks 0 ≡ get_or text (length text - 1 - blanks) 0 = get_or-reverse text blanks 0 (omega arith) in
          ap is_blank (here ∙ sym back) ∙ prefix_len_stops is_blank (reverse text) 0 (omega (arith, length-reverse text))
      | inr none ↦ let all : length text - blanks ≡ 0 = omega arith in ap (λ n. is_blank (last_byte (take n text))) all
    ]

trimmed_is_solid : (text : List ℕ) → IsSolid (trimmed text)
trimmed_is_solid text = record {
  first = first_of_part (length (without_first_blanks text) - suffix_len is_blank (without_first_blanks text)) (without_first_blanks text) (first_left text);
  last = last_left (without_first_blanks text);
}

-- it stays so without the backslashes that quote, and with them
last_more : (b : ℕ) (text : List ℕ) → 0 < length text → last_byte (b ∷ text) ≡ last_byte text
unfolding last_byte
last_more b [] some = absurd (omega arith)
last_more b (next ∷ text) some = refl

dense_quotable : (b : ℕ) → is_quotable b ≡ true → is_blank b ≡ false
dense_quotable b quotable = grind (arith, nat_tests)

unquoted_some : (b : ℕ) (text : List ℕ) → 0 < length (unquoted (b ∷ text))
unquoted_some b [] = omega arith
unquoted_some b (next ∷ text) = by ((b == 92) && is_quotable next) refl
  where
    by : (quotes : Bool) → ((b == 92) && is_quotable next) ≡ quotes → 0 < length (unquoted (b ∷ next ∷ text))
    by true e = rw e (omega arith)
    by false e = rw e (omega arith)

first_unquoted : (text : List ℕ) → is_blank (get_or text 0 0) ≡ false → is_blank (get_or (unquoted text) 0 0) ≡ false
first_unquoted [] dense = refl
first_unquoted (b ∷ []) dense = dense
first_unquoted (b ∷ next ∷ text) dense = by ((b == 92) && is_quotable next) refl
  where
    by : (quotes : Bool) → ((b == 92) && is_quotable next) ≡ quotes → is_blank (get_or (unquoted (b ∷ next ∷ text)) 0 0) ≡ false
    by true e = rw e (dense_quotable next (and_parts (b == 92) (is_quotable next) e).1)
    by false e = rw e dense

last_unquoted : (text : List ℕ) → is_blank (last_byte text) ≡ false → is_blank (last_byte (unquoted text)) ≡ false
unfolding last_byte
last_unquoted [] dense = refl
last_unquoted (b ∷ []) dense = dense
last_unquoted (b ∷ next ∷ []) dense = by ((b == 92) && is_quotable next) refl
  where
    by : (quotes : Bool) → ((b == 92) && is_quotable next) ≡ quotes → is_blank (last_byte (unquoted (b ∷ next ∷ []))) ≡ false
    by true e = rw e dense
    by false e = rw e dense
last_unquoted (b ∷ next ∷ c ∷ text) dense = by ((b == 92) && is_quotable next) refl (last_unquoted (next ∷ c ∷ text) dense) (last_unquoted (c ∷ text) dense)
  where
    by :
        (quotes : Bool) → ((b == 92) && is_quotable next) ≡ quotes → is_blank (last_byte (unquoted (next ∷ c ∷ text))) ≡ false → is_blank (last_byte (unquoted (c ∷ text))) ≡ false
        → is_blank (last_byte (unquoted (b ∷ next ∷ c ∷ text))) ≡ false
    by true e one two =
        let here : unquoted (b ∷ next ∷ c ∷ text) ≡ next ∷ unquoted (c ∷ text) = rw e refl in
        ap (λ read. is_blank (last_byte read)) here ∙ (ap is_blank (last_more next (unquoted (c ∷ text)) (unquoted_some c text)) ∙ two)
    by false e one two =
        let here : unquoted (b ∷ next ∷ c ∷ text) ≡ b ∷ unquoted (next ∷ c ∷ text) = rw e refl in
        ap (λ read. is_blank (last_byte read)) here ∙ (ap is_blank (last_more b (unquoted (next ∷ c ∷ text)) (unquoted_some next (c ∷ text))) ∙ one)

first_quoted : (text : List ℕ) → is_blank (get_or text 0 0) ≡ false → is_blank (get_or (quoted text) 0 0) ≡ false
first_quoted [] dense = refl
first_quoted (b ∷ text) dense = by (is_quotable b) refl
  where
    by : (quotable : Bool) → is_quotable b ≡ quotable → is_blank (get_or (quoted (b ∷ text)) 0 0) ≡ false
    by true e = rw e refl
    by false e = rw e dense

quoted_some : (b : ℕ) (text : List ℕ) → 0 < length (quoted (b ∷ text))
quoted_some b text = by (is_quotable b) refl
  where
    by : (quotable : Bool) → is_quotable b ≡ quotable → 0 < length (quoted (b ∷ text))
    by true e = rw e (omega arith)
    by false e = rw e (omega arith)

last_quoted : (text : List ℕ) → is_blank (last_byte text) ≡ false → is_blank (last_byte (quoted text)) ≡ false
unfolding last_byte
last_quoted [] dense = refl
last_quoted (b ∷ []) dense = by (is_quotable b) refl
  where
    by : (quotable : Bool) → is_quotable b ≡ quotable → is_blank (last_byte (quoted (b ∷ []))) ≡ false
    by true e = rw e dense
    by false e = rw e dense
last_quoted (b ∷ next ∷ text) dense = by (is_quotable b) refl (last_quoted (next ∷ text) dense)
  where
    some : 0 < length (quoted (next ∷ text))
    some = quoted_some next text

    by : (quotable : Bool) → is_quotable b ≡ quotable → is_blank (last_byte (quoted (next ∷ text))) ≡ false → is_blank (last_byte (quoted (b ∷ next ∷ text))) ≡ false
    by true e rest =
        let here : quoted (b ∷ next ∷ text) ≡ 92 ∷ b ∷ quoted (next ∷ text) = rw e refl in
        ap (λ front. is_blank (last_byte front)) here ∙ (ap is_blank (last_more b (quoted (next ∷ text)) some) ∙ rest)
    by false e rest =
        let here : quoted (b ∷ next ∷ text) ≡ b ∷ quoted (next ∷ text) = rw e refl in
        ap (λ front. is_blank (last_byte front)) here ∙ (ap is_blank (last_more b (quoted (next ∷ text)) some) ∙ rest)

-- a solid text is trimmed
none_first : (text : List ℕ) → is_blank (get_or text 0 0) ≡ false → prefix_len is_blank text ≡ 0
none_first [] dense = refl
none_first (b ∷ text) dense = rw dense refl

solid_is_trimmed : (text : List ℕ) → IsSolid text → trimmed text ≡ text
unfolding last_byte
solid_is_trimmed text solid =
    let front : without_first_blanks text ≡ text = ap (λ n. drop n text) (none_first text solid.first) in
    let last : is_blank (get_or (reverse text) 0 0) ≡ false = by text (ap is_blank (sym (last_is text)) ∙ solid.last) in
    let back : without_last_blanks text ≡ text = ap (λ n. take (length text - n) text) (none_first (reverse text) last) ∙ take_all (length text - 0) text (omega arith) in
    ap without_last_blanks front ∙ back
  where
    by : (text : List ℕ) → is_blank (get_or text (length text - 1) 0) ≡ false → is_blank (get_or (reverse text) 0 0) ≡ false
    by [] dense = refl
    by (b ∷ text) dense =
        let place : length (b ∷ text) - 1 - 0 ≡ length (b ∷ text) - 1 = omega arith in
        ap is_blank (get_or-reverse (b ∷ text) 0 0 (omega arith) ∙ ap (λ n. get_or (b ∷ text) n 0) place) ∙ dense

-- a name that stood between brackets is read again
pub name_again : (inside : List ℕ) → name_between (quoted (name_between inside)) ≡ name_between inside
name_again inside =
    let name : List ℕ = name_between inside in
    let ends = trimmed_is_solid inside in
    let solid : IsSolid (quoted name) = record { first = first_quoted name (first_unquoted (trimmed inside) ends.first); last = last_quoted name (last_unquoted (trimmed inside) ends.last) } in
    ap unquoted (solid_is_trimmed (quoted name) solid) ∙ unquoted_quoted name
