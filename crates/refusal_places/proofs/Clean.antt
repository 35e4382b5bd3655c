-- Texts without control characters.
use Rattle.std.proofs.Common.{◌≡◌, ℕ, suc, ◌<◌, ◌≤◌, ◌++◌, true, false, List, [], ◌∷◌, length, refl, ap, ◌∙◌, get_or, inl, inr, arith}
use Rattle.std.specs.Prelude.{encode_utf8}
use Rattle.std.specs.Char.{is_control}
use Rattle.std.proofs.lemmas.Bool.Decides.{leb_tells, nat_tests}
use Rattle.std.proofs.lemmas.List.Folds.{list_all-append}
use Rattle.std.proofs.lemmas.Str.{encode_ascii}
use Rattle.cov_model.specs.believed.Names.{is_plain}
use Rattle.refusal_places.specs.Told.{is_clean}
use Rattle.value_text.proofs.CharLemmas.{high_byte}

high_plain : (b : ℕ) → 128 ≤ b → is_plain b ≡ true
high_plain b high = grind (arith, nat_tests)

high_clean : (bytes : List ℕ) → ((k : ℕ) → k < length bytes → 128 ≤ get_or bytes k 0) → is_clean bytes ≡ true
high_clean [] high = refl
high_clean (b ∷ rest) high = rw (high_plain b (high 0 (omega arith)), high_clean rest (λ k within. high (suc k) (omega arith))) refl

low_plain : (c : ℕ) → is_control c ≡ false → c < 128 → is_plain c ≡ true
low_plain c harmless low = grind (arith, nat_tests)

clean_encoded : (c : ℕ) → is_control c ≡ false → is_clean (encode_utf8 c) ≡ true
clean_encoded c harmless =
    elim (leb_tells 128 c) [
      | inl high ↦ high_clean (encode_utf8 c) (λ k within. high_byte c k high.1 within)
      | inr low ↦ ap is_clean (encode_ascii c low.1) ∙ rw (low_plain c harmless low.1) refl
    ]

-- a clean text stays clean behind a character that is none of control
pub clean_more : (text : List ℕ) (c : ℕ) → is_clean text ≡ true → is_control c ≡ false → is_clean (text ++ encode_utf8 c) ≡ true
clean_more text c clean harmless = rw (list_all-append is_plain text (encode_utf8 c), clean, clean_encoded c harmless) refl

pub clean_append : (text more : List ℕ) → is_clean text ≡ true → is_clean more ≡ true → is_clean (text ++ more) ≡ true
clean_append text more clean also = rw (list_all-append is_plain text more, clean, also) refl
