-- The words of a generator, one behind another, and texts of lists, item by item.
use Rattle.std.proofs.Common.{◌≡◌, ℕ, zero, suc, ◌+◌, ◌*◌, ◌-◌, ◌%◌, ◌<◌, ◌≤◌, List, [], ◌∷◌, ◌++◌, All, length, map, get_or, slice_index, refl, sym, ap, ◌∙◌, add-one, arith}
use Rattle.std.proofs.lemmas.List.{append-nil}
use Rattle.std.proofs.lemmas.List.Elements.{All-from_get_or}
use Rattle.std.proofs.lemmas.List.FromFn.{get_or-map-range_with_len, length-map-range_with_len, map-range_with_len_more}
use Rattle.value_text.proofs.ListLemmas.{text_more}
use Rattle.std.specs.List.{range_with_len}
use Rattle.rand_pcg.specs.Lcg.{Lcg}
use Rattle.rand_pcg.specs.Pcg.{pcg32}
use Rattle.made_models.specs.believed.Words.{after_words, made_generator, word_of}
use Rattle.made_models.specs.believed.MadeModel.{Forbidden, constraint_line, constraint_lines, forbidden, forbidden_by, parameter_line, parameter_lines, value_count, word}
use Rattle.made_models.specs.MadeModel.{value_counts}

-- one word more
pub after_words-more : (k : ℕ) (generator : Lcg) → (pcg32 (after_words k generator)).1 ≡ after_words (k + 1) generator
unfolding after_words
after_words-more k generator = ap (λ n. after_words n generator) (sym (add-one k))

-- no word, and words behind words
pub after_words-none : (generator : Lcg) → generator ≡ after_words 0 generator
unfolding after_words
after_words-none generator = refl

after_words-add : (j k : ℕ) (generator : Lcg) → after_words j (after_words k generator) ≡ after_words (k + j) generator
unfolding after_words
after_words-add zero k generator = ap (λ n. after_words n generator) (omega arith)
after_words-add (suc j) k generator =
    ap (λ g. (pcg32 g).1) (after_words-add j k generator) ∙ after_words-more (k + j) generator
    ∙ ap (λ n. after_words n generator) (omega arith)

-- four words in a row
pub record Drawn (generator after : Lcg) (w x y z : ℕ) : Type 0 where
  pub first : w ≡ word_of generator 0
  pub second : x ≡ word_of generator 1
  pub third : y ≡ word_of generator 2
  pub fourth : z ≡ word_of generator 3
  pub last : after ≡ after_words 4 generator

pub draws_four : (g a b c d : Lcg) (w x y z : ℕ) → (w, a) ≡ pcg32 g → (x, b) ≡ pcg32 a → (y, c) ≡ pcg32 b → (z, d) ≡ pcg32 c → Drawn g d w x y z
unfolding after_words
draws_four g a b c d w x y z one two three four =
    let at_b : b ≡ (pcg32 (pcg32 g).1).1 = ap (λ p. p.1) two ∙ ap (λ s. (pcg32 s).1) (ap (λ p. p.1) one) in
    let at_c : c ≡ (pcg32 (pcg32 (pcg32 g).1).1).1 = ap (λ p. p.1) three ∙ ap (λ s. (pcg32 s).1) at_b in
    record {
      first = ap (λ p. p.0) one;
      second = ap (λ p. p.0) two ∙ ap (λ s. (pcg32 s).0) (ap (λ p. p.1) one);
      third = ap (λ p. p.0) three ∙ ap (λ s. (pcg32 s).0) at_b;
      fourth = ap (λ p. p.0) four ∙ ap (λ s. (pcg32 s).0) at_c;
      last = ap (λ p. p.1) four ∙ ap (λ s. (pcg32 s).1) at_c;
    }

-- the parameters one after another
pub record PushedParameters (n number : ℕ) (before now : List ℕ) (counts : List ℕ) (words : Lcg) : Type 0 where
  pub counts_so_far : counts ≡ value_counts n number
  pub text_so_far : now ≡ before ++ parameter_lines n number
  pub words_so_far : words ≡ after_words number (made_generator n)

pub no_parameter : (n : ℕ) (before : List ℕ) (words : Lcg) → words ≡ made_generator n → PushedParameters n 0 before before [] words
unfolding value_counts parameter_lines after_words
no_parameter n before words start = record { counts_so_far = refl; text_so_far = sym (append-nil before); words_so_far = start }

pub parameter_more : (n number w : ℕ) (before now after counts counts_after : List ℕ) (words words_after : Lcg)
    → PushedParameters n number before now counts words → (w, words_after) ≡ pcg32 words
    → after ≡ now ++ parameter_line number (2 + w % 6) → counts_after ≡ counts ++ (2 + w % 6) ∷ []
    → PushedParameters n (number + 1) before after counts_after words_after
unfolding value_counts parameter_lines
parameter_more n number w before now after counts counts_after words words_after so_far drawn text pushed =
    let is_word : w ≡ word n number = ap (λ p. p.0) drawn ∙ ap (λ g. (pcg32 g).0) so_far.words_so_far in
    let is_count : 2 + w % 6 ≡ value_count n number = ap (λ v. 2 + v % 6) is_word in
    record {
      counts_so_far =
          pushed ∙ ap (λ list. list ++ (2 + w % 6) ∷ []) so_far.counts_so_far
          ∙ ap (λ count. map (value_count n) (range_with_len 0 number) ++ count ∷ []) is_count
          ∙ sym (map-range_with_len_more (value_count n) 0 number number (omega arith));
      text_so_far =
          text_more (λ i. parameter_line i (value_count n i)) number before now after so_far.text_so_far
          (text ∙ ap (λ count. now ++ parameter_line number count) is_count);
      words_so_far = ap (λ p. p.1) drawn ∙ ap (λ g. (pcg32 g).1) so_far.words_so_far ∙ after_words-more number (made_generator n);
    }

-- the constraints one after another
pub record PushedConstraints (n number : ℕ) (before now : List ℕ) (words : Lcg) : Type 0 where
  pub text_so_far : now ≡ before ++ constraint_lines n number
  pub words_so_far : words ≡ after_words (60 + 4 * number) (made_generator n)

pub no_constraint : (n : ℕ) (before : List ℕ) (words : Lcg) → words ≡ after_words 60 (made_generator n) → PushedConstraints n 0 before before words
unfolding constraint_lines
no_constraint n before words start = record { text_so_far = sym (append-nil before); words_so_far = start }

-- of sixty counts each is one of a parameter
count_at : (n : ℕ) (counts : List ℕ) (i : ℕ) → counts ≡ value_counts n 60 → i < 60 → slice_index counts i ≡ value_count n i
unfolding value_counts
count_at n counts i are inside = ap (λ list. slice_index list i) are ∙ get_or-map-range_with_len (value_count n) 0 60 i i 0 inside (omega arith)

pub sixty_counts : (n : ℕ) (counts : List ℕ) → counts ≡ value_counts n 60 → length counts ≡ 60
unfolding value_counts
sixty_counts n counts are = ap length are ∙ length-map-range_with_len (value_count n) 0 60

pub several_counts : (n : ℕ) (counts : List ℕ) → counts ≡ value_counts n 60 → All (λ count. 2 ≤ count) counts
several_counts n counts are =
    All-from_get_or (λ count. 2 ≤ count) counts 0 (λ i inside.
    let same : get_or counts i 0 ≡ 2 + word n i % 6 = count_at n counts i are (omega (arith, inside, sixty_counts n counts are)) in
    omega (arith, same))

pub constraint_more : (n number : ℕ) (pair : Forbidden) (before now after counts : List ℕ) (words words_after : Lcg) → counts ≡ value_counts n 60
    → PushedConstraints n number before now words
    → pair ≡ forbidden_by (slice_index counts) (word_of words 0) (word_of words 1) (word_of words 2) (word_of words 3)
    → words_after ≡ after_words 4 words → after ≡ now ++ constraint_line pair → PushedConstraints n (number + 1) before after words_after
unfolding constraint_lines
constraint_more n number pair before now after counts words words_after are so_far drawn moved text =
    let at : ℕ = 60 + 4 * number in
    let start : Lcg = made_generator n in
    let moved_by : (j : ℕ) → word_of words j ≡ word n (at + j) =
    λ j. ap (λ g. (pcg32 g).0) (ap (after_words j) so_far.words_so_far ∙ after_words-add j at start) in
    let here : word n (at + 0) ≡ word n at = ap (word n) (omega arith) in
    let i : ℕ = word n at % 60 in
    let j : ℕ = (i + 1 + word n (at + 1) % 59) % 60 in
    let by_counts : forbidden_by (slice_index counts) (word n at) (word n (at + 1)) (word n (at + 2)) (word n (at + 3)) ≡ forbidden n number =
    ap (λ count. record { first = i; first_value = 1 + word n (at + 2) % (count - 1); second = j; second_value = 1 + word n (at + 3) % (slice_index counts j - 1) })
    (count_at n counts i are (omega arith))
    ∙ ap (λ count. record { first = i; first_value = 1 + word n (at + 2) % (value_count n i - 1); second = j; second_value = 1 + word n (at + 3) % (count - 1) })
    (count_at n counts j are (omega arith)) in
    let is_pair : pair ≡ forbidden n number =
    drawn ∙ ap (λ w. forbidden_by (slice_index counts) w (word_of words 1) (word_of words 2) (word_of words 3)) (moved_by 0 ∙ here)
    ∙ ap (λ x. forbidden_by (slice_index counts) (word n at) x (word_of words 2) (word_of words 3)) (moved_by 1)
    ∙ ap (λ y. forbidden_by (slice_index counts) (word n at) (word n (at + 1)) y (word_of words 3)) (moved_by 2)
    ∙ ap (λ z. forbidden_by (slice_index counts) (word n at) (word n (at + 1)) (word n (at + 2)) z) (moved_by 3) ∙ by_counts in
    record {
      text_so_far = text_more (λ k. constraint_line (forbidden n k)) number before now after so_far.text_so_far (text ∙ ap (λ p. now ++ constraint_line p) is_pair);
      words_so_far = moved ∙ ap (after_words 4) so_far.words_so_far ∙ after_words-add 4 at start ∙ ap (λ k. after_words k start) (omega arith);
    }
