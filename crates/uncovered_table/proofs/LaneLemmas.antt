-- Numbers to which the bits of a word are added, 8 at once or part by part.
use Rattle.std.proofs.Common.{inl, inr, ◌≡◌, ℕ, zero, suc, ◌*◌, ◌+◌, ◌++◌, ◌^◌, ◌-◌, ◌<◌, ◌≤◌, Bool, List, [], ◌∷◌, Some}
use Rattle.std.proofs.Common.{length, get_or, take, false, cond, eqb, bit_and, ◌∙◌, refl, sym, subst, ap, arith}
use Rattle.std.specs.Prelude.{min}
use Rattle.std.specs.Int.{bit_at}
use Rattle.std.specs.Simd.Lanes.{put_chunk, top, zip2}
use Rattle.std.proofs.Math.Nat.{one-mul, zero-mul}
use Rattle.std.proofs.lemmas.Bool.{cases_eq, cases_lt, ne_eqb}
use Rattle.std.proofs.lemmas.List.{get_or-append-add, get_or-append_right, get_or_append_left, length-append, take_all}
use Rattle.std.proofs.lemmas.Nat.{pow_pos}
use Rattle.std.proofs.lemmas.Nat.Bits.{and_pow, bit_at-lt, bit_at_and}
use Rattle.std.proofs.lemmas.Simd.{get_or-zip2, length-zip2, put_chunk_whole}
use Rattle.bit_table.specs.Marks.{AreMarksFrom}
use Rattle.uncovered_table.specs.Bits.{bit_count}
use Rattle.uncovered_table.specs.Words.{AreCounted, AreRaised}

-- what the lane of a place adds
abbrev pub lane : ℕ → ℕ → ℕ
lane word place = cond (top 31 (cond (eqb (bit_and (bit_and word 255) place) 0) 4294967295 0)) 0 1

abbrev pub four_lanes : ℕ → List ℕ
four_lanes word = lane word 1 ∷ lane word 2 ∷ lane word 4 ∷ lane word 8 ∷ []

abbrev pub lanes : ℕ → List ℕ
lanes word = lane word 1 ∷ lane word 2 ∷ lane word 4 ∷ lane word 8 ∷ lane word 16 ∷ lane word 32 ∷ lane word 64 ∷ lane word 128 ∷ []

lane_is : (word k : ℕ) → bit_at 255 k ≡ 1 → lane word (2 ^ k) ≡ bit_at word k
lane_is word k one =
    let bit = bit_at (bit_and word 255) k in
    let small = bit_at-lt word k in
    let same : bit ≡ bit_at word k = bit_at_and word 255 k ∙ ap (min (bit_at word k)) one ∙ omega (arith, small) in
    let masked = and_pow (bit_and word 255) k in
    elim (cases_eq bit 0) [
      | inl none ↦
          ap (λ b. cond (top 31 (cond (eqb b 0) 4294967295 0)) 0 1) (masked ∙ ap (λ b. b * 2 ^ k) none ∙ zero-mul (2 ^ k))
          ∙ sym none ∙ same
      | inr some ↦
          let set : bit ≡ 1 = omega (arith, some, small, same) in
          let power = pow_pos k in
          let positive : bit_and (bit_and word 255) (2 ^ k) ≡ 2 ^ k = masked ∙ ap (λ b. b * 2 ^ k) set ∙ one-mul (2 ^ k) in
          let differs : eqb (bit_and (bit_and word 255) (2 ^ k)) 0 ≡ false = ne_eqb (bit_and (bit_and word 255) (2 ^ k)) 0 (omega (arith, positive, power)) in
          ap (λ b. cond (top 31 (cond b 4294967295 0)) 0 1) differs ∙ sym set ∙ same
    ]

lane_at : (word i : ℕ) → i < 8 → get_or (lanes word) i 0 ≡ bit_at word i
lane_at word zero within = lane_is word 0 refl
lane_at word (suc zero) within = lane_is word 1 refl
lane_at word (suc (suc zero)) within = lane_is word 2 refl
lane_at word (suc (suc (suc zero))) within = lane_is word 3 refl
lane_at word (suc (suc (suc (suc zero)))) within = lane_is word 4 refl
lane_at word (suc (suc (suc (suc (suc zero))))) within = lane_is word 5 refl
lane_at word (suc (suc (suc (suc (suc (suc zero)))))) within = lane_is word 6 refl
lane_at word (suc (suc (suc (suc (suc (suc (suc zero))))))) within = lane_is word 7 refl
lane_at word (suc (suc (suc (suc (suc (suc (suc (suc i)))))))) within = absurd (omega (arith, within))

four_lane_at : (word i : ℕ) → i < 4 → get_or (four_lanes word) i 0 ≡ bit_at word i
four_lane_at word zero within = lane_is word 0 refl
four_lane_at word (suc zero) within = lane_is word 1 refl
four_lane_at word (suc (suc zero)) within = lane_is word 2 refl
four_lane_at word (suc (suc (suc zero))) within = lane_is word 3 refl
four_lane_at word (suc (suc (suc (suc i)))) within = absurd (omega (arith, within))

-- numbers to which as many lanes are added
lanes_added : (f : ℕ → ℕ → ℕ) → ((x y : ℕ) → x + y < 2 ^ 32 → f x y ≡ x + y) → (word n : ℕ) (added xs : List ℕ) → length added ≡ n → length xs ≡ n
    → ((i : ℕ) → i < n → get_or added i 0 ≡ bit_at word i) → ((i d : ℕ) → i < length xs → get_or xs i d < 2 ^ 31)
    → AreRaised (bit_at word) xs (zip2 f xs added)
lanes_added f adds word n added xs many long lane_is low = record {
  long = length-zip2 f xs added (long ∙ sym many);
  each = λ i within.
      let inside : i < n = omega (arith, within, long) in
      let lane = lane_is i inside in
      let small = bit_at-lt word i in
      get_or-zip2 f xs added i 0 0 0 within (omega (arith, inside, many))
      ∙ adds (get_or xs i 0) (get_or added i 0) (omega (arith, lane, small, low i 0 within)) ∙ ap (λ b. get_or xs i 0 + b) lane;
}

pub lanes_raised : (f : ℕ → ℕ → ℕ) → ((x y : ℕ) → x + y < 2 ^ 32 → f x y ≡ x + y) → (word : ℕ) (xs : List ℕ) → length xs ≡ 8
    → ((i d : ℕ) → i < length xs → get_or xs i d < 2 ^ 31) → AreRaised (bit_at word) xs (zip2 f xs (lanes word))
lanes_raised f adds word xs long low = lanes_added f adds word 8 (lanes word) xs refl long (lane_at word) low

-- numbers that are read, raised and put back
pub raised_put : (added : ℕ → ℕ) (n : ℕ) (xs ys : List ℕ) → length xs ≡ n → AreRaised added (take n xs) ys → AreRaised added xs (put_chunk 0 xs ys)
raised_put added n xs ys long raised =
    let whole : take n xs ≡ xs = take_all n xs (omega (arith, long)) in
    let same = subst (λ zs. AreRaised added zs ys) whole raised in
    subst (AreRaised added xs) (sym (put_chunk_whole xs ys (sym same.long))) same

pub four_raised : (f : ℕ → ℕ → ℕ) → ((x y : ℕ) → x + y < 2 ^ 32 → f x y ≡ x + y) → (word : ℕ) (xs : List ℕ) → length xs ≡ 4
    → ((i d : ℕ) → i < length xs → get_or xs i d < 2 ^ 31) → AreRaised (bit_at word) xs (put_chunk 0 xs (zip2 f (take 4 xs) (four_lanes word)))
four_raised f adds word xs long low =
    let whole : take 4 xs ≡ xs = take_all 4 xs (omega (arith, long)) in
    raised_put (bit_at word) 4 xs (zip2 f (take 4 xs) (four_lanes word)) long
    (subst (λ ys. AreRaised (bit_at word) ys (zip2 f ys (four_lanes word))) (sym whole) (lanes_added f adds word 4 (four_lanes word) xs refl long (four_lane_at word) low))

-- counts to which marks are added
pub counted_marks : (bits : List Bool) (begin count word : ℕ) (old new : List ℕ) → count ≤ length old → AreMarksFrom bits begin count word
    → AreRaised (bit_at word) old new → AreCounted (λ i. bit_count bits (Some (begin + i))) count old new
counted_marks bits begin count word old new few marks raised = record {
  long = raised.long;
  each = λ i within. raised.each i (omega (arith, within, few)) ∙ ap (λ b. get_or old i 0 + b) (marks.each i within);
  most = λ i within. (let more = raised.each i within in let small = bit_at-lt word i in omega (arith, more, small));
}

-- what is added is the same
pub counted_by : (f g : ℕ → ℕ) (count : ℕ) (old new : List ℕ) → ((i : ℕ) → i < count → f i ≡ g i) → AreCounted f count old new → AreCounted g count old new
counted_by f g count old new same counted = record {
  long = counted.long;
  each = λ i within. counted.each i within ∙ ap (λ b. get_or old i 0 + b) (same i within);
  most = counted.most;
}

-- numbers that are raised in two parts
pub raised_parts : (added : ℕ → ℕ) (ys zs now later : List ℕ) (n : ℕ) → length ys ≡ n → AreRaised added ys now
    → AreRaised (λ i. added (n + i)) zs later → AreRaised added (ys ++ zs) (now ++ later)
raised_parts added ys zs now later n short first rest =
    let whole = length-append ys zs in
    record {
      long = length-append now later ∙ omega (arith, first.long, rest.long, whole);
      each = λ i inside. elim (cases_lt i n) [
        | inl early ↦
            get_or_append_left now later 0 i (omega (arith, early, short, first.long)) ∙ first.each i (omega (arith, early, short))
            ∙ ap (λ x. x + added i) (sym (get_or_append_left ys zs 0 i (omega (arith, early, short))))
        | inr late ↦
            let at : n + (i - n) ≡ i = omega (arith, late) in
            get_or-append_right now later n i 0 (first.long ∙ short) late ∙ rest.each (i - n) (omega (arith, inside, late, whole, short))
            ∙ ap (λ k. get_or zs (i - n) 0 + added k) at ∙ ap (λ x. x + added i) (sym (get_or-append_right ys zs n i 0 short late))
      ];
    }

-- the numbers of the later part are low where all are
pub later_low : (xs ys zs : List ℕ) → xs ≡ ys ++ zs → ((i d : ℕ) → i < length xs → get_or xs i d < 2 ^ 31)
    → (i d : ℕ) → i < length zs → get_or zs i d < 2 ^ 31
later_low xs ys zs parts low i d within =
    let at = ap (λ l. get_or l (length ys + i) d) parts ∙ get_or-append-add ys zs i d in
    let long = ap length parts ∙ length-append ys zs in
    omega (arith, at, low (length ys + i) d (omega (arith, long, within)))

-- what is added is the same
pub raised_by : (f g : ℕ → ℕ) (xs ys : List ℕ) → ((i : ℕ) → i < length xs → f i ≡ g i) → AreRaised f xs ys → AreRaised g xs ys
raised_by f g xs ys same raised = record {
  long = raised.long;
  each = λ i within. raised.each i within ∙ ap (λ b. get_or xs i 0 + b) (same i within);
}
