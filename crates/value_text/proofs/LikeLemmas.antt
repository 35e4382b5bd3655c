-- Why a later `*` makes going back to an earlier one needless, and the steps of a match.
use Rattle.std.proofs.Common.{◌≡◌, ◌≢◌, ◌⊎◌, ℕ, zero, suc, Bool, true, false, ◌||◌, ◌==◌, if◌then◌else◌}
use Rattle.std.proofs.Common.{List, [], ◌∷◌, drop, refl, sym, ◌∙◌, ap, inl, inr, true≢false, eq-eqb, ne_eqb}
use Rattle.std.proofs.lemmas.Bool.{and_parts, or_left, false_from_ne_true}
use Rattle.std.proofs.Math.Bool.{or-true}
use Rattle.std.specs.Cmp.{both_ways}
use Rattle.value_text.specs.believed.Like.{matches}
use Rattle.value_text.specs.PatternParts.{Continues}

-- a `*` may be nothing
pub star_here : (p t : List ℕ) → matches p t ≡ true → matches (42 ∷ p) t ≡ true
star_here p [] is = is
star_here p (c ∷ t) is = or_left (matches p (c ∷ t)) (matches (42 ∷ p) t) is

-- or take characters before
pub star_later : (p t : List ℕ) (k : ℕ) → matches (42 ∷ p) (drop k t) ≡ true → matches (42 ∷ p) t ≡ true
star_later p t zero is = is
star_later p [] (suc k) is = is
star_later p (c ∷ t) (suc k) is = rw (star_later p t k is) (or-true (matches p (c ∷ t)))

-- what a `*` takes ends somewhere
pub star_found : (p t : List ℕ) → matches (42 ∷ p) t ≡ true → (k : ℕ) × (matches p (drop k t) ≡ true)
star_found p [] is = (0, is)
star_found p (c ∷ t) is = by (matches p (c ∷ t)) refl is (λ later. star_found p t later)
  where
    by : (here : Bool) → matches p (c ∷ t) ≡ here → (here || matches (42 ∷ p) t) ≡ true
        → (matches (42 ∷ p) t ≡ true → (k : ℕ) × (matches p (drop k t) ≡ true)) → (k : ℕ) × (matches p (drop k (c ∷ t)) ≡ true)
    by true e any found = (0, e)
    by false e later found = let rest = found later in (suc rest.0, rest.1)

-- a pattern that begins with one character takes one
takes_one : (x : ℕ) (p t : List ℕ) → x ≢ 42 → matches (x ∷ p) t ≡ true → matches p (drop 1 t) ≡ true
takes_one x p [] mark is = let other = ne_eqb x 42 mark in let e = rw other at is in cc
takes_one x p (c ∷ t) mark is =
    let other = ne_eqb x 42 mark in
    let e = rw other at is in
    (and_parts ((x == 63) || (x == c)) (matches p t) e).1

-- a step of the part before a `*`
step_same : (x c : ℕ) (p t : List ℕ) → x ≢ 42 → ((x ≡ 63) ⊎ (x ≡ c)) → matches (x ∷ p) (c ∷ t) ≡ matches p t
step_same x c p t mark (inl any) = rw (ne_eqb x 42 mark, eq-eqb x 63 any)
step_same x c p t mark (inr same) = rw (ne_eqb x 42 mark, eq-eqb x c same, or-true (x == 63))

drop_nil : (k : ℕ) → drop {A = ℕ} k [] ≡ []
drop_nil zero = refl
drop_nil (suc k) = refl

drop_step : (c : ℕ) (t : List ℕ) (k : ℕ) → drop 1 (drop k (c ∷ t)) ≡ drop k t
drop_step c t zero = refl
drop_step c [] (suc k) = ap (drop 1) (drop_nil k) ∙ sym (drop_nil (suc k))
drop_step c (d ∷ t) (suc k) = drop_step d t k

pub step : (pattern text pattern_rest text_rest behind later : List ℕ) (x c : ℕ) → Continues pattern text pattern_rest text_rest
    → pattern_rest ≡ x ∷ behind → text_rest ≡ c ∷ later → x ≢ 42 → ((x ≡ 63) ⊎ (x ≡ c)) → Continues pattern text behind later
step pattern text pattern_rest text_rest behind later x c so_far first letter mark fits = record {
  same = so_far.same ∙ rw (first, letter) (step_same x c behind later mark fits);
  later = λ k is.
      let there : matches (x ∷ behind) (drop k (c ∷ later)) ≡ true = rw (← first, ← letter) (so_far.later k is) in
      rw (← drop_step c later k) (takes_one x behind (drop k (c ∷ later)) mark there);
}

-- where the pattern ends
pub both_end : (pattern text pattern_rest text_rest : List ℕ) → Continues pattern text pattern_rest text_rest → pattern_rest ≡ [] → text_rest ≡ [] → matches pattern text ≡ true
both_end pattern text pattern_rest text_rest so_far ends text_ends = so_far.same ∙ rw (ends, text_ends)

pub pattern_ends : (pattern text pattern_rest text_rest later : List ℕ) (c : ℕ)
    → Continues pattern text pattern_rest text_rest → pattern_rest ≡ [] → text_rest ≡ c ∷ later → matches pattern text ≡ false
pattern_ends pattern text pattern_rest text_rest later c so_far ends letter = so_far.same ∙ rw (ends, letter)

-- the search behind the last `*`: what a pattern and a text come to, where a `*` stands before the pattern or not
abbrev pub matches_after : Bool → List ℕ → List ℕ → Bool
matches_after after_star p t = if after_star then matches (42 ∷ p) t else matches p t

pub ends_whole : (after_star : Bool) (p t : List ℕ) → matches p t ≡ true → matches_after after_star p t ≡ true
ends_whole false p t is = is
ends_whole true p t is = star_here p t is

pub ends_short : (after_star : Bool) (p t : List ℕ) → ((k : ℕ) → matches p (drop k t) ≡ false) → matches_after after_star p t ≡ false
ends_short false p t never = never 0
ends_short true p t never = false_from_ne_true (matches (42 ∷ p) t) (λ is. let found = star_found p t is in true≢false (sym found.1 ∙ never found.0))

-- at the next `*`, an earlier one has nothing more to give
pub next_star : (after_star : Bool) (p t behind rest : List ℕ) → Continues p t (42 ∷ behind) rest → matches_after after_star p t ≡ matches (42 ∷ behind) rest
next_star false p t behind rest so_far = so_far.same
next_star true p t behind rest so_far =
    both_ways _ _
    (λ is. let found = star_found p t is in star_later behind rest found.0 (so_far.later found.0 found.1))
    (λ is. star_here p t (so_far.same ∙ is))
