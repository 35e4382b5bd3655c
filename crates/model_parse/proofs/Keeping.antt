-- What each step keeps, the whole keeps.
use Rattle.std.proofs.Common.{◌≡◌, ℕ, ◌+◌, ◌<◌, List, [], ◌∷◌, length, Option, Some, None, Result, Ok, Err, IfOk, All, refl, subst, arith}
use Rattle.std.proofs.lemmas.List.Elements.{All-head, All-tail}
use Rattle.model_lex.specs.declared.diag.DiagCode.{DiagCode}
use Rattle.model_lex.specs.declared.fault.ModelFault.{ModelFault}
use Rattle.model_parse.specs.Rules.{Gives}
use Rattle.model_parse.specs.Steps.{refused_or, and_then, and_each}

pub then_ok : {A B : Type 0} (P : A → Type 0) (Q : B → Type 0) (r : Result A ModelFault) (next : A → Result B ModelFault) → IfOk r P → ((a : A) → P a → IfOk (next a) Q) → IfOk (and_then r next) Q
then_ok P Q (Ok a) next p step = step a p
then_ok P Q (Err fault) next p step = tt

pub accepted_ok : {A : Type 0} (P : A → Type 0) (line : ℕ) (code : Option DiagCode) (r : Result A ModelFault) → (code ≡ None → IfOk r P) → IfOk (refused_or line code r) P
accepted_ok P line (Some code) r h = tt
accepted_ok P line None r h = h refl

pub any_ok : {A : Type 0} (r : Result A ModelFault) → IfOk r (λ _. Unit {0})
any_ok (Ok a) = tt
any_ok (Err fault) = tt

pub both_ok : {A : Type 0} (P Q S : A → Type 0) (r : Result A ModelFault) → ((a : A) → P a → Q a → S a) → IfOk r P → IfOk r Q → IfOk r S
both_ok P Q S (Ok a) f p q = f a p q
both_ok P Q S (Err fault) f p q = tt

module _ {A X : Type 0} (step : A → X → Result A ModelFault) where
  -- P holds after each step
  pub each_ok : (P : A → Type 0) (Q : X → Type 0) → ((a : A) (x : X) → P a → Q x → IfOk (step a x) P) → (xs : List X) (a : A) → All Q xs → P a → IfOk (and_each step a xs) P
  each_ok P Q keeps [] a q p = p
  each_ok P Q keeps (x ∷ xs) a q p = then_ok P P (step a x) _ (keeps a x p (All-head Q x xs q)) (λ b. each_ok P Q keeps xs b (All-tail Q x xs q))

  -- S holds after the first step, and after each that follows
  pub each_some : (P S : A → Type 0) (Q : X → Type 0) → ((a : A) (x : X) → P a → Q x → IfOk (step a x) S) → ((a : A) → S a → P a) → (xs : List X) (a : A) → All Q xs → 0 < length xs → P a
      → IfOk (and_each step a xs) S
  each_some P S Q keeps weaker [] a q some p = absurd (omega arith)
  each_some P S Q keeps weaker (x ∷ xs) a q some p =
      then_ok S S (step a x) _ (keeps a x p (All-head Q x xs q)) (λ b s. each_ok S Q (λ c y t h. keeps c y (weaker c t) h) xs b (All-tail Q x xs q) s)

  -- each step adds one
  pub each_counts : (size : A → ℕ) → ((a : A) (x : X) → IfOk (step a x) (λ b. size b ≡ size a + 1)) → (xs : List X) (a : A) → IfOk (and_each step a xs) (λ b. size b ≡ size a + length xs)
  each_counts size adds [] a = omega arith
  each_counts size adds (x ∷ xs) a =
      then_ok (λ b. size b ≡ size a + 1) (λ c. size c ≡ size a + length (x ∷ xs)) (step a x) _ (adds a x)
      (λ b e. both_ok (λ c. size c ≡ size b + length xs) (λ _. Unit {0}) (λ c. size c ≡ size a + length (x ∷ xs)) (and_each step b xs) (λ c h _. omega arith) (each_counts size adds xs b)
      (any_ok (and_each step b xs)))

-- what holds of the answer that is wanted holds of the one that is given
pub given_ok : {A : Type 0} (P : A → Type 0) (wanted result : Result A ModelFault) → IfOk wanted P → Gives wanted (λ a. a) result → IfOk result P
given_ok P wanted (Ok a) p same = subst (λ r. IfOk r P) same p
given_ok P wanted (Err fault) p same = tt
