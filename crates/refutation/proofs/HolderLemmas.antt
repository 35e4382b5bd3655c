-- Lists of numbers by pair, to which numbers are added.
use Rattle.std.proofs.Common.{◌≡◌, ◌≢◌, ℕ, zero, suc, ◌+◌, ◌<◌, ◌≤◌, true, ◌==◌, List, [], ◌∷◌, ◌++◌, ◌^◌, max, All, Some, length, get_or, set, inl, inr, ◌⊎◌, ◌∙◌, sym, ap, subst, refl, arith, eq-eqb}
use Rattle.std.proofs.lemmas.Bool.{false≢true, cases_eq, cases_lt, or_left, or_right}
use Rattle.std.proofs.Math.Nat.{le-max_left, le-max_right}
use Rattle.std.proofs.Math.Seq.{get_or-append_seam}
use Rattle.std.proofs.lemmas.List.{get_or_append_left, get_or-set_other, get_or-set_same, length-append}
use Rattle.std.proofs.lemmas.List.Elements.{All-append}
use Rattle.definitions.specs.believed.Demand.{is_among}
use Rattle.definitions.proofs.Members.{among_has, of_among, of_append, has_left, has_right}
use Rattle.refutation.specs.declared.omissions.Omission.{Omission}
use Rattle.refutation.specs.Holders.{Adds, AreHolders, EndsBelow, EndsWithin, NeverFalls, last_pair, numbers_at}

-- a number behind the others
among_more : (numbers : List ℕ) (n k : ℕ) → is_among (numbers ++ n ∷ []) k ≡ true → (is_among numbers k ≡ true) ⊎ (n ≡ k)
among_more numbers n k among =
    elim (of_append numbers (n ∷ []) k (of_among (numbers ++ n ∷ []) k among)) [
      | inl has ↦ inl (among_has numbers k has)
      | inr (inl same) ↦ inr same
      | inr (inr none) ↦ absurd none
    ]

pub among_kept : (numbers : List ℕ) (n k : ℕ) → is_among numbers k ≡ true → is_among (numbers ++ n ∷ []) k ≡ true
among_kept numbers n k among = among_has (numbers ++ n ∷ []) k (has_left numbers (n ∷ []) k (of_among numbers k among))

pub among_last : (numbers : List ℕ) (n : ℕ) → is_among (numbers ++ n ∷ []) n ≡ true
among_last numbers n = among_has (numbers ++ n ∷ []) n (has_right numbers (n ∷ []) n (inl refl))

falls_never : (numbers : List ℕ) (n : ℕ) → NeverFalls numbers → ((k : ℕ) → is_among numbers k ≡ true → k ≤ n) → NeverFalls (numbers ++ n ∷ [])
falls_never [] n rising below = (λ later among. absurd (false≢true among), tt)
falls_never (first ∷ numbers) n rising below = (
  λ later among. elim (among_more numbers n later among) [
    | inl before ↦ rising.0 later before
    | inr same ↦ let most = below first (or_left (first == first) (is_among numbers first) (eq-eqb first first refl)) in omega (arith, most, same)
  ],
  falls_never numbers n rising.1 (λ k among. below k (or_right (first == k) (is_among numbers k) among)),
)

pub ends_more : (numbers : List ℕ) (n : ℕ) → EndsBelow n numbers → EndsBelow n (numbers ++ n ∷ [])
ends_more numbers n ends = record {
  rising = falls_never numbers n ends.rising ends.below;
  below = λ k among. elim (among_more numbers n k among) [ inl before ↦ ends.below k before | inr same ↦ omega (arith, same) ];
}

pub ends_later : (numbers : List ℕ) (m n : ℕ) → m ≤ n → EndsBelow m numbers → EndsBelow n numbers
ends_later numbers m n more ends = record { rising = ends.rising; below = λ k among. let most = ends.below k among in omega (arith, most, more) }

-- some lists are as they were, or have the number at the end
pub adds_nothing : (n : ℕ) (lists : List (List (List ℕ))) → Adds n lists lists
adds_nothing n lists = record { kept = λ p v k among. among; ends = λ p v ends. ends }

pub adds_then : (n : ℕ) (old now new : List (List (List ℕ))) → Adds n old now → Adds n now new → Adds n old new
adds_then n old now new first second = record {
  kept = λ p v k among. second.kept p v k (first.kept p v k among);
  ends = λ p v ends. second.ends p v (first.ends p v ends);
}

abbrev pub IsAsBefore : ℕ → List ℕ → List ℕ → Type 0
IsAsBefore n old new = (new ≡ old) ⊎ (new ≡ old ++ n ∷ [])

adds_some : (n : ℕ) (old new : List (List (List ℕ))) → ((p v : ℕ) → IsAsBefore n (numbers_at old p v) (numbers_at new p v)) → Adds n old new
adds_some n old new each = record {
  kept = λ p v k among. elim (each p v) [
    | inl same ↦ subst (λ (list : List ℕ). is_among list k ≡ true) (sym same) among
    | inr more ↦ subst (λ (list : List ℕ). is_among list k ≡ true) (sym more) (among_kept (numbers_at old p v) n k among)
  ];
  ends = λ p v ends. elim (each p v) [
    | inl same ↦ subst (EndsBelow n) (sym same) ends
    | inr more ↦ subst (EndsBelow n) (sym more) (ends_more (numbers_at old p v) n ends)
  ];
}

-- the lists of one parameter were written
module _ (n p v : ℕ) (old now : List (List (List ℕ))) (values : List (List ℕ)) where
  abbrev written : List (List (List ℕ))
  written = set now p values

  pub adds_one : p < length now → ((q : ℕ) → get_or now q [] ≡ get_or old q [])
      → ((w : ℕ) → w ≢ v → get_or values w [] ≡ get_or (get_or now p []) w []) → IsAsBefore n (get_or (get_or now p []) v []) (get_or values v []) → Adds n old written
  adds_one within same others own = adds_some n old written each
    where
      before : (q w : ℕ) → numbers_at now q w ≡ numbers_at old q w
      before q w = ap (λ (lists : List (List ℕ)). get_or lists w []) (same q)

      each : (q w : ℕ) → IsAsBefore n (numbers_at old q w) (numbers_at written q w)
      each q w = elim (cases_eq q p) [
        | inl here ↦
            let read : get_or written q [] ≡ values = ap (λ (k : ℕ). get_or written k []) here ∙ get_or-set_same now p values [] within in
            let cut : numbers_at written q w ≡ get_or values w [] = ap (λ (lists : List (List ℕ)). get_or lists w []) read in
            let origin : get_or (get_or now p []) w [] ≡ numbers_at old q w = ap (λ (k : ℕ). numbers_at now k w) (sym here) ∙ before q w in
            elim (cases_eq w v) [
              | inl own_value ↦
                  subst (λ (list : List ℕ). IsAsBefore n list (numbers_at written q w)) origin
                  (subst (λ (list : List ℕ). IsAsBefore n (get_or (get_or now p []) w []) list) (sym cut)
                  (subst (λ (k : ℕ). IsAsBefore n (get_or (get_or now p []) k []) (get_or values k [])) (sym own_value) own))
              | inr other ↦ inl (cut ∙ others w other ∙ origin)
            ]
        | inr apart ↦ inl (ap (λ (lists : List (List ℕ)). get_or lists w []) (get_or-set_other now p q values [] apart) ∙ before q w)
      ]

-- one more default behind a list is read as before
pub default_more : {X : Type 0} (xs : List X) (d : X) (i : ℕ) → get_or (xs ++ d ∷ []) i d ≡ get_or xs i d
default_more [] d zero = refl
default_more [] d (suc i) = refl
default_more (x ∷ xs) d zero = refl
default_more (x ∷ xs) d (suc i) = default_more xs d i

-- ---- the omissions of a proof

-- a number more, for whose omission there was no room
pub holders_kept : (omissions : List Omission) (old new : List (List (List ℕ))) (width n : ℕ) → AreHolders omissions old width → n ≡ length omissions + 1
    → Adds n old new → AreHolders omissions new width
holders_kept omissions old new width n are next adds = record {
  ends = λ p v. subst (λ (k : ℕ). EndsBelow k (numbers_at new p v)) next
      (adds.ends p v (subst (λ (k : ℕ). EndsBelow k (numbers_at old p v)) (sym next) (are.ends p v)));
  each = λ p v i d within is. adds.kept p v (i + 1) (are.each p v i d within is);
  within = are.within;
}

-- an omission more
pub holders_more : (omissions : List Omission) (own : Omission) (old new : List (List (List ℕ))) (width least n : ℕ) → AreHolders omissions old width
    → n ≡ length omissions + 1 → Adds n old new → ((p v : ℕ) → last_pair own.tuple ≡ Some (p, v) → is_among (numbers_at new p v) n ≡ true)
    → ((k : ℕ) → k < 2 ^ 16 → least ≤ k → EndsWithin k own.tuple) → AreHolders (omissions ++ own ∷ []) new (max width least)
holders_more omissions own old new width least n are next adds listed wide = record {
  ends = λ p v.
      let kept = (holders_kept omissions old new width n are next adds).ends p v in
      ends_later (numbers_at new p v) (length omissions + 1) (length (omissions ++ own ∷ []) + 1) (omega (arith, length-append omissions (own ∷ []))) kept;
  each = λ p v i d within is. elim (cases_lt i (length omissions)) [
    | inl before ↦
        adds.kept p v (i + 1) (are.each p v i d before
        (ap (λ (omission : Omission). last_pair omission.tuple) (sym (get_or_append_left omissions (own ∷ []) d i before)) ∙ is))
    | inr past ↦
        let last : i ≡ length omissions = omega (arith, past, within, length-append omissions (own ∷ [])) in
        let read : get_or (omissions ++ own ∷ []) i d ≡ own =
        ap (λ (k : ℕ). get_or (omissions ++ own ∷ []) k d) last ∙ get_or-append_seam omissions own [] d in
        let number : n ≡ i + 1 = omega (arith, next, last) in
        ap (is_among (numbers_at new p v)) (sym number) ∙ listed p v (ap (λ (omission : Omission). last_pair omission.tuple) (sym read) ∙ is)
  ];
  within = λ k few most.
      let first : width ≤ k = omega (arith, le-max_left width least, most) in
      let second : least ≤ k = omega (arith, le-max_right width least, most) in
      All-append (λ (omission : Omission). EndsWithin k omission.tuple) omissions (own ∷ []) (are.within k few first)
      (All-one k (wide k few second));
}
  where
    All-one : (k : ℕ) → EndsWithin k own.tuple → All (λ (omission : Omission). EndsWithin k omission.tuple) (own ∷ [])
    All-one k ends zero d within = ends
    All-one k ends (suc i) d within = absurd (omega (arith, within))
