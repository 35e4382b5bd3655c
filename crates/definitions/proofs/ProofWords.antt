-- The pairs and tokens of a proof line are read back.
use Rattle.std.proofs.Common.{◌≡◌, ℕ, ◌-◌, ◌^◌, ◌<◌, ◌≤◌, Bool, true, false, ◌&&◌, List, [], ◌∷◌, ◌++◌, length, get_or, Option}
use Rattle.std.proofs.Common.{Some, None, All, inl, inr, ◌∙◌, sym, ap, subst, refl, arith, lt-ltb, le-leb, eq-eqb, ne_eqb}
use Rattle.std.specs.Prelude.{◌==◌, nat_lt, nat_le, decimal, option_map, option_and_then}
use Rattle.std.specs.List.{before_first, after_first, list_any}
use Rattle.std.specs.Int.{IsInRange}
use Rattle.std.proofs.lemmas.Bool.{cases_Bool, and_parts, and_from, eqb-true, ltb-true, leb-true}
use Rattle.std.proofs.lemmas.Fmt.{decimal_nonempty}
use Rattle.std.proofs.lemmas.List.Elements.{All-nil, All-cons, All-append}
use Rattle.std.proofs.lemmas.List.Folds.{list_any_at}
use Rattle.cov_model.specs.believed.Sound.{ModelView, IsSound, param_at, no_param}
use Rattle.cov_model.specs.Sound.{no_rule}
use Rattle.definitions.specs.believed.Pairs.{pair_text}
use Rattle.definitions.specs.believed.Refutation.{Token, Branch, ByRule, ByNegative, ByOmission}
use Rattle.definitions.specs.believed.ProofText.{token_text, number_where, read_pair, read_token}
use Rattle.definitions.specs.Laws.{IsTokenOf}
use Rattle.definitions.proofs.Members.{of_any, member_of_all}
use Rattle.definitions.proofs.Spelling.{number_reads, number_spells, Lacks, number_lacks, parts_at, comes_from}

-- a parameter and a value of the model
abbrev pub IsPair : ModelView → ℕ × ℕ → Type 0
IsPair m pair = (pair.0 < length m.params) × (pair.1 < length (param_at m.params pair.0).values)

param_small : (m : ModelView) → IsSound m → (p : ℕ) → nat_lt p (length m.params) ≡ true → p < 2 ^ 64
param_small m sound p passes = omega (arith, ltb-true p (length m.params) passes, sound.few)

few_values : (m : ModelView) → IsSound m → (p : ℕ) → p < length m.params → length (param_at m.params p).values ≤ 4095
few_values m sound p within = (sound.params p no_param within).few

value_small : (m : ModelView) → IsSound m → (p : ℕ) → p < length m.params → (v : ℕ) → nat_lt v (length (param_at m.params p).values) ≡ true → v < 2 ^ 64
value_small m sound p within v passes = omega (arith, ltb-true v (length (param_at m.params p).values) passes, few_values m sound p within)

-- a pair is read back
pub pair_reads : (m : ModelView) (pair : ℕ × ℕ) → IsSound m → IsPair m pair → read_pair m (pair_text pair) ≡ Some pair
pair_reads m pair sound is =
    let p_passes = lt-ltb pair.0 (length m.params) is.0 in
    let v_passes = lt-ltb pair.1 (length (param_at m.params pair.0).values) is.1 in
    let p_small = param_small m sound pair.0 p_passes in
    let parts = parts_at (λ b. b == 61) (decimal pair.0) 61 (decimal pair.1) (number_lacks 61 pair.0 p_small (λ r. absurd (omega (arith, r.1)))) refl in
    ap (λ o. option_and_then (λ p. option_map (λ v. (p, v)) (number_where (λ v. nat_lt v (length (param_at m.params p).values)) (after_first (λ b. b == 61) (pair_text pair)))) o)
    (ap (number_where (λ p. nat_lt p (length m.params))) parts.before_is ∙ number_reads (λ p. nat_lt p (length m.params)) pair.0 p_small p_passes)
    ∙ ap (option_map (λ v. (pair.0, v)))
    (ap (number_where (λ v. nat_lt v (length (param_at m.params pair.0).values))) parts.after_is
    ∙ number_reads (λ v. nat_lt v (length (param_at m.params pair.0).values)) pair.1 (value_small m sound pair.0 is.0 pair.1 v_passes) v_passes)

-- and what is read is a pair's text
pub record IsPairText (m : ModelView) (text : List ℕ) (pair : ℕ × ℕ) : Type 0 where
  pub text_is : text ≡ pair_text pair
  pub is : IsPair m pair

pub pair_spells : (m : ModelView) (text : List ℕ) (pair : ℕ × ℕ) → IsSound m → read_pair m text ≡ Some pair → IsPairText m text pair
pair_spells m text pair sound read =
    by_param (number_where (λ p. nat_lt p (length m.params)) (before_first (λ b. b == 61) text)) refl read
  where
    pieces : (p v : ℕ) → number_where (λ p. nat_lt p (length m.params)) (before_first (λ b. b == 61) text) ≡ Some p
        → number_where (λ v. nat_lt v (length (param_at m.params p).values)) (after_first (λ b. b == 61) text) ≡ Some v → IsPairText m text (p, v)
    pieces p v first second =
        let left = number_spells (λ p. nat_lt p (length m.params)) (before_first (λ b. b == 61) text) p (param_small m sound) first in
        let p_within = ltb-true p (length m.params) left.passes in
        let right = number_spells (λ v. nat_lt v (length (param_at m.params p).values)) (after_first (λ b. b == 61) text) v
        (value_small m sound p p_within) second in
        let v_within = ltb-true v (length (param_at m.params p).values) right.passes in
        let some = decimal_nonempty v (value_small m sound p p_within v right.passes) in
        let whole = comes_from (λ b. b == 61) text 0 (omega (arith, ap length right.text_is, some)) in
        let parting : whole.parting ≡ 61 = eqb-true whole.parting 61 whole.passes in
        record {
          text_is = whole.whole_is ∙ ap (λ t. t ++ whole.parting ∷ after_first (λ b. b == 61) text) left.text_is
              ∙ ap (λ b. decimal p ++ b ∷ after_first (λ b. b == 61) text) parting ∙ ap (λ t. decimal p ++ 61 ∷ t) right.text_is;
          is = (p_within, v_within);
        }

    by_value : (p : ℕ) (o : Option ℕ) → number_where (λ p. nat_lt p (length m.params)) (before_first (λ b. b == 61) text) ≡ Some p
        → number_where (λ v. nat_lt v (length (param_at m.params p).values)) (after_first (λ b. b == 61) text) ≡ o → option_map (λ v. (p, v)) o ≡ Some pair
        → IsPairText m text pair
    by_value p None first second given = cc
    by_value p (Some v) first second given = let same : (p, v) ≡ pair = cc in subst (IsPairText m text) same (pieces p v first second)

    by_param : (o : Option ℕ) → number_where (λ p. nat_lt p (length m.params)) (before_first (λ b. b == 61) text) ≡ o
        → option_and_then (λ p. option_map (λ v. (p, v)) (number_where (λ v. nat_lt v (length (param_at m.params p).values)) (after_first (λ b. b == 61) text))) o ≡ Some pair
        → IsPairText m text pair
    by_param None first given = cc
    by_param (Some p) first given =
        by_value p (number_where (λ v. nat_lt v (length (param_at m.params p).values)) (after_first (λ b. b == 61) text)) first refl given

-- bytes that a pair's text lacks
pub pair_lacks : (m : ModelView) (c : ℕ) (pair : ℕ × ℕ) → IsSound m → IsPair m pair → (IsInRange 48 57 c → ⊥) → (61 == c) ≡ false → Lacks c (pair_text pair)
pair_lacks m c pair sound is other apart =
    let p_small = param_small m sound pair.0 (lt-ltb pair.0 (length m.params) is.0) in
    let v_small = value_small m sound pair.0 is.0 pair.1 (lt-ltb pair.1 (length (param_at m.params pair.0).values) is.1) in
    All-append (λ b. (b == c) ≡ false) (decimal pair.0) (61 ∷ decimal pair.1) (number_lacks c pair.0 p_small other)
    (All-cons (λ b. (b == c) ≡ false) 61 (decimal pair.1) apart (number_lacks c pair.1 v_small other))

-- the constraints have the numbers from 1 on
pub rule_numbers : (m : ModelView) → IsSound m → All (λ rule. (0 < rule.number) × (rule.number ≤ length m.rules)) m.rules
rule_numbers m sound i d within = let here = sound.numbered i d within in (omega (arith, here), omega (arith, here, within))

has_rule : (m : ModelView) (k : ℕ) → IsSound m → 1 ≤ k → k ≤ length m.rules → list_any (λ rule. rule.number == k) m.rules ≡ true
has_rule m k sound least most =
    let here = sound.numbered (k - 1) no_rule (omega (arith, least, most)) in
    list_any_at (λ rule. rule.number == k) m.rules (k - 1) no_rule (omega (arith, least, most))
    (eq-eqb (get_or m.rules (k - 1) no_rule).number k (omega (arith, here, least)))

of_rule : (m : ModelView) (k : ℕ) → IsSound m → list_any (λ rule. rule.number == k) m.rules ≡ true → (1 ≤ k) × (k ≤ length m.rules)
of_rule m k sound some =
    let found = of_any (λ rule. rule.number == k) m.rules some in
    let range = member_of_all (λ rule. (0 < rule.number) × (rule.number ≤ length m.rules)) m.rules found.0 (rule_numbers m sound) found.1 in
    let same : found.0.number ≡ k = eqb-true found.0.number k found.2 in
    (omega (arith, range.0, same), omega (arith, range.1, same))

rule_small : (m : ModelView) → IsSound m → (k : ℕ) → list_any (λ rule. rule.number == k) m.rules ≡ true → k < 2 ^ 64
rule_small m sound k passes = omega (arith, (of_rule m k sound passes).1, sound.few_rules)

abbrev is_citation : ℕ → Bool
is_citation n = nat_le 1 n && nat_le n (2 ^ 32 - 1)

of_citation : (n : ℕ) → is_citation n ≡ true → (1 ≤ n) × (n < 2 ^ 32)
of_citation n passes =
    let parts = and_parts (nat_le 1 n) (nat_le n (2 ^ 32 - 1)) passes in
    (leb-true 1 n parts.0, omega (arith, leb-true n (2 ^ 32 - 1) parts.1))

citation_small : (n : ℕ) → is_citation n ≡ true → n < 2 ^ 64
citation_small n passes = omega (arith, (of_citation n passes).1)

-- a token is read back
pub token_reads : (m : ModelView) (format : ℕ) (token : Token) → IsSound m → IsTokenOf m format token → read_token m format (token_text token) ≡ Some token
token_reads m format (Branch p) sound is =
    let passes = lt-ltb p (length m.params) is in
    ap (option_map Branch) (number_reads (λ p. nat_lt p (length m.params)) p (param_small m sound p passes) passes)
token_reads m format (ByRule k) sound is =
    let passes = has_rule m k sound is.0 is.1 in
    ap (option_map ByRule) (number_reads (λ k. list_any (λ rule. rule.number == k) m.rules) k (rule_small m sound k passes) passes)
token_reads m format ByNegative sound is = refl
token_reads m format (ByOmission n) sound is =
    let passes = and_from (nat_le 1 n) (nat_le n (2 ^ 32 - 1)) (le-leb 1 n is.1) (le-leb n (2 ^ 32 - 1) (omega (arith, is.2))) in
    let cites : (format == 2) ≡ true = eq-eqb format 2 is.0 in
    rw cites (ap (option_map ByOmission) (number_reads is_citation n (citation_small n passes) passes))

pub record IsTokenText (m : ModelView) (format : ℕ) (text : List ℕ) (token : Token) : Type 0 where
  pub text_is : text ≡ token_text token
  pub is : IsTokenOf m format token

-- a token with a number
numbered : (m : ModelView) (format first letter : ℕ) (text : List ℕ) (token : Token) (make : ℕ → Token) (test : ℕ → Bool)
    → letter ≡ first → ((n : ℕ) → token_text (make n) ≡ first ∷ decimal n) → ((n : ℕ) → test n ≡ true → n < 2 ^ 64)
    → ((n : ℕ) → test n ≡ true → IsTokenOf m format (make n))
    → option_map make (number_where test text) ≡ Some token → IsTokenText m format (letter ∷ text) token
numbered m format first letter text token make test same spelled small of given = by_number (number_where test text) refl given
  where
    by_number : (o : Option ℕ) → number_where test text ≡ o → option_map make o ≡ Some token → IsTokenText m format (letter ∷ text) token
    by_number None is given = cc
    by_number (Some n) is given =
        let number = number_spells test text n small is in
        let made : make n ≡ token = cc in
        subst (IsTokenText m format (letter ∷ text)) made
        (record { text_is = ap (λ b. b ∷ text) same ∙ ap (λ t. first ∷ t) number.text_is ∙ sym (spelled n); is = of n number.passes })

pub token_spells : (m : ModelView) (format : ℕ) (text : List ℕ) (token : Token) → IsSound m → read_token m format text ≡ Some token
    → IsTokenText m format text token
token_spells m format [] token sound given = cc
token_spells m format (letter ∷ text) token sound given =
    elim (cases_Bool (letter == 66)) [
      | inl b ↦ numbered m format 66 letter text token Branch (λ p. nat_lt p (length m.params)) (eqb-true letter 66 b) (λ n. refl) (param_small m sound)
          (λ p passes. ltb-true p (length m.params) passes) (rw b at given)
      | inr not_b ↦ elim (cases_Bool (letter == 76)) [
        | inl l ↦ numbered m format 76 letter text token ByRule (λ k. list_any (λ rule. rule.number == k) m.rules) (eqb-true letter 76 l) (λ n. refl) (rule_small m sound)
            (λ k passes. of_rule m k sound passes) (rw (not_b, l) at given)
        | inr not_l ↦ elim (cases_Bool ((letter == 79) && (format == 2))) [
          | inl o ↦
              let parts = and_parts (letter == 79) (format == 2) o in
              numbered m format 79 letter text token ByOmission is_citation (eqb-true letter 79 parts.0) (λ n. refl) citation_small
              (λ n passes. let range = of_citation n passes in (eqb-true format 2 parts.1, range.0, range.1)) (rw (not_b, not_l, o) at given)
          | inr not_o ↦ elim (cases_Bool ((letter == 78) && (length text == 0))) [
            | inl n ↦ negative (rw (not_b, not_l, not_o, n) at given) n
            | inr not_n ↦ nothing (rw (not_b, not_l, not_o, not_n) at given)
          ]
        ]
      ]
    ]
  where
    negative : Some ByNegative ≡ Some token → ((letter == 78) && (length text == 0)) ≡ true → IsTokenText m format (letter ∷ text) token
    negative given is =
        let parts = and_parts (letter == 78) (length text == 0) is in
        let made : ByNegative ≡ token = cc in
        subst (IsTokenText m format (letter ∷ text)) made
        (record { text_is = ap (λ b. b ∷ text) (eqb-true letter 78 parts.0) ∙ ap (λ t. 78 ∷ t) (empty text (eqb-true (length text) 0 parts.1)); is = tt })
      where
        empty : (bytes : List ℕ) → length bytes ≡ 0 → bytes ≡ []
        empty [] none = refl
        empty (b ∷ bytes) none = absurd (omega (arith, none))

    nothing : None ≡ Some token → IsTokenText m format (letter ∷ text) token
    nothing given = cc

-- bytes that a token's text lacks
lettered : (c letter n : ℕ) → n < 2 ^ 64 → c ≤ 47 → 48 ≤ letter → Lacks c (letter ∷ decimal n)
lettered c letter n small low high =
    All-cons (λ b. (b == c) ≡ false) letter (decimal n) (ne_eqb letter c (λ e. omega (arith, low, high, e)))
    (number_lacks c n small (λ r. absurd (omega (arith, r.0, low))))

pub token_lacks : (m : ModelView) (format c : ℕ) (token : Token) → IsSound m → IsTokenOf m format token → c ≤ 47 → Lacks c (token_text token)
token_lacks m format c (Branch p) sound is low = lettered c 66 p (param_small m sound p (lt-ltb p (length m.params) is)) low (omega arith)
token_lacks m format c (ByRule k) sound is low = lettered c 76 k (rule_small m sound k (has_rule m k sound is.0 is.1)) low (omega arith)
token_lacks m format c ByNegative sound is low =
    All-cons (λ b. (b == c) ≡ false) 78 [] (ne_eqb 78 c (λ e. omega (arith, low, e))) (All-nil (λ b. (b == c) ≡ false))
token_lacks m format c (ByOmission n) sound is low = lettered c 79 n (omega (arith, is.2)) low (omega arith)
