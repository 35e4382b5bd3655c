-- Leaves that are possible on a path, and on a part of it that has their reason.
use Rattle.std.proofs.Common.{◌≡◌, ◌≢◌, ℕ, ◌+◌, ◌-◌, ◌<◌, ◌≤◌, Bool, true, false, ◌&&◌, ◌==◌, not, cond, List, [], ◌∷◌, ◌++◌, map, filter, length}
use Rattle.std.proofs.Common.{Option, Some, None, is_some, unwrap_or, get_or, inl, inr, ◌∙◌, sym, ap, refl, arith, eq-eqb}
use Rattle.std.specs.List.{list_all, range_with_len}
use Rattle.std.specs.Option.{option_map_or}
use Rattle.std.specs.Prelude.{slice_get}
use Rattle.std.proofs.Math.Numerals.{add-one}
use Rattle.std.proofs.lemmas.Bool.{false≢true, and_parts, and_from, cases_Bool, cases_eq, cases_lt, eqb-true}
use Rattle.std.proofs.lemmas.List.{get_or-map, get_or-set_other, get_or-set_same, get_or_default, length-map}
use Rattle.std.proofs.lemmas.Option.{same_Some, slice_get-get_or}
use Rattle.std.proofs.lemmas.List.Folds.{list_any_at}
use Rattle.value_text.proofs.ListLemmas.{none_of}
use Rattle.cov_model.specs.believed.Views.{RuleView}
use Rattle.cov_model.specs.believed.Sound.{ModelView, IsSound}
use Rattle.cov_model.specs.Sound.{no_rule, rule_at}
use Rattle.cov_model.specs.believed.Kleene.{body_truth}
use Rattle.cov_model.specs.believed.Meaning.{value_at}
use Rattle.cov_model.specs.believed.Rows.{contains, is_assigned, with_value}
use Rattle.cov_model.specs.believed.Valid.{negatives}
use Rattle.cov_model.proofs.CellLemmas.{contains-assigned, contains-from, contains-get_or}
use Rattle.definitions.specs.believed.Demand.{is_among}
use Rattle.cov_model.specs.believed.Tuples.{cells_of}
use Rattle.definitions.specs.believed.Refutation.{Token, Branch, ByRule, ByNegative, ByOmission, earlier_tuple, is_first_leaf, is_leaf, is_negative_leaf, is_omission_leaf, is_rule_leaf, is_same_token}
use Rattle.definitions.specs.believed.Search.{body_params, is_no}
use Rattle.definitions.proofs.Members.{any_member, contains_member, of_any}
use Rattle.definitions.proofs.SliceLemmas.{has_negatives, of_negatives}
use Rattle.refutation.specs.declared.omissions.Omission.{Omission}
use Rattle.refutation.specs.Proofs.{ProofView}
use Rattle.feasibility.specs.Live.{no_on}
use Rattle.feasibility.specs.Refuting.{HasNoLeaf, IsPath, RefuterView, earlier_tuples}
use Rattle.feasibility.proofs.Broken.{longer_with, shorter_free}
use Rattle.feasibility.proofs.Citing.{no_number, number_past}
use Rattle.feasibility.proofs.Growing.{Longer, no_from_no, stays_body}
use Rattle.feasibility.proofs.Leaves.{IsFirst}
use Rattle.feasibility.proofs.Local.{agree_each, local_body}
use Rattle.full_search.specs.Closing.{IsFirstLeaf, IsLeafBetween}
use Rattle.full_search.specs.Reasons.{HasMembers, IsPart}

-- ---- on longer paths

abbrev is_no_at : ModelView → List (Option ℕ) → ℕ → RuleView → Bool
is_no_at m path k rule = (rule.number == k) && is_no (body_truth m rule.body path)

rule_longer : (m : ModelView) (a b : List (Option ℕ)) (k : ℕ) → Longer a b → is_rule_leaf m a k ≡ true → is_rule_leaf m b k ≡ true
rule_longer m a b k longer leaf =
    let found = of_any (is_no_at m a k) m.rules leaf in
    let parts = and_parts (found.0.number == k) (is_no (body_truth m found.0.body a)) found.2 in
    any_member (is_no_at m b k) m.rules found.0 found.1
    (and_from (found.0.number == k) (is_no (body_truth m found.0.body b)) parts.0 (no_from_no _ _ (stays_body m found.0.body a b longer) parts.1))

negative_longer : (m : ModelView) (tuple a b : List (Option ℕ)) → Longer a b → is_negative_leaf m tuple a ≡ true → is_negative_leaf m tuple b ≡ true
negative_longer m tuple a b longer leaf =
    let found = of_any (λ p. not (is_assigned tuple p)) (negatives m a) leaf in
    let at = of_negatives m a found.0 found.1 in
    let same = longer found.0 at.assigned in
    any_member (λ p. not (is_assigned tuple p)) (negatives m b) found.0
    (has_negatives m b found.0 (record {
      within = at.within;
      assigned = ap (λ (cell : Option ℕ). is_some cell) same ∙ at.assigned;
      negative = ap (λ (cell : Option ℕ). (value_at m found.0 (unwrap_or cell 0)).negative) same ∙ at.negative;
    }))
    found.2

-- what a row contains another one does that gives the same there
contains_kept : (a b other : List (Option ℕ)) → ((q : ℕ) → is_assigned other q ≡ true → get_or b q None ≡ get_or a q None) → contains a other ≡ true
    → contains b other ≡ true
contains_kept a b other same contained = contains-from b other (λ q given. same q given ∙ contains-get_or a other q contained given)

-- an earlier tuple is contained in a path and gives the tuple's negative values
abbrev is_cited : ModelView → List (Option ℕ) → List (Option ℕ) → List (Option ℕ) → Bool
is_cited m tuple path other = contains path other && list_all (is_assigned other) (negatives m tuple)

cited_kept : (m : ModelView) (tuple a b : List (Option ℕ)) (o : Option (List (Option ℕ)))
    → ((other : List (Option ℕ)) → o ≡ Some other → contains a other ≡ true → contains b other ≡ true)
    → option_map_or (is_cited m tuple a) o false ≡ true → option_map_or (is_cited m tuple b) o false ≡ true
cited_kept m tuple a b None kept cited = cited
cited_kept m tuple a b (Some other) kept cited =
    let gives : Bool = list_all (is_assigned other) (negatives m tuple) in
    let parts = and_parts (contains a other) gives cited in
    and_from (contains b other) gives (kept other refl parts.0) parts.1

omission_kept : (m : ModelView) (format : ℕ) (earlier : List (List (Option ℕ))) (tuple a b : List (Option ℕ)) (n : ℕ)
    → ((other : List (Option ℕ)) → earlier_tuple earlier n ≡ Some other → contains a other ≡ true → contains b other ≡ true)
    → is_omission_leaf m format earlier tuple a n ≡ true → is_omission_leaf m format earlier tuple b n ≡ true
omission_kept m format earlier tuple a b n kept leaf =
    let parts = and_parts (format == 2) (option_map_or (is_cited m tuple a) (earlier_tuple earlier n) false) leaf in
    and_from (format == 2) (option_map_or (is_cited m tuple b) (earlier_tuple earlier n) false) parts.0
    (cited_kept m tuple a b (earlier_tuple earlier n) kept parts.1)

-- a leaf that is possible on a path is so on a longer one
pub leaf_longer : (r : RefuterView) (a b : List (Option ℕ)) (token : Token) → Longer a b → is_leaf r.model r.format r.earlier r.tuple a token ≡ true
    → is_leaf r.model r.format r.earlier r.tuple b token ≡ true
leaf_longer r a b (Branch p) longer leaf = absurd (false≢true leaf)
leaf_longer r a b (ByRule k) longer leaf = rule_longer r.model a b k longer leaf
leaf_longer r a b ByNegative longer leaf = negative_longer r.model r.tuple a b longer leaf
leaf_longer r a b (ByOmission n) longer leaf =
    omission_kept r.model r.format r.earlier r.tuple a b n
    (λ other at contained. contains_kept a b other (λ q given. longer q (contains-assigned a other q contained given)) contained) leaf

-- ---- the first

same_token : (a b : Token) → is_same_token a b ≡ true → a ≡ b
same_token (Branch p) (Branch q) is = ap (λ (k : ℕ). Branch k) (eqb-true p q is)
same_token (ByRule j) (ByRule k) is = ap (λ (n : ℕ). ByRule n) (eqb-true j k is)
same_token ByNegative ByNegative is = refl
same_token (ByOmission i) (ByOmission n) is = ap (λ (k : ℕ). ByOmission k) (eqb-true i n is)
same_token (Branch p) (ByRule k) is = absurd (false≢true is)
same_token (Branch p) ByNegative is = absurd (false≢true is)
same_token (Branch p) (ByOmission n) is = absurd (false≢true is)
same_token (ByRule j) (Branch q) is = absurd (false≢true is)
same_token (ByRule j) ByNegative is = absurd (false≢true is)
same_token (ByRule j) (ByOmission n) is = absurd (false≢true is)
same_token ByNegative (Branch q) is = absurd (false≢true is)
same_token ByNegative (ByRule k) is = absurd (false≢true is)
same_token ByNegative (ByOmission n) is = absurd (false≢true is)
same_token (ByOmission i) (Branch q) is = absurd (false≢true is)
same_token (ByOmission i) (ByRule k) is = absurd (false≢true is)
same_token (ByOmission i) ByNegative is = absurd (false≢true is)

-- the first of those that pass a test is the first of those that pass a stronger one, if it does
first_of_fewer : (test stronger : Token → Bool) (xs : List Token) (token : Token) → ((x : Token) → stronger x ≡ true → test x ≡ true)
    → stronger token ≡ true → is_first_leaf (filter test xs) token ≡ true → is_first_leaf (filter stronger xs) token ≡ true
first_of_fewer test stronger [] token weaker passes first = first
first_of_fewer test stronger (x ∷ xs) token weaker passes first =
    by_case (test x) (stronger x) refl refl first (first_of_fewer test stronger xs token weaker passes)
  where
    by_case : (b c : Bool) → test x ≡ b → stronger x ≡ c → is_first_leaf (cond b (x ∷ filter test xs) (filter test xs)) token ≡ true
        → (is_first_leaf (filter test xs) token ≡ true → is_first_leaf (filter stronger xs) token ≡ true)
        → is_first_leaf (cond c (x ∷ filter stronger xs) (filter stronger xs)) token ≡ true
    by_case true true has also first later = first
    by_case true false has not first later = absurd (false≢true (sym not ∙ ap stronger (same_token x token first) ∙ passes))
    by_case false true not has first later = absurd (false≢true (sym not ∙ weaker x has))
    by_case false false not also first later = later first

-- where none passes the one, none passes the other
none_of_fewer : (test stronger : Token → Bool) (xs : List Token) → ((x : Token) → stronger x ≡ true → test x ≡ true) → filter test xs ≡ []
    → filter stronger xs ≡ []
none_of_fewer test stronger [] weaker none = refl
none_of_fewer test stronger (x ∷ xs) weaker none =
    by_case (test x) (stronger x) refl refl none (none_of_fewer test stronger xs weaker)
  where
    by_case : (b c : Bool) → test x ≡ b → stronger x ≡ c → cond b (x ∷ filter test xs) (filter test xs) ≡ []
        → (filter test xs ≡ [] → filter stronger xs ≡ []) → cond c (x ∷ filter stronger xs) (filter stronger xs) ≡ []
    by_case true c has also none later = absurd (omega (arith, ap (λ (list : List Token). length list) none))
    by_case false true not has none later = absurd (false≢true (sym not ∙ weaker x has))
    by_case false false not also none later = later none

-- no leaf is possible on a part of a path on which none is
pub leafless_part : (r : RefuterView) (short path : List (Option ℕ)) → IsPart short path → HasNoLeaf r path → HasNoLeaf r short
leafless_part r short path part leafless = record {
  none = none_of_fewer (is_leaf r.model r.format r.earlier r.tuple path) (is_leaf r.model r.format r.earlier r.tuple short)
      (ByNegative ∷ map (λ rule. ByRule rule.number) r.model.rules ++ map ByOmission (range_with_len 1 (length r.earlier)))
      (λ token. leaf_longer r short path token part.same) leafless.none;
}

first_leaf_part : (r : RefuterView) (short path : List (Option ℕ)) (token : Token) → Longer short path → IsFirstLeaf r path token
    → is_leaf r.model r.format r.earlier r.tuple short token ≡ true → IsFirstLeaf r short token
first_leaf_part r short path token longer is possible = record {
  possible = possible;
  first = first_of_fewer (is_leaf r.model r.format r.earlier r.tuple path) (is_leaf r.model r.format r.earlier r.tuple short)
      (ByNegative ∷ map (λ rule. ByRule rule.number) r.model.rules ++ map ByOmission (range_with_len 1 (length r.earlier))) token
      (λ other. leaf_longer r short path other longer) possible is.first;
}

pub first_leaf : (r : RefuterView) (path : List (Option ℕ)) (token : Token) → IsFirst r.model r.format r.earlier r.tuple path token → IsFirstLeaf r path token
first_leaf r path token is = record { possible = is.possible; first = is.first }

-- ---- on parts that have the reason

-- a part of the path that has the reason gives what the path gives where the reason does
between_same : (why short path : List (Option ℕ)) (q : ℕ) → IsPart why short → IsPart short path → get_or why q None ≡ get_or path q None
    → get_or short q None ≡ get_or path q None
between_same why short path q kept part same =
    elim (cases_Bool (is_assigned path q)) [
      | inl given ↦ kept.same q (ap (λ (cell : Option ℕ). is_some cell) same ∙ given) ∙ same
      | inr free ↦ none_of (get_or short q None) (shorter_free short path q part.same free) ∙ sym (none_of (get_or path q None) free)
    ]

-- also with a value of another parameter
between_with : (why short path : List (Option ℕ)) (p v q : ℕ) → p < length path → IsPart why short → IsPart short path
    → (q ≢ p → get_or why q None ≡ get_or path q None) → get_or (with_value short p v) q None ≡ get_or (with_value path p v) q None
between_with why short path p v q within kept part same =
    elim (cases_eq q p) [
      | inl here ↦
          ap (λ (k : ℕ). get_or (with_value short p v) k None) here ∙ get_or-set_same short p (Some v) None (omega (arith, within, part.long))
          ∙ sym (ap (λ (k : ℕ). get_or (with_value path p v) k None) here ∙ get_or-set_same path p (Some v) None within)
      | inr differs ↦
          get_or-set_other short p q (Some v) None differs ∙ between_same why short path q kept part (same differs)
          ∙ sym (get_or-set_other path p q (Some v) None differs)
    ]

-- the constraint of a leaf
pub record IsRuleLeaf (m : ModelView) (path : List (Option ℕ)) (k : ℕ) : Type 0 where
  pub some : 0 < k
  pub most : k ≤ length m.rules
  pub is : no_on m path k ≡ true

pub rule_of_leaf : (m : ModelView) (path : List (Option ℕ)) (k : ℕ) → IsSound m → is_rule_leaf m path k ≡ true → IsRuleLeaf m path k
rule_of_leaf m path k sound leaf =
    let found = of_any (is_no_at m path k) m.rules leaf in
    let parts = and_parts (found.0.number == k) (is_no (body_truth m found.0.body path)) found.2 in
    let at = contains_member m.rules found.0 found.1 in
    let stands : get_or m.rules at.0 no_rule ≡ found.0 = get_or_default m.rules at.0 no_rule found.0 at.1 ∙ at.2 in
    let number : at.0 + 1 ≡ k =
    sym (sound.numbered at.0 no_rule at.1) ∙ ap (λ (rule : RuleView). rule.number) stands ∙ eqb-true found.0.number k parts.0 in
    let place : k - 1 ≡ at.0 = omega (arith, number) in
    record {
      some = omega (arith, number);
      most = omega (arith, number, at.1);
      is = ap (λ (i : ℕ). is_no (body_truth m (get_or m.rules i no_rule).body path)) place
          ∙ ap (λ (rule : RuleView). is_no (body_truth m rule.body path)) stands ∙ parts.1;
    }

rule_kept : (m : ModelView) (a b : List (Option ℕ)) (k : ℕ) → IsSound m
    → ((q : ℕ) → is_among (body_params (rule_at m k).body) q ≡ true → get_or b q None ≡ get_or a q None) → is_rule_leaf m a k ≡ true
    → is_rule_leaf m b k ≡ true
rule_kept m a b k sound same leaf =
    let rule = rule_of_leaf m a k sound leaf in
    let within : k - 1 < length m.rules = omega (arith, rule.some, rule.most) in
    let number : (rule_at m k).number ≡ k = omega (arith, sound.numbered (k - 1) no_rule within, rule.some) in
    list_any_at (is_no_at m b k) m.rules (k - 1) no_rule within
    (and_from ((rule_at m k).number == k) (is_no (body_truth m (rule_at m k).body b)) (eq-eqb (rule_at m k).number k number)
    (ap is_no (local_body m (rule_at m k).body b a (agree_each (body_params (rule_at m k).body) b a same)).0 ∙ rule.is))

-- a negative value outside the tuple that a path has is the one that was added
negative_kept : (r : RefuterView) (short path : List (Option ℕ)) (p v : ℕ) → IsPath r path → p < length r.model.params → IsPart short path
    → is_negative_leaf r.model r.tuple (with_value path p v) ≡ true → is_negative_leaf r.model r.tuple (with_value short p v) ≡ true
negative_kept r short path p v on within part leaf =
    let test : ℕ → Bool = λ q. not (is_assigned r.tuple q) in
    let found = of_any test (negatives r.model (with_value path p v)) leaf in
    let at = of_negatives r.model (with_value path p v) found.0 found.1 in
    elim (cases_eq found.0 p) [
      | inl here ↦
          let long : p < length path = omega (arith, within, on.fits.as_long) in
          let same : get_or (with_value short p v) found.0 None ≡ get_or (with_value path p v) found.0 None =
          ap (λ (k : ℕ). get_or (with_value short p v) k None) here ∙ get_or-set_same short p (Some v) None (omega (arith, long, part.long))
          ∙ sym (ap (λ (k : ℕ). get_or (with_value path p v) k None) here ∙ get_or-set_same path p (Some v) None long) in
          any_member test (negatives r.model (with_value short p v)) found.0
          (has_negatives r.model (with_value short p v) found.0 (record {
            within = at.within;
            assigned = ap (λ (cell : Option ℕ). is_some cell) same ∙ at.assigned;
            negative = ap (λ (cell : Option ℕ). (value_at r.model found.0 (unwrap_or cell 0)).negative) same ∙ at.negative;
          }))
          found.2
      | inr differs ↦
          let there = get_or-set_other path p found.0 (Some v) None differs in
          absurd (false≢true (sym on.positive
          ∙ any_member test (negatives r.model path) found.0
          (has_negatives r.model path found.0 (record {
            within = at.within;
            assigned = ap (λ (cell : Option ℕ). is_some cell) (sym there) ∙ at.assigned;
            negative = ap (λ (cell : Option ℕ). (value_at r.model found.0 (unwrap_or cell 0)).negative) (sym there) ∙ at.negative;
          }))
          found.2))
    ]

-- the reason has what a leaf speaks of, but for one parameter
abbrev pub HasLeafOf : RefuterView → List (Option ℕ) → ℕ → List (Option ℕ) → Token → Type 0
HasLeafOf r path p why (Branch q) = Unit {0}
HasLeafOf r path p why (ByRule k) = HasMembers r.model k p path why
HasLeafOf r path p why ByNegative = Unit {0}
HasLeafOf r path p why (ByOmission n) =
    (other : List (Option ℕ)) → earlier_tuple r.earlier n ≡ Some other
    → (q : ℕ) → q ≢ p → is_assigned other q ≡ true → get_or why q None ≡ get_or path q None

leaf_kept : (r : RefuterView) (why short path : List (Option ℕ)) (p v : ℕ) (token : Token) → IsSound r.model → IsPath r path → p < length r.model.params
    → IsPart why short → IsPart short path → HasLeafOf r path p why token
    → is_leaf r.model r.format r.earlier r.tuple (with_value path p v) token ≡ true
    → is_leaf r.model r.format r.earlier r.tuple (with_value short p v) token ≡ true
leaf_kept r why short path p v (Branch q) sound on within kept part has leaf = leaf
leaf_kept r why short path p v (ByRule k) sound on within kept part has leaf =
    rule_kept r.model (with_value path p v) (with_value short p v) k sound
    (λ q named. between_with why short path p v q (omega (arith, within, on.fits.as_long)) kept part (λ differs. has q differs named)) leaf
leaf_kept r why short path p v ByNegative sound on within kept part has leaf = negative_kept r short path p v on within part leaf
leaf_kept r why short path p v (ByOmission n) sound on within kept part has leaf =
    omission_kept r.model r.format r.earlier r.tuple (with_value path p v) (with_value short p v) n (λ other at contained.
    contains_kept (with_value path p v) (with_value short p v) other
    (λ q given. between_with why short path p v q (omega (arith, within, on.fits.as_long)) kept part (λ differs. has other at q differs given)) contained)
    leaf

-- the omission of a leaf
pub omission_within : (r : RefuterView) (path : List (Option ℕ)) (n : ℕ) → is_omission_leaf r.model r.format r.earlier r.tuple path n ≡ true
    → (0 < n) × (n ≤ length r.earlier)
omission_within r path n leaf = (
  elim (cases_lt 0 n) [
    | inl some ↦ some
    | inr none ↦
        let zero : n ≡ 0 = omega (arith, none) in
        absurd (false≢true (sym (no_number r path) ∙ ap (is_omission_leaf r.model r.format r.earlier r.tuple path) (sym zero) ∙ leaf))
  ],
  elim (cases_lt (length r.earlier) n) [ inl past ↦ absurd (false≢true (sym (number_past r path n past) ∙ leaf)) | inr most ↦ most ],
)

pub omissions_many : (r : RefuterView) (proof : ProofView) → r.earlier ≡ earlier_tuples r.model proof → length r.earlier ≡ length proof.omissions
omissions_many r proof are =
    ap (λ (rows : List (List (Option ℕ))). length rows) are ∙ length-map proof.omissions (λ (one : Omission). cells_of (length r.model.params) one.tuple)

pub omission_has : (r : RefuterView) (proof : ProofView) (path : List (Option ℕ)) (p : ℕ) (why : List (Option ℕ)) (n i : ℕ) (d : Omission)
    → r.earlier ≡ earlier_tuples r.model proof → length path ≡ length r.model.params → n ≡ i + 1 → i < length proof.omissions
    → ((q : ℕ) → q ≢ p → is_assigned (cells_of (length path) (get_or proof.omissions i d).tuple) q ≡ true → get_or why q None ≡ get_or path q None)
    → HasLeafOf r path p why (ByOmission n)
omission_has r proof path p why n i d are long next within values other cited q away given =
    values q away (ap (λ (row : List (Option ℕ)). is_assigned row q) (sym same) ∙ given)
  where
    listed : i < length (earlier_tuples r.model proof)
    listed = omega (arith, within, length-map proof.omissions (λ (one : Omission). cells_of (length r.model.params) one.tuple))

    at : slice_get (earlier_tuples r.model proof) i ≡ Some other
    at = ap (λ (rows : List (List (Option ℕ))). slice_get rows i) (sym are) ∙ ap (earlier_tuple r.earlier) (sym (next ∙ add-one i)) ∙ cited

    same : other ≡ cells_of (length path) (get_or proof.omissions i d).tuple
    same =
        same_Some other (get_or (earlier_tuples r.model proof) i []) (sym at ∙ slice_get-get_or (earlier_tuples r.model proof) i [] listed)
        ∙ get_or-map (λ (one : Omission). cells_of (length r.model.params) one.tuple) proof.omissions i d [] within
        ∙ ap (λ (count : ℕ). cells_of count (get_or proof.omissions i d).tuple) (sym long)

-- so it is the first on each part of the path that has the reason
pub leaf_between : (r : RefuterView) (why path : List (Option ℕ)) (p v : ℕ) (token : Token) → IsSound r.model → IsPath r path → p < length r.model.params
    → HasLeafOf r path p why token → IsFirstLeaf r (with_value path p v) token → IsLeafBetween r why path p v token
leaf_between r why path p v token sound on within has is short kept part =
    first_leaf_part r (with_value short p v) (with_value path p v) token (longer_with short path p v part.long part.same) is
    (leaf_kept r why short path p v token sound on within kept part has is.possible)
