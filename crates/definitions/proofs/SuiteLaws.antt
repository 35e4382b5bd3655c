-- The laws of the proof of a suite.
use Rattle.std.proofs.Common.{◌≡◌, ℕ, ◌^◌, ◌<◌, ◌≤◌, Bool, true, false, ◌&&◌, not, List, [], ◌∷◌, map, length}
use Rattle.std.proofs.Common.{Option, None, is_none, find, All, ◌⊎◌, inl, inr, ◌∙◌, sym, ap, subst, refl, arith}
use Rattle.std.specs.Prelude.{◌↔◌, AllPairs, Contains}
use Rattle.std.specs.Cmp.{IsEquivalence}
use Rattle.std.specs.List.{Any, list_any}
use Rattle.std.proofs.lemmas.Bool.{false≢true}
use Rattle.std.proofs.lemmas.List.{length-map}
use Rattle.std.proofs.lemmas.List.Folds.{list_any-from_Any}
use Rattle.std.proofs.lemmas.Map.Keys.{IsDistinct-from_apart}
use Rattle.std.proofs.lemmas.Map.Made.{length-le_from_is_member}
use Rattle.cov_model.specs.believed.Sound.{ModelView}
use Rattle.cov_model.specs.Tuples.{IsRising}
use Rattle.cov_model.specs.believed.Tuples.{cells_of}
use Rattle.cov_model.specs.believed.Valid.{is_valid, serves}
use Rattle.definitions.specs.declared.effort.Effort.{Effort}
use Rattle.definitions.specs.believed.Demand.{demanded_tuples}
use Rattle.definitions.specs.believed.Seeds.{is_same_row}
use Rattle.definitions.specs.believed.Growth.{growth}
use Rattle.definitions.specs.believed.Pairs.{pairs_of}
use Rattle.definitions.specs.believed.Refutation.{Token, refutes, are_eager}
use Rattle.definitions.specs.believed.ProofText.{Omission, omissions_of}
use Rattle.definitions.specs.believed.Figures.{is_served}
use Rattle.definitions.specs.believed.Covering.{IsUnserved}
use Rattle.definitions.specs.believed.Verdict.{Accepted, as_cells, listed, first_uncovered, by_row, by_proof, by_omission, by_tuple}
use Rattle.definitions.specs.Laws.{IsTokenOf, IsOmissionOf, IsGrownSuite}
use Rattle.definitions.specs.SuiteLaws.{IsSoundProof, SuiteProofsRefute, SuiteProofsAreOfModels, SuiteProofsReadBack, SuiteProofsList, SuitesServeOrRefute, SuiteProofsAreAccepted}
use Rattle.definitions.specs.believed.SuiteLaws.{IsRefutedIn}
use Rattle.definitions.proofs.Contained.{left}
use Rattle.definitions.proofs.Members.{Has, has_contained, contains_member, all_members, member_of_all, has_map, of_map, any_member, of_any, same_answer}
use Rattle.definitions.proofs.PartialRowLemmas.{same-refl, same-sym, same-trans}
use Rattle.definitions.proofs.Grown.{IsDemanded, IsOmitted, of_omitted}
use Rattle.definitions.proofs.PairLists.{cells_of-pairs, pairs_of-rise, pairs_of-within}
use Rattle.definitions.proofs.GrowthLaw.{growth_covers, suites_cover}
use Rattle.definitions.proofs.ProofWords.{IsPair}
use Rattle.definitions.proofs.ProofFiles.{proofs_read_back}
use Rattle.definitions.proofs.NamedPairs.{pair_exists, demanded_some}
use Rattle.definitions.proofs.TreeTokens.{eager_refute, member_has_tree, tokens_are, some_tokens}
use Rattle.value_text.proofs.ListLemmas.{nothing_found}

pub suite_proofs_refute : SuiteProofsRefute
suite_proofs_refute m pref seeds effort format bytes is =
    ap is_none (eager_refute m pref effort format [] 1 (as_cells m is.proof.omissions) is.proof.omitted.trees)

-- rows that are the same, as an equality of rows
same_row_laws : IsEquivalence is_same_row
same_row_laws = record {
  refl = same-refl;
  symm = same-sym;
  congr = λ a b c same. same_answer (is_same_row a c) (is_same_row b c) (λ first. same-trans b a c (same-sym b a ∙ same) first) (λ second. same-trans a b c same second);
}

-- growth omits no more tuples than are demanded
few_omitted : (m : ModelView) (pref : List (List ℕ)) (seeds : List (ℕ × List (Option ℕ))) → IsGrownSuite m pref seeds
    → length (growth m pref seeds).omitted ≤ length (demanded_tuples m)
few_omitted m pref seeds grown =
    let omitted = (growth m pref seeds).omitted in
    length-le_from_is_member same_row_laws omitted (demanded_tuples m) (IsDistinct-from_apart is_same_row omitted grown.once)
    (λ tuple among.
    let found = of_any (is_same_row tuple) omitted among in
    let demanded = member_of_all (Contains (demanded_tuples m)) omitted found.0 grown.demanded found.1 in
    any_member (is_same_row tuple) (demanded_tuples m) found.0 (has_contained (demanded_tuples m) found.0 demanded) found.2)

-- an omission as a partial row, and with its tokens
abbrev cells : ModelView → Omission → List (Option ℕ)
cells m omission = cells_of (length m.params) omission.tuple

abbrev with_tokens : ModelView → Omission → List (Option ℕ) × List Token
with_tokens m omission = (cells m omission, omission.tree)

-- the tuple of an omission is that of a partial row that growth omits
pub record IsOfOmitted (m : ModelView) (omission : Omission) : Type 0 where
  pub row : List (Option ℕ)
  pub is : IsOmitted m row
  pub tuple : omission.tuple ≡ pairs_of row

of_tuple : (m : ModelView) (pref : List (List ℕ)) (seeds : List (ℕ × List (Option ℕ))) (effort : Effort) (format : ℕ) (bytes : List ℕ)
    (is : IsSoundProof m pref seeds effort format bytes) (omission : Omission) → Has is.proof.omissions omission → IsOfOmitted m omission
of_tuple m pref seeds effort format bytes is omission has =
    let listed_one = subst (λ tuples. Has tuples omission.tuple) is.proof.omitted.tuples (has_map (λ o. o.tuple) is.proof.omissions omission has) in
    let found = of_map pairs_of (growth m pref seeds).omitted omission.tuple listed_one in
    record { row = found.0; is = of_omitted m pref seeds found.0 is.orders found.1; tuple = sym found.2 }

-- so the listed tuples are those that growth omits
given_again : (m : ModelView) (row : List (Option ℕ)) → IsOmitted m row → cells_of (length m.params) (pairs_of row) ≡ row
given_again m row is = cells_of-pairs (length m.params) row (pairs_of row) is.demanded.long refl

all_given_again : (m : ModelView) (rows : List (List (Option ℕ))) → ((row : List (Option ℕ)) → Has rows row → IsOmitted m row)
    → map (cells_of (length m.params)) (map pairs_of rows) ≡ rows
all_given_again m [] each = refl
all_given_again m (row ∷ rows) each =
    ap (λ first. first ∷ map (cells_of (length m.params)) (map pairs_of rows)) (given_again m row (each row (inl refl)))
    ∙ ap (λ rest. row ∷ rest) (all_given_again m rows (λ other has. each other (inr has)))

tuples_cells : (m : ModelView) (omissions : List Omission) → listed m omissions ≡ map (cells_of (length m.params)) (map (λ o. o.tuple) omissions)
tuples_cells m [] = refl
tuples_cells m (omission ∷ omissions) = ap (λ rest. cells_of (length m.params) omission.tuple ∷ rest) (tuples_cells m omissions)

listed_is : (m : ModelView) (pref : List (List ℕ)) (seeds : List (ℕ × List (Option ℕ))) (effort : Effort) (format : ℕ) (bytes : List ℕ)
    (is : IsSoundProof m pref seeds effort format bytes) → listed m is.proof.omissions ≡ (growth m pref seeds).omitted
listed_is m pref seeds effort format bytes is =
    tuples_cells m is.proof.omissions
    ∙ ap (map (cells_of (length m.params))) is.proof.omitted.tuples
    ∙ all_given_again m (growth m pref seeds).omitted (λ row. of_omitted m pref seeds row is.orders)

few_omissions : (m : ModelView) (pref : List (List ℕ)) (seeds : List (ℕ × List (Option ℕ))) (effort : Effort) (format : ℕ) (bytes : List ℕ)
    (is : IsSoundProof m pref seeds effort format bytes) → length (as_cells m is.proof.omissions) < 2 ^ 32
few_omissions m pref seeds effort format bytes is =
    let omissions = is.proof.omissions in
    omega (
      arith,
      length-map omissions (with_tokens m),
      length-map omissions (cells m),
      ap length (listed_is m pref seeds effort format bytes is),
      few_omitted m pref seeds (growth_covers m pref seeds is.sound is.orders),
      is.few,
    )

omission_is : (m : ModelView) (pref : List (List ℕ)) (seeds : List (ℕ × List (Option ℕ))) (effort : Effort) (format : ℕ) (bytes : List ℕ)
    (is : IsSoundProof m pref seeds effort format bytes) (omission : Omission) → Has is.proof.omissions omission → IsOmissionOf m format omission
omission_is m pref seeds effort format bytes is omission has =
    let omissions = is.proof.omissions in
    let tuple = cells m omission in
    let of = of_tuple m pref seeds effort format bytes is omission has in
    let demanded : IsDemanded m tuple = subst (IsDemanded m) (sym (ap (cells_of (length m.params)) of.tuple ∙ given_again m of.row of.is)) of.is.demanded in
    let own = member_has_tree m pref effort format (length (as_cells m omissions)) [] (as_cells m omissions) (with_tokens m omission) is.proof.omitted.trees (omega arith)
    (has_map (with_tokens m) omissions omission has) in
    let refuting = left (refutes m format own.earlier tuple omission.tree) (are_eager m format own.earlier tuple (tuple ∷ []) omission.tree) own.tree.eager in
    let rising = subst IsRising (sym of.tuple) (pairs_of-rise of.row) in
    record {
      some_tuple = demanded_some m omission.tuple is.sound demanded;
      some_tree = some_tokens m format own.earlier tuple omission.tree refuting;
      rising = rising;
      exist = all_members (IsPair m) omission.tuple (λ pair listed.
          let inside = pairs_of-within of.row pair (subst (λ pairs. Has pairs pair) of.tuple listed) in
          let within : pair.0 < length m.params = omega (arith, inside, of.is.demanded.long) in
          (within, pair_exists m omission.tuple pair rising demanded within listed));
      tokens = all_members (IsTokenOf m format) omission.tree (λ token listed.
          tokens_are m format own.earlier tuple (tuple ∷ []) omission.tree token is.sound
          (omega (arith, own.few, few_omissions m pref seeds effort format bytes is)) refuting listed);
    }

pub suite_proofs_are_of_models : SuiteProofsAreOfModels
suite_proofs_are_of_models m pref seeds effort format bytes is =
    all_members (IsOmissionOf m format) is.proof.omissions (omission_is m pref seeds effort format bytes is)

pub suite_proofs_read_back : SuiteProofsReadBack
suite_proofs_read_back m pref seeds effort format bytes is =
    ap (omissions_of m) is.proof.text
    ∙ proofs_read_back m format is.proof.omissions is.sound is.known (suite_proofs_are_of_models m pref seeds effort format bytes is)

-- the tuples that growth omits are the demanded ones that no row serves
omitted_unserved : (m : ModelView) (pref : List (List ℕ)) (seeds : List (ℕ × List (Option ℕ))) → IsGrownSuite m pref seeds
    → All (λ tuple. Contains (demanded_tuples m) tuple × IsUnserved m tuple) (growth m pref seeds).omitted
omitted_unserved m pref seeds grown =
    let omitted = (growth m pref seeds).omitted in
    all_members (λ tuple. Contains (demanded_tuples m) tuple × IsUnserved m tuple) omitted (λ tuple has.
    let demanded = member_of_all (Contains (demanded_tuples m)) omitted tuple grown.demanded has in
    let unserved = member_of_all (λ tuple. Contains omitted tuple ↔ IsUnserved m tuple) (demanded_tuples m) tuple grown.omitted
    (has_contained (demanded_tuples m) tuple demanded) in
    (demanded, unserved.0 (contains_member omitted tuple has)))

unserved_omitted : (m : ModelView) (pref : List (List ℕ)) (seeds : List (ℕ × List (Option ℕ))) → IsGrownSuite m pref seeds
    → All (λ tuple. IsUnserved m tuple → list_any (is_same_row tuple) (growth m pref seeds).omitted ≡ true) (demanded_tuples m)
unserved_omitted m pref seeds grown =
    let omitted = (growth m pref seeds).omitted in
    all_members (λ tuple. IsUnserved m tuple → list_any (is_same_row tuple) omitted ≡ true) (demanded_tuples m) (λ tuple has none.
    let omits = member_of_all (λ tuple. Contains omitted tuple ↔ IsUnserved m tuple) (demanded_tuples m) tuple grown.omitted has in
    any_member (is_same_row tuple) omitted tuple (has_contained omitted tuple (omits.1 none)) (same-refl tuple))

unserved_listed : (m : ModelView) (pref : List (List ℕ)) (seeds : List (ℕ × List (Option ℕ))) (effort : Effort) (format : ℕ) (bytes : List ℕ)
    (is : IsSoundProof m pref seeds effort format bytes)
    → All (λ tuple. IsUnserved m tuple → list_any (is_same_row tuple) (listed m is.proof.omissions) ≡ true) (demanded_tuples m)
unserved_listed m pref seeds effort format bytes is =
    subst (λ tuples. All (λ tuple. IsUnserved m tuple → list_any (is_same_row tuple) tuples ≡ true) (demanded_tuples m)) (sym (listed_is m pref seeds effort format bytes is))
    (unserved_omitted m pref seeds (growth_covers m pref seeds is.sound is.orders))

pub suite_proofs_list : SuiteProofsList
suite_proofs_list m pref seeds effort format bytes is =
    let grown = growth_covers m pref seeds is.sound is.orders in
    let same = sym (listed_is m pref seeds effort format bytes is) in
    record {
      omissions = is.proof.omissions;
      read = suite_proofs_read_back m pref seeds effort format bytes is;
      unserved = subst (All (λ tuple. Contains (demanded_tuples m) tuple × IsUnserved m tuple)) same (omitted_unserved m pref seeds grown);
      once = subst (AllPairs (λ a b. is_same_row a b ≡ false)) same grown.once;
      complete = unserved_listed m pref seeds effort format bytes is;
      refute = suite_proofs_refute m pref seeds effort format bytes is;
    }

pub suites_serve_or_refute : SuitesServeOrRefute
suites_serve_or_refute m pref seeds effort format bytes is =
    let rows = (growth m pref seeds).rows in
    let lists = suite_proofs_list m pref seeds effort format bytes is in
    let covers = suites_cover m pref seeds is.sound is.orders in
    all_members (λ tuple. Any (λ row. serves m row tuple ≡ true) rows ⊎ (IsUnserved m tuple × IsRefutedIn m format bytes tuple)) (demanded_tuples m)
    (λ tuple has. elim (member_of_all (λ tuple. Any (λ row. serves m row tuple ≡ true) rows ⊎ IsUnserved m tuple) (demanded_tuples m) tuple covers.served has) [
      | inl served ↦ inl served
      | inr none ↦ inr (
        none,
        record {
          omissions = lists.omissions;
          read = lists.read;
          refute = lists.refute;
          lists = member_of_all (λ tuple. IsUnserved m tuple → list_any (is_same_row tuple) (listed m lists.omissions) ≡ true) (demanded_tuples m) tuple lists.complete has none;
        },
      )
    ])

-- no line has a bad row
good_lines : (m : ModelView) (lines : List (ℕ × List (Option ℕ))) → All (λ row. is_valid m row ≡ true) (map (λ line. line.1) lines)
    → find (λ line. not (is_valid m line.1)) lines ≡ None
good_lines m lines valid =
    nothing_found (λ line. not (is_valid m line.1)) lines (all_members (λ line. not (is_valid m line.1) ≡ false) lines (λ line has.
    ap not (member_of_all (λ row. is_valid m row ≡ true) (map (λ line. line.1) lines) line.1 valid (has_map (λ line. line.1) lines line has))))

-- no demanded tuple is left
served_or_listed : (served among : Bool) → (served ≡ true) ⊎ (among ≡ true) → (not served && not among) ≡ false
served_or_listed true among either = refl
served_or_listed false among (inl served) = absurd (false≢true served)
served_or_listed false among (inr is) = ap not is

none_left : (m : ModelView) (rows : List (List (Option ℕ))) (omissions : List Omission)
    → All (λ tuple. Any (λ row. serves m row tuple ≡ true) rows ⊎ IsUnserved m tuple) (demanded_tuples m)
    → All (λ tuple. IsUnserved m tuple → list_any (is_same_row tuple) (listed m omissions) ≡ true) (demanded_tuples m)
    → first_uncovered m rows omissions ≡ None
none_left m rows omissions served complete =
    let left_over : List (Option ℕ) → Bool = λ tuple. not (is_served m rows tuple) && not (list_any (is_same_row tuple) (listed m omissions)) in
    nothing_found left_over (demanded_tuples m) (all_members (λ tuple. left_over tuple ≡ false) (demanded_tuples m) (λ tuple has.
    served_or_listed (is_served m rows tuple) (list_any (is_same_row tuple) (listed m omissions))
    (elim (member_of_all (λ tuple. Any (λ row. serves m row tuple ≡ true) rows ⊎ IsUnserved m tuple) (demanded_tuples m) tuple served has) [
      | inl some ↦ inl (list_any-from_Any (λ row. serves m row tuple) rows some)
      | inr none ↦ inr (member_of_all (λ tuple. IsUnserved m tuple → list_any (is_same_row tuple) (listed m omissions) ≡ true) (demanded_tuples m) tuple complete has none)
    ])))

pub suite_proofs_are_accepted : SuiteProofsAreAccepted
suite_proofs_are_accepted m pref seeds effort format bytes lines is same =
    let omissions = is.proof.omissions in
    let rows = map (λ line. line.1) lines in
    let covers = suites_cover m pref seeds is.sound is.orders in
    let valid = subst (All (λ row. is_valid m row ≡ true)) (sym same) covers.valid in
    let served = subst (λ rows. All (λ tuple. Any (λ row. serves m row tuple ≡ true) rows ⊎ IsUnserved m tuple) (demanded_tuples m)) (sym same) covers.served in
    ap (by_row m rows bytes) (good_lines m lines valid)
    ∙ ap (by_proof m rows) (suite_proofs_read_back m pref seeds effort format bytes is)
    ∙ ap (by_omission m rows omissions) (eager_refute m pref effort format [] 2 (as_cells m omissions) is.proof.omitted.trees)
    ∙ ap (by_tuple (length rows) (length omissions)) (none_left m rows omissions served (unserved_listed m pref seeds effort format bytes is))
    ∙ ap (λ count. Accepted count (length omissions)) (length-map lines (λ line. line.1))
