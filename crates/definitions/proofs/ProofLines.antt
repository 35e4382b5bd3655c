-- The lines of a proof file are read back.
use Rattle.std.proofs.Common.{◌≡◌, ℕ, ◌<◌, ◌≤◌, Bool, true, false, ◌&&◌, cond, List, [], ◌∷◌, ◌++◌, map, length, get_or}
use Rattle.std.proofs.Common.{Option, Some, None, All, inl, inr, ◌∙◌, ap, subst, refl, arith, lt-ltb, ne_eqb, length-append}
use Rattle.std.specs.Prelude.{◌==◌, nat_lt, decimal, codes, option_map, option_and_then}
use Rattle.std.specs.Option.{option_zip}
use Rattle.std.specs.List.{join_with_byte, before_first, after_first}
use Rattle.std.proofs.lemmas.Bool.{false_from_ne_true, and_parts, and_from, ltb-true}
use Rattle.std.proofs.lemmas.Slice.Eq.{bytes_eq-Decides}
use Rattle.std.proofs.lemmas.List.Elements.{All-nil, All-cons, All-append, All-from_recursion, All-head, All-tail}
use Rattle.std.proofs.lemmas.List.{length-map}
use Rattle.cov_model.specs.believed.Sound.{ModelView, IsSound}
use Rattle.cov_model.specs.Tuples.{IsRising}
use Rattle.definitions.specs.believed.Pairs.{pair_text}
use Rattle.definitions.specs.believed.Refutation.{Token}
use Rattle.definitions.specs.believed.ProofText.{Omission, token_text, read_each, read_pair, read_token, is_rising, proper, is_colon_word, read_omission_words, read_omission}
use Rattle.definitions.specs.Laws.{IsTokenOf, IsOmissionOf}
use Rattle.definitions.proofs.Members.{Has, of_map, all_members, member_of_all}
use Rattle.definitions.proofs.Cells.{split_joined_by}
use Rattle.definitions.proofs.Spelling.{Lacks, parts_at, comes_from}
use Rattle.definitions.proofs.ProofWords.{IsPair, pair_reads, pair_spells, pair_lacks, token_reads, token_spells, token_lacks}

-- what is read of each item
pub each_reads : {X Y : Type 0} (read : X → Option Y) (text : Y → X) (ys : List Y) → ((y : Y) → Has ys y → read (text y) ≡ Some y)
    → read_each read (map text ys) ≡ Some ys
each_reads read text [] reads = refl
each_reads read text (y ∷ ys) reads =
    ap (λ o. option_map (λ both. both.0 ∷ both.1) (option_zip o (read_each read (map text ys)))) (reads y (inl refl))
    ∙ ap (λ o. option_map (λ both. both.0 ∷ both.1) (option_zip (Some y) o)) (each_reads read text ys (λ z has. reads z (inr has)))

pub record AreTexts {X Y : Type 0} (text : Y → X) (P : Y → Type 0) (items : List X) (ys : List Y) : Type 0 where
  pub items_are : items ≡ map text ys
  pub are : (y : Y) → Has ys y → P y

pub each_spells : {X Y : Type 0} (read : X → Option Y) (text : Y → X) (P : Y → Type 0) (items : List X) (ys : List Y)
    → ((x : X) (y : Y) → read x ≡ Some y → (x ≡ text y) × P y) → read_each read items ≡ Some ys → AreTexts text P items ys
each_spells read text P [] ys spells given =
    let none : [] ≡ ys = cc in
    subst (AreTexts text P []) none (record { items_are = refl; are = λ y has. absurd has })
each_spells {X} {Y} read text P (x ∷ items) ys spells given =
    first (read x) (read_each read items) refl refl given (λ zs. each_spells read text P items zs spells)
  where
    both_are : (y : Y) (zs : List Y) → read x ≡ Some y → AreTexts text P items zs → AreTexts text P (x ∷ items) (y ∷ zs)
    both_are y zs here later = record { items_are = ap (λ i. i ∷ items) (spells x y here).0 ∙ ap (λ rest. text y ∷ rest) later.items_are; are = each }
      where
        each : (w : Y) → Has (y ∷ zs) w → P w
        each w (inl same) = subst P same (spells x y here).1
        each w (inr has) = later.are w has

    first : (o : Option Y) (rest : Option (List Y)) → read x ≡ o → read_each read items ≡ rest
        → option_map (λ both. both.0 ∷ both.1) (option_zip o rest) ≡ Some ys
        → ((zs : List Y) → read_each read items ≡ Some zs → AreTexts text P items zs) → AreTexts text P (x ∷ items) ys
    first None rest here there given later = cc
    first (Some y) None here there given later = cc
    first (Some y) (Some zs) here there given later =
        let same : y ∷ zs ≡ ys = cc in subst (AreTexts text P (x ∷ items)) same (both_are y zs here (later zs there))

-- rising pairs, as a test
rising_passes : (pairs : List (ℕ × ℕ)) → IsRising pairs → is_rising pairs ≡ true
rising_passes [] rises = refl
rising_passes (a ∷ []) rises = refl
rising_passes (a ∷ b ∷ pairs) rises = and_from (nat_lt a.0 b.0) (is_rising (b ∷ pairs)) (lt-ltb a.0 b.0 rises.0) (rising_passes (b ∷ pairs) rises.1)

pub passes_rising : (pairs : List (ℕ × ℕ)) → is_rising pairs ≡ true → IsRising pairs
passes_rising [] passes = tt
passes_rising (a ∷ []) passes = tt
passes_rising (a ∷ b ∷ pairs) passes =
    let parts = and_parts (nat_lt a.0 b.0) (is_rising (b ∷ pairs)) passes in
    (ltb-true a.0 b.0 parts.0, passes_rising (b ∷ pairs) parts.1)

-- the words of an omission's line, and the line without its line feed
abbrev pub words_of : Omission → List (List ℕ)
words_of omission = codes "omit" ∷ map pair_text omission.tuple ++ codes ":" ∷ map token_text omission.tree

abbrev pub line_of : Omission → List ℕ
line_of omission = join_with_byte 32 (words_of omission)

word_lacks : (m : ModelView) (format c : ℕ) (omission : Omission) → IsSound m → IsOmissionOf m format omission → c ≤ 47 → All (Lacks c) (words_of omission)
word_lacks m format c omission sound is low =
    All-cons (Lacks c) (codes "omit") (map pair_text omission.tuple ++ codes ":" ∷ map token_text omission.tree)
    (All-from_recursion (λ b. (b == c) ≡ false) (codes "omit") (high 111 (omega arith), (high 109 (omega arith), (high 105 (omega arith), (high 116 (omega arith), tt)))))
    (All-append (Lacks c) (map pair_text omission.tuple) (codes ":" ∷ map token_text omission.tree)
    (all_members (Lacks c) (map pair_text omission.tuple) (λ word has.
    let pair = of_map pair_text omission.tuple word has in
    subst (Lacks c) pair.2
    (pair_lacks m c pair.0 sound (member_of_all (IsPair m) omission.tuple pair.0 is.exist pair.1) (λ r. absurd (omega (arith, r.0, low))) (high 61 (omega arith)))))
    (All-cons (Lacks c) (codes ":") (map token_text omission.tree)
    (All-from_recursion (λ b. (b == c) ≡ false) (codes ":") (high 58 (omega arith), tt))
    (all_members (Lacks c) (map token_text omission.tree) (λ word has.
    let token = of_map token_text omission.tree word has in
    subst (Lacks c) token.2 (token_lacks m format c token.0 sound (member_of_all (IsTokenOf m format) omission.tree token.0 is.tokens token.1) low)))))
  where
    high : (b : ℕ) → 48 ≤ b → (b == c) ≡ false
    high b least = ne_eqb b c (λ e. omega (arith, least, low, e))

-- joined words lack what each of them lacks
joined_lacks : (c d : ℕ) (words : List (List ℕ)) → (d == c) ≡ false → All (Lacks c) words → Lacks c (join_with_byte d words)
joined_lacks c d [] apart lack = All-nil (λ b. (b == c) ≡ false)
joined_lacks c d (word ∷ []) apart lack = All-head (Lacks c) word [] lack
joined_lacks c d (word ∷ next ∷ words) apart lack =
    All-append (λ b. (b == c) ≡ false) word (d ∷ join_with_byte d (next ∷ words)) (All-head (Lacks c) word (next ∷ words) lack)
    (All-cons (λ b. (b == c) ≡ false) d (join_with_byte d (next ∷ words)) apart (joined_lacks c d (next ∷ words) apart (All-tail (Lacks c) word (next ∷ words) lack)))

pub line_lacks : (m : ModelView) (format : ℕ) (omission : Omission) → IsSound m → IsOmissionOf m format omission → Lacks 10 (line_of omission)
line_lacks m format omission sound is = joined_lacks 10 32 (words_of omission) refl (word_lacks m format 10 omission sound is (omega arith))

-- no pair is the colon
pair_no_colon : (pair : ℕ × ℕ) → is_colon_word (pair_text pair) ≡ false
pair_no_colon pair =
    false_from_ne_true (is_colon_word (pair_text pair)) (λ equal.
    let same : pair_text pair ≡ codes ":" = (bytes_eq-Decides (pair_text pair) (codes ":")).0 equal in
    differs (decimal pair.0) (decimal pair.1) same)
  where
    differs : (a b : List ℕ) → a ++ 61 ∷ b ≡ 58 ∷ [] → ⊥
    differs [] b same = absurd (omega (arith, ap (λ (bytes : List ℕ). get_or bytes 0 0) same))
    differs (x ∷ a) b same = absurd (omega (arith, ap length same, length-append a (61 ∷ b)))

-- an omission is read back
proper_gives : (m : ModelView) (format : ℕ) (omission : Omission) → IsOmissionOf m format omission → proper (omission.tuple, omission.tree) ≡ Some omission
proper_gives m format omission is =
    let front = and_from (nat_lt 0 (length omission.tuple)) (is_rising omission.tuple) (lt-ltb 0 (length omission.tuple) is.some_tuple)
    (rising_passes omission.tuple is.rising) in
    let whole = and_from (nat_lt 0 (length omission.tuple) && is_rising omission.tuple) (nat_lt 0 (length omission.tree)) front
    (lt-ltb 0 (length omission.tree) is.some_tree) in
    ap (λ b. cond b (Some omission) None) whole

pub omission_reads : (m : ModelView) (format : ℕ) (omission : Omission) → IsSound m → IsOmissionOf m format omission
    → read_omission m format (line_of omission) ≡ Some omission
omission_reads m format omission sound is =
    let words = map pair_text omission.tuple ++ codes ":" ∷ map token_text omission.tree in
    let parts = parts_at is_colon_word (map pair_text omission.tuple) (codes ":") (map token_text omission.tree)
    (all_members (λ word. is_colon_word word ≡ false) (map pair_text omission.tuple) (λ word has.
    let pair = of_map pair_text omission.tuple word has in
    subst (λ w. is_colon_word w ≡ false) pair.2 (pair_no_colon pair.0))) refl in
    let pairs : read_each (read_pair m) (before_first is_colon_word words) ≡ Some omission.tuple =
    ap (read_each (read_pair m)) parts.before_is
    ∙ each_reads (read_pair m) pair_text omission.tuple (λ pair has. pair_reads m pair sound (member_of_all (IsPair m) omission.tuple pair is.exist has)) in
    let tokens : read_each (read_token m format) (after_first is_colon_word words) ≡ Some omission.tree =
    ap (read_each (read_token m format)) parts.after_is
    ∙ each_reads (read_token m format) token_text omission.tree
    (λ token has. token_reads m format token sound (member_of_all (IsTokenOf m format) omission.tree token is.tokens has)) in
    ap (read_omission_words m format) (split_joined_by 32 (words_of omission) (omega arith) (word_lacks m format 32 omission sound is (omega arith)))
    ∙ ap (λ o. option_and_then proper (option_zip o (read_each (read_token m format) (after_first is_colon_word words)))) pairs
    ∙ ap (λ o. option_and_then proper (option_zip (Some omission.tuple) o)) tokens
    ∙ proper_gives m format omission is

-- and what is read is the omission
abbrev omission_from : List (ℕ × ℕ) → List Token → Omission
omission_from pairs tokens = record { tuple = pairs; tree = tokens }

pub words_spell : (m : ModelView) (format : ℕ) (words : List (List ℕ)) (pairs : List (ℕ × ℕ)) (tokens : List Token) (omission : Omission) → IsSound m
    → read_each (read_pair m) (before_first is_colon_word words) ≡ Some pairs → read_each (read_token m format) (after_first is_colon_word words) ≡ Some tokens
    → proper (pairs, tokens) ≡ Some omission → (codes "omit" ∷ words ≡ words_of omission) × IsOmissionOf m format omission
words_spell m format words pairs tokens omission sound first second given =
    by_test (nat_lt 0 (length pairs) && is_rising pairs && nat_lt 0 (length tokens)) refl given
  where
    pairs_are : AreTexts pair_text (IsPair m) (before_first is_colon_word words) pairs
    pairs_are = each_spells (read_pair m) pair_text (IsPair m) (before_first is_colon_word words) pairs
        (λ text pair read. let spelled = pair_spells m text pair sound read in (spelled.text_is, spelled.is)) first

    tokens_are : AreTexts token_text (IsTokenOf m format) (after_first is_colon_word words) tokens
    tokens_are = each_spells (read_token m format) token_text (IsTokenOf m format) (after_first is_colon_word words) tokens
        (λ text token read. let spelled = token_spells m format text token sound read in (spelled.text_is, spelled.is)) second

    made : 0 < length tokens → codes "omit" ∷ words ≡ codes "omit" ∷ map pair_text pairs ++ codes ":" ∷ map token_text tokens
    made some =
        let whole = comes_from is_colon_word words [] (omega (arith, ap length tokens_are.items_are, some, length-map tokens token_text)) in
        let colon : whole.parting ≡ codes ":" = (bytes_eq-Decides whole.parting (codes ":")).0 whole.passes in
        ap (λ ws. codes "omit" ∷ ws) (whole.whole_is ∙ ap (λ ws. ws ++ whole.parting ∷ after_first is_colon_word words) pairs_are.items_are
        ∙ ap (λ w. map pair_text pairs ++ w ∷ after_first is_colon_word words) colon ∙ ap (λ ws. map pair_text pairs ++ codes ":" ∷ ws) tokens_are.items_are)

    by_test : (b : Bool) → (nat_lt 0 (length pairs) && is_rising pairs && nat_lt 0 (length tokens)) ≡ b
        → cond b (Some (omission_from pairs tokens)) None ≡ Some omission
        → (codes "omit" ∷ words ≡ words_of omission) × IsOmissionOf m format omission
    by_test false is given = cc
    by_test true is given =
        let whole = and_parts (nat_lt 0 (length pairs) && is_rising pairs) (nat_lt 0 (length tokens)) is in
        let front = and_parts (nat_lt 0 (length pairs)) (is_rising pairs) whole.0 in
        let some = ltb-true 0 (length tokens) whole.1 in
        let same : omission_from pairs tokens ≡ omission = cc in
        subst (λ o. (codes "omit" ∷ words ≡ words_of o) × IsOmissionOf m format o) same (
          made some,
          record {
            some_tuple = ltb-true 0 (length pairs) front.0;
            some_tree = some;
            rising = passes_rising pairs front.1;
            exist = all_members (IsPair m) pairs pairs_are.are;
            tokens = all_members (IsTokenOf m format) tokens tokens_are.are;
          },
        )
