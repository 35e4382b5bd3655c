-- Proof files are read back, and each has one text.
use Rattle.std.proofs.Common.{◌≡◌, ℕ, ◌+◌, ◌<◌, false, List, [], ◌∷◌, ◌++◌, flat_map, length, Option, Some, None, Result}
use Rattle.std.proofs.Common.{Ok, Err, All, ◌⊎◌, inl, inr, ◌∙◌, sym, ap, subst, refl, arith, append_assoc, eqb-true}
use Rattle.std.specs.Prelude.{◌==◌, codes, bytes_eq, option_and_then}
use Rattle.std.specs.Option.{option_zip}
use Rattle.std.specs.List.{join_with_byte, slice_split, before_first, after_first}
use Rattle.std.proofs.lemmas.Bool.{cases_Bool}
use Rattle.std.proofs.lemmas.Fmt.{decimal_digit}
use Rattle.std.proofs.lemmas.Slice.Eq.{bytes_eq-Decides}
use Rattle.std.proofs.lemmas.List.Elements.{All-from_recursion}
use Rattle.std.proofs.lemmas.List.Splits.{slice_split_at, join_with_byte-slice_split}
use Rattle.cov_model.specs.believed.Sound.{ModelView, IsSound}
use Rattle.definitions.specs.believed.Refutation.{Token}
use Rattle.definitions.specs.believed.ProofText.{Omission, omission_line, format_line, proof_text, read_each, read_pair, read_token, proper, is_colon_word}
use Rattle.definitions.specs.believed.ProofText.{read_omission_words, read_omission, before_lines, read_lines, with_format, read_pieces, omissions_of}
use Rattle.definitions.specs.Laws.{IsOmissionOf, ProofsReadBack, ProofsHaveOneText}
use Rattle.definitions.proofs.Members.{Has, all_members, member_of_all}
use Rattle.definitions.proofs.ProofLines.{words_of, line_of, line_lacks, omission_reads, words_spell}

-- a line that is read is the omission's
record IsOmissionLine (m : ModelView) (format : ℕ) (line : List ℕ) (omission : Omission) : Type 0 where
  pub line_is : line ≡ line_of omission
  pub is : IsOmissionOf m format omission

omission_words : (m : ModelView) (format : ℕ) (words : List (List ℕ)) (omission : Omission) → IsSound m → read_omission_words m format words ≡ Some omission
    → (words ≡ words_of omission) × IsOmissionOf m format omission
omission_words m format [] omission sound given = cc
omission_words m format (word ∷ words) omission sound given =
    elim (cases_Bool (bytes_eq word (codes "omit"))) [
      | inl first ↦
          let same : word ≡ codes "omit" = (bytes_eq-Decides word (codes "omit")).0 first in
          let rest = by_parts (read_each (read_pair m) (before_first is_colon_word words))
          (read_each (read_token m format) (after_first is_colon_word words)) refl refl (rw first at given) in
          (ap (λ w. w ∷ words) same ∙ rest.0, rest.1)
      | inr other ↦ nothing (rw other at given)
    ]
  where
    nothing : None ≡ Some omission → (word ∷ words ≡ words_of omission) × IsOmissionOf m format omission
    nothing given = cc

    by_parts : (pairs : Option (List (ℕ × ℕ))) (tokens : Option (List Token)) → read_each (read_pair m) (before_first is_colon_word words) ≡ pairs
        → read_each (read_token m format) (after_first is_colon_word words) ≡ tokens → option_and_then proper (option_zip pairs tokens) ≡ Some omission
        → (codes "omit" ∷ words ≡ words_of omission) × IsOmissionOf m format omission
    by_parts None tokens first second given = cc
    by_parts (Some pairs) None first second given = cc
    by_parts (Some pairs) (Some tokens) first second given = words_spell m format words pairs tokens omission sound first second given

omission_spells : (m : ModelView) (format : ℕ) (line : List ℕ) (omission : Omission) → IsSound m → read_omission m format line ≡ Some omission
    → IsOmissionLine m format line omission
omission_spells m format line omission sound given =
    let spelled = omission_words m format (slice_split (λ b. b == 32) line) omission sound given in
    record { line_is = sym (join_with_byte-slice_split 32 line) ∙ ap (join_with_byte 32) spelled.0; is = spelled.1 }

-- the lines of a proof, and what stands behind the last one
abbrev pieces_of : List Omission → List (List ℕ)
pieces_of [] = [] ∷ []
pieces_of (omission ∷ omissions) = line_of omission ∷ pieces_of omissions

split_lines : (m : ModelView) (format : ℕ) (omissions : List Omission) → IsSound m
    → ((omission : Omission) → Has omissions omission → IsOmissionOf m format omission)
    → slice_split (λ b. b == 10) (flat_map omission_line omissions) ≡ pieces_of omissions
split_lines m format [] sound are = refl
split_lines m format (omission ∷ omissions) sound are =
    ap (slice_split (λ b. b == 10)) (append_assoc (line_of omission) (10 ∷ []) (flat_map omission_line omissions))
    ∙ slice_split_at (λ b. b == 10) (line_of omission) 10 (flat_map omission_line omissions) (line_lacks m format omission sound (are omission (inl refl))) refl
    ∙ ap (λ rest. line_of omission ∷ rest) (split_lines m format omissions sound (λ other has. are other (inr has)))

lines_read : (m : ModelView) (format n : ℕ) (omissions : List Omission) → IsSound m
    → ((omission : Omission) → Has omissions omission → IsOmissionOf m format omission)
    → read_lines m format n (pieces_of omissions) ≡ Ok omissions
lines_read m format n [] sound are = refl
lines_read m format n (omission ∷ []) sound are = ap (λ o. before_lines n o (Ok [])) (omission_reads m format omission sound (are omission (inl refl)))
lines_read m format n (omission ∷ next ∷ omissions) sound are =
    ap (λ o. before_lines n o (read_lines m format (n + 1) (pieces_of (next ∷ omissions)))) (omission_reads m format omission sound (are omission (inl refl)))
    ∙ ap (before_lines n (Some omission)) (lines_read m format (n + 1) (next ∷ omissions) sound (λ other has. are other (inr has)))

-- the first line
first_lacks : (format : ℕ) → (format ≡ 1) ⊎ (format ≡ 2) → All (λ b. (b == 10) ≡ false) (codes "pict-proof " ++ (48 + format) ∷ [])
first_lacks format (inl one) =
    subst (λ f. All (λ b. (b == 10) ≡ false) (codes "pict-proof " ++ (48 + f) ∷ [])) (sym one)
    (All-from_recursion (λ b. (b == 10) ≡ false) (codes "pict-proof 1") (refl, (refl, (refl, (refl, (refl, (refl, (refl, (refl, (refl, (refl, (refl, (refl, tt)))))))))))))
first_lacks format (inr two) =
    subst (λ f. All (λ b. (b == 10) ≡ false) (codes "pict-proof " ++ (48 + f) ∷ [])) (sym two)
    (All-from_recursion (λ b. (b == 10) ≡ false) (codes "pict-proof 2") (refl, (refl, (refl, (refl, (refl, (refl, (refl, (refl, (refl, (refl, (refl, (refl, tt)))))))))))))

format_line_is : (format : ℕ) → (format ≡ 1) ⊎ (format ≡ 2) → format_line format ≡ (codes "pict-proof " ++ (48 + format) ∷ []) ++ 10 ∷ []
format_line_is format (inl one) = ap (λ text. codes "pict-proof " ++ text ++ 10 ∷ []) (decimal_digit format (omega (arith, one)))
format_line_is format (inr two) = ap (λ text. codes "pict-proof " ++ text ++ 10 ∷ []) (decimal_digit format (omega (arith, two)))

pieces_read : (m : ModelView) (format : ℕ) (omissions : List Omission) → (format ≡ 1) ⊎ (format ≡ 2)
    → read_pieces m ((codes "pict-proof " ++ (48 + format) ∷ []) ∷ pieces_of omissions) ≡ with_format format (read_lines m format 2 (pieces_of omissions))
pieces_read m format [] (inl one) =
    subst (λ f. read_pieces m ((codes "pict-proof " ++ (48 + f) ∷ []) ∷ pieces_of []) ≡ with_format f (read_lines m f 2 (pieces_of []))) (sym one) refl
pieces_read m format [] (inr two) =
    subst (λ f. read_pieces m ((codes "pict-proof " ++ (48 + f) ∷ []) ∷ pieces_of []) ≡ with_format f (read_lines m f 2 (pieces_of []))) (sym two) refl
pieces_read m format (omission ∷ omissions) (inl one) =
    subst (λ f. read_pieces m ((codes "pict-proof " ++ (48 + f) ∷ []) ∷ pieces_of (omission ∷ omissions))
    ≡ with_format f (read_lines m f 2 (pieces_of (omission ∷ omissions)))) (sym one) refl
pieces_read m format (omission ∷ omissions) (inr two) =
    subst (λ f. read_pieces m ((codes "pict-proof " ++ (48 + f) ∷ []) ∷ pieces_of (omission ∷ omissions))
    ≡ with_format f (read_lines m f 2 (pieces_of (omission ∷ omissions)))) (sym two) refl

pub proofs_read_back : ProofsReadBack
proofs_read_back m format omissions sound known are =
    let each : (omission : Omission) → Has omissions omission → IsOmissionOf m format omission = λ omission has. member_of_all
    (IsOmissionOf m format) omissions omission are has in
    let head = codes "pict-proof " ++ (48 + format) ∷ [] in
    ap (λ line. omissions_of m (line ++ flat_map omission_line omissions)) (format_line_is format known)
    ∙ ap (omissions_of m) (append_assoc head (10 ∷ []) (flat_map omission_line omissions))
    ∙ ap (read_pieces m) (slice_split_at (λ b. b == 10) head 10 (flat_map omission_line omissions) (first_lacks format known) refl
    ∙ ap (λ rest. head ∷ rest) (split_lines m format omissions sound each))
    ∙ pieces_read m format omissions known
    ∙ ap (with_format format) (lines_read m format 2 omissions sound each)

-- the other way round
record AreLines (m : ModelView) (format : ℕ) (pieces : List (List ℕ)) (omissions : List Omission) : Type 0 where
  pub text_is : join_with_byte 10 pieces ≡ flat_map omission_line omissions
  pub are : (omission : Omission) → Has omissions omission → IsOmissionOf m format omission

lines_spell : (m : ModelView) (format n : ℕ) (pieces : List (List ℕ)) (omissions : List Omission) → IsSound m → 0 < length pieces
    → read_lines m format n pieces ≡ Ok omissions
    → AreLines m format pieces omissions
lines_spell m format n [] omissions sound some given = absurd (omega arith)
lines_spell m format n (rest ∷ []) omissions sound some given =
    elim (cases_Bool (length rest == 0)) [ inl empty ↦ ended rest (eqb-true (length rest) 0 empty) (rw empty at given) | inr left ↦ broken (rw left at given) ]
  where
    ended : (rest : List ℕ) → length rest ≡ 0 → ◌≡◌ {A = Result (List Omission) ℕ} (Ok []) (Ok omissions) → AreLines m format (rest ∷ []) omissions
    ended [] empty given =
        let same : [] ≡ omissions = cc in
        subst (AreLines m format ([] ∷ [])) same (record { text_is = refl; are = λ omission has. absurd has })
    ended (b ∷ rest) empty given = absurd (omega (arith, empty))

    broken : ◌≡◌ {A = Result (List Omission) ℕ} (Err n) (Ok omissions) → AreLines m format (rest ∷ []) omissions
    broken given = cc
lines_spell m format n (line ∷ next ∷ lines) omissions sound some given =
    by_line (read_omission m format line) (read_lines m format (n + 1) (next ∷ lines)) refl refl given
    (λ later read. lines_spell m format (n + 1) (next ∷ lines) later sound (omega arith) read)
  where
    by_line : (o : Option Omission) (rest : Result (List Omission) ℕ) → read_omission m format line ≡ o → read_lines m format (n + 1) (next ∷ lines) ≡ rest
        → before_lines n o rest ≡ Ok omissions
        → ((later : List Omission) → read_lines m format (n + 1) (next ∷ lines) ≡ Ok later → AreLines m format (next ∷ lines) later)
        → AreLines m format (line ∷ next ∷ lines) omissions
    by_line None rest here there given spells = cc
    by_line (Some omission) (Err bad) here there given spells = cc
    by_line (Some omission) (Ok later) here there given spells =
        let same : omission ∷ later ≡ omissions = cc in
        let own = omission_spells m format line omission sound here in
        let behind = spells later there in
        subst (AreLines m format (line ∷ next ∷ lines)) same (record {
          text_is = ap (λ text. text ++ 10 ∷ join_with_byte 10 (next ∷ lines)) own.line_is ∙ ap (λ text. line_of omission ++ 10 ∷ text) behind.text_is
              ∙ sym (append_assoc (line_of omission) (10 ∷ []) (flat_map omission_line later));
          are = λ other has. elim has [ inl is ↦ subst (IsOmissionOf m format) is own.is | inr in_later ↦ behind.are other in_later ];
        })

record IsText (m : ModelView) (pieces : List (List ℕ)) (format : ℕ) (omissions : List Omission) : Type 0 where
  pub text_is : join_with_byte 10 pieces ≡ proof_text format omissions
  pub are : (omission : Omission) → Has omissions omission → IsOmissionOf m format omission

same_ok : (a b : ℕ × List Omission) → ◌≡◌ {A = Result (ℕ × List Omission) ℕ} (Ok a) (Ok b) → a ≡ b
same_ok a b same = cc

-- behind a first line of the format
behind_first : (m : ModelView) (found : ℕ) (line next : List ℕ) (lines : List (List ℕ)) (format : ℕ) (omissions : List Omission) → IsSound m
    → line ++ 10 ∷ [] ≡ format_line found
    → with_format found (read_lines m found 2 (next ∷ lines)) ≡ Ok (format, omissions) → IsText m (line ∷ next ∷ lines) format omissions
behind_first m found line next lines format omissions sound first given = by_lines (read_lines m found 2 (next ∷ lines)) refl given
  where
    by_lines : (rest : Result (List Omission) ℕ) → read_lines m found 2 (next ∷ lines) ≡ rest → with_format found rest ≡ Ok (format, omissions)
        → IsText m (line ∷ next ∷ lines) format omissions
    by_lines (Err bad) is given = cc
    by_lines (Ok later) is given =
        let both = same_ok (found, later) (format, omissions) given in
        let same_format : found ≡ format = ap (λ (p : ℕ × List Omission). p.0) both in
        let same : later ≡ omissions = ap (λ (p : ℕ × List Omission). p.1) both in
        let behind = lines_spell m found 2 (next ∷ lines) later sound (omega arith) is in
        subst (λ f. IsText m (line ∷ next ∷ lines) f omissions) same_format (subst (IsText m (line ∷ next ∷ lines) found) same (record {
          text_is = sym (append_assoc line (10 ∷ []) (join_with_byte 10 (next ∷ lines))) ∙ ap (λ text. text ++ join_with_byte 10 (next ∷ lines)) first
              ∙ ap (λ text. format_line found ++ text) behind.text_is;
          are = behind.are;
        }))

pieces_spell : (m : ModelView) (pieces : List (List ℕ)) (format : ℕ) (omissions : List Omission) → IsSound m → read_pieces m pieces ≡ Ok (format, omissions)
    → IsText m pieces format omissions
pieces_spell m [] format omissions sound given = cc
pieces_spell m (rest ∷ []) format omissions sound given = cc
pieces_spell m (line ∷ next ∷ lines) format omissions sound given =
    elim (cases_Bool (bytes_eq line (codes "pict-proof 1"))) [
      | inl first ↦ behind_first m 1 line next lines format omissions sound (ended 1 (inl refl) ((bytes_eq-Decides line (codes "pict-proof 1")).0 first)) (rw first at given)
      | inr other ↦ elim (cases_Bool (bytes_eq line (codes "pict-proof 2"))) [
        | inl second ↦ behind_first m 2 line next lines format omissions sound (ended 2 (inr refl) ((bytes_eq-Decides line (codes "pict-proof 2")).0 second)) (rw (other, second) at given)
        | inr neither ↦ nothing (rw (other, neither) at given)
      ]
    ]
  where
    ended : (found : ℕ) → (found ≡ 1) ⊎ (found ≡ 2) → line ≡ codes "pict-proof " ++ (48 + found) ∷ [] → line ++ 10 ∷ [] ≡ format_line found
    ended found known is = ap (λ text. text ++ 10 ∷ []) is ∙ sym (format_line_is found known)

    nothing : ◌≡◌ {A = Result (ℕ × List Omission) ℕ} (Err 1) (Ok (format, omissions)) → IsText m (line ∷ next ∷ lines) format omissions
    nothing given = cc

pub proofs_have_one_text : ProofsHaveOneText
proofs_have_one_text m bytes format omissions sound given =
    let spelled = pieces_spell m (slice_split (λ b. b == 10) bytes) format omissions sound given in
    (sym (join_with_byte-slice_split 10 bytes) ∙ spelled.text_is, all_members (IsOmissionOf m format) omissions spelled.are)
