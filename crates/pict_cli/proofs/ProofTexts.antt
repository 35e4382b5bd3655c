-- The text of a proof, omission by omission.
use Rattle.std.proofs.Common.{◌≡◌, ℕ, ◌+◌, ◌^◌, ◌<◌, ◌≤◌, List, [], ◌∷◌, ◌++◌, map, length, get_or}
use Rattle.std.proofs.Common.{take, drop, ◌∙◌, sym, ap, arith, append_assoc, length-append}
use Rattle.std.specs.List.{flat_map}
use Rattle.std.proofs.lemmas.List.{append-nil, map-append, take-append-drop, take_more}
use Rattle.std.proofs.lemmas.List.Concat.{flat_map-append}
use Rattle.definitions.specs.believed.ProofText.{omission_line, format_line}
use Rattle.refutation.specs.believed.Proofs.{format_of}
use Rattle.refutation.specs.Proofs.{omission_meant}
use Rattle.refutation.specs.Lines.{line_len, line_text}
use Rattle.refutation.specs.declared.omissions.Omission.{Omission}
use Rattle.refutation.specs.declared.omissions.ProofForm.{ProofForm}
use Rattle.pict_cli.specs.Steps.{written}

-- one line more
pub written-more : (form : ProofForm) (omissions : List Omission) (i : ℕ) (d : Omission) → i < length omissions
    → written form (take (i + 1) omissions) ≡ written form (take i omissions) ++ line_text (get_or omissions i d)
written-more form omissions i d within =
    let before = map omission_meant (take i omissions) in
    let last = omission_meant (get_or omissions i d) in
    let split : map omission_meant (take (i + 1) omissions) ≡ before ++ last ∷ [] =
    ap (map omission_meant) (take_more omissions i d within) ∙ map-append omission_meant (take i omissions) (get_or omissions i d ∷ []) in
    ap (λ os. format_line (format_of form) ++ flat_map omission_line os) split
    ∙ ap (λ text. format_line (format_of form) ++ text)
    (flat_map-append omission_line before (last ∷ []) ∙ ap (λ text. flat_map omission_line before ++ text) (append-nil (omission_line last)))
    ∙ sym (append_assoc (format_line (format_of form)) (flat_map omission_line before) (omission_line last))

-- it has a byte
pub written-some : (form : ProofForm) (omissions : List Omission) → 0 < length (written form omissions)
written-some form omissions = omega arith

-- so many bytes more
pub longer : (form : ProofForm) (omissions : List Omission) (i : ℕ) (d : Omission) (count : ℕ) → i < length omissions
    → count ≡ length (written form (take i omissions)) → count + line_len (get_or omissions i d) < 2 ^ 64
    → count + line_len (get_or omissions i d) ≡ length (written form (take (i + 1) omissions))
longer form omissions i d count within is small =
    let line = line_text (get_or omissions i d) in
    let some = written-some form (take i omissions) in
    let whole : line_len (get_or omissions i d) ≡ length line = omega (arith, small, some, is) in
    omega (arith, whole, is, ap length (written-more form omissions i d within), length-append (written form (take i omissions)) line)

-- there is room for a line where there is room for the whole text
pub room_left : (form : ProofForm) (omissions : List Omission) (i : ℕ) (d : Omission) → i < length omissions
    → length (written form (take i omissions)) + line_len (get_or omissions i d) ≤ length (written form omissions)
room_left form omissions i d within =
    let front = map omission_meant (take (i + 1) omissions) in
    let rest = map omission_meant (drop (i + 1) omissions) in
    let split : map omission_meant omissions ≡ front ++ rest =
    ap (map omission_meant) (sym (take-append-drop (i + 1) omissions)) ∙ map-append omission_meant (take (i + 1) omissions) (drop (i + 1) omissions) in
    let whole : written form omissions ≡ written form (take (i + 1) omissions) ++ flat_map omission_line rest =
    ap (λ os. format_line (format_of form) ++ flat_map omission_line os) split
    ∙ ap (λ text. format_line (format_of form) ++ text) (flat_map-append omission_line front rest)
    ∙ sym (append_assoc (format_line (format_of form)) (flat_map omission_line front) (flat_map omission_line rest)) in
    omega (
      arith,
      ap length whole,
      length-append (written form (take (i + 1) omissions)) (flat_map omission_line rest),
      ap length (written-more form omissions i d within),
      length-append (written form (take i omissions)) (line_text (get_or omissions i d)),
    )
