-- Texts that are joined by a mark, cut at it again.
use Rattle.std.proofs.Common.{◌≡◌, ℕ, suc, ◌+◌, ◌-◌, ◌<◌, Bool, true, false, not, cond, List, [], ◌∷◌, ◌++◌, map, flat_map, length, take, drop, reverse, get_or, All, refl, sym, ◌∙◌, ap, subst, arith}
use Rattle.std.proofs.Math.Seq.{take-append_seam, drop-append_seam, drop-append-add, get_or-append_seam}
use Rattle.std.proofs.lemmas.Bool.{true≢false, ne_eqb, eq-eqb, not_from_false, not_from_true}
use Rattle.std.proofs.lemmas.List.{append-nil, append_assoc, length-append, length-reverse, reverse-append, get_or-reverse, get_or_append_left, get_or-append_right}
use Rattle.std.proofs.lemmas.List.Elements.{All-nil, All-head, All-tail, All-append}
use Rattle.std.proofs.lemmas.List.Folds.{list_any_at}
use Rattle.std.proofs.lemmas.List.Sorted.{IsPermutation-reverse, All-permutation}
use Rattle.std.proofs.lemmas.List.Splits.{slice_split_none, slice_split_at}
use Rattle.std.specs.List.{prefix_len, suffix_len, before_first, after_first, before_last, after_last, list_any}
use Rattle.model_lex.specs.believed.Blanks.{trimmed, without_first_blanks, without_last_blanks}
use Rattle.value_text.specs.believed.Texts.{is_blank}
use Rattle.model_parse.specs.believed.Pieces.{is_byte, pieces}
use Rattle.model_parse.specs.believed.Written.{joined}

prefix_run : (p : ℕ → Bool) (front rest : List ℕ) → All (λ b. p b ≡ true) front → 0 < length rest → p (get_or rest 0 0) ≡ false → prefix_len p (front ++ rest) ≡ length front
prefix_run p [] [] passes some stops = absurd (omega arith)
prefix_run p [] (x ∷ rest) passes some stops = ap (λ b. cond b (1 + prefix_len p rest) 0) stops
prefix_run p (x ∷ front) rest passes some stops =
    let more = prefix_run p front rest (All-tail (λ b. p b ≡ true) x front passes) some stops in
    ap (λ b. cond b (1 + prefix_len p (front ++ rest)) 0) (All-head (λ b. p b ≡ true) x front passes) ∙ omega arith

suffix_run : (p : ℕ → Bool) (front tail : List ℕ) → All (λ b. p b ≡ true) tail → 0 < length front → p (get_or front (length front - 1) 0) ≡ false → suffix_len p (front ++ tail) ≡ length tail
suffix_run p front tail passes some stops =
    let last : get_or (reverse front) 0 0 ≡ get_or front (length front - 1) 0 = get_or-reverse front 0 0 some ∙ ap (λ n. get_or front n 0) (omega arith) in
    ap (prefix_len p) (reverse-append front tail)
    ∙ prefix_run p (reverse tail) (reverse front) (All-permutation (λ b. p b ≡ true) tail (reverse tail) (IsPermutation-reverse tail) passes) (omega (arith, length-reverse front)) (ap p last ∙ stops)
    ∙ length-reverse tail

-- a text with a byte, and no blank at its ends
pub record IsWhole (text : List ℕ) : Type 0 where
  pub some : 0 < length text
  pub first : is_blank (get_or text 0 0) ≡ false
  pub last : is_blank (get_or text (length text - 1) 0) ≡ false

abbrev pub AreBlanks : List ℕ → Type 0
AreBlanks text = All (λ b. is_blank b ≡ true) text

-- a mark stands nowhere in a text
abbrev pub Lacks : ℕ → List ℕ → Type 0
Lacks mark text = All (λ b. is_byte mark b ≡ false) text

-- trimming takes away the blanks around a text
pub trimmed_back : (front text tail : List ℕ) → AreBlanks front → IsWhole text → AreBlanks tail → trimmed (front ++ (text ++ tail)) ≡ text
trimmed_back front text tail before whole behind =
    let first : get_or (text ++ tail) 0 0 ≡ get_or text 0 0 = get_or_append_left text tail 0 0 whole.some in
    let len : length (text ++ tail) ≡ length text + length tail = length-append text tail in
    let start : without_first_blanks (front ++ (text ++ tail)) ≡ text ++ tail =
    ap (λ n. drop n (front ++ (text ++ tail))) (prefix_run is_blank front (text ++ tail) before (omega (arith, whole.some)) (ap is_blank first ∙ whole.first))
    ∙ drop-append_seam front (text ++ tail) in
    let end : length (text ++ tail) - suffix_len is_blank (text ++ tail) ≡ length text = let run = suffix_run is_blank text tail behind whole.some whole.last in omega arith in
    ap without_last_blanks start ∙ ap (λ n. take n (text ++ tail)) end ∙ take-append_seam text tail

-- joined texts, cut at the mark between them
module _ (mark : ℕ) (before behind : List ℕ) (blank_before : AreBlanks before) (blank_behind : AreBlanks behind) (no_blank : is_blank mark ≡ false) where
  lacks_blanks : (blanks : List ℕ) → AreBlanks blanks → Lacks mark blanks
  lacks_blanks blanks are i d within = ne_eqb (get_or blanks i d) mark (λ e. true≢false (sym (subst (λ b. is_blank b ≡ true) e (are i d within)) ∙ no_blank))

  more_back : (front tail text : List ℕ) (texts : List (List ℕ)) → AreBlanks front → AreBlanks tail → IsWhole text → Lacks mark text → All IsWhole texts → All (Lacks mark) texts
      → pieces mark (front ++ (text ++ (flat_map (λ next. (before ++ mark ∷ behind) ++ next) texts ++ tail))) ≡ text ∷ texts
  more_back front tail text [] blank_front blank_tail whole lacks wholes all_lack =
      let none : Lacks mark (front ++ (text ++ tail)) =
      All-append (λ b. is_byte mark b ≡ false) front _ (lacks_blanks front blank_front) (All-append (λ b. is_byte mark b ≡ false) text tail lacks (lacks_blanks tail blank_tail)) in
      ap (map trimmed) (slice_split_none (is_byte mark) (front ++ (text ++ tail)) none) ∙ ap (λ t. t ∷ []) (trimmed_back front text tail blank_front whole blank_tail)
  more_back front tail text (next ∷ texts) blank_front blank_tail whole lacks wholes all_lack =
      let rest = flat_map (λ other. (before ++ mark ∷ behind) ++ other) texts ++ tail in
      let behind_mark = behind ++ (next ++ rest) in
      let here : front ++ (text ++ (flat_map (λ other. (before ++ mark ∷ behind) ++ other) (next ∷ texts) ++ tail)) ≡ (front ++ (text ++ before)) ++ mark ∷ behind_mark = grind (arith, append_assoc) in
      let none : Lacks mark (front ++ (text ++ before)) =
      All-append (λ b. is_byte mark b ≡ false) front _ (lacks_blanks front blank_front) (All-append (λ b. is_byte mark b ≡ false) text before lacks (lacks_blanks before blank_before)) in
      ap (pieces mark) here ∙ ap (map trimmed) (slice_split_at (is_byte mark) (front ++ (text ++ before)) mark behind_mark none (eq-eqb mark mark refl))
      ∙ ap (λ t. t ∷ pieces mark behind_mark) (trimmed_back front text before blank_front whole blank_before)
      ∙ ap (λ ts. text ∷ ts) (more_back behind tail next texts blank_behind blank_tail (All-head IsWhole next texts wholes) (All-head (Lacks mark) next texts all_lack)
      (All-tail IsWhole next texts wholes) (All-tail (Lacks mark) next texts all_lack))

  pub joined_back : (front tail : List ℕ) (texts : List (List ℕ)) → AreBlanks front → AreBlanks tail → 0 < length texts → All IsWhole texts → All (Lacks mark) texts
      → pieces mark (front ++ (joined (before ++ mark ∷ behind) texts ++ tail)) ≡ texts
  joined_back front tail [] blank_front blank_tail some wholes all_lack = absurd (omega arith)
  joined_back front tail (text ∷ texts) blank_front blank_tail some wholes all_lack =
      ap (λ t. pieces mark (front ++ t)) (append_assoc text (flat_map (λ next. (before ++ mark ∷ behind) ++ next) texts) tail)
      ∙ more_back front tail text texts blank_front blank_tail (All-head IsWhole text texts wholes) (All-head (Lacks mark) text texts all_lack) (All-tail IsWhole text texts wholes)
      (All-tail (Lacks mark) text texts all_lack)

-- no byte is the mark where a mark stands nowhere, in the words of what is cut
others : (mark : ℕ) (text : List ℕ) → Lacks mark text → All (λ b. not (is_byte mark b) ≡ true) text
others mark text lacks i d within = not_from_false _ (lacks i d within)

here : (mark : ℕ) → not (is_byte mark mark) ≡ false
here mark = not_from_true _ (eq-eqb mark mark refl)

-- what stands round the first mark
pub before_first_back : (mark : ℕ) (front rest : List ℕ) → Lacks mark front → before_first (is_byte mark) (front ++ mark ∷ rest) ≡ front
before_first_back mark front rest lacks =
    ap (λ n. take n (front ++ mark ∷ rest)) (prefix_run (λ x. not (is_byte mark x)) front (mark ∷ rest) (others mark front lacks) (omega arith) (here mark)) ∙ take-append_seam front (mark ∷ rest)

pub after_first_back : (mark : ℕ) (front rest : List ℕ) → Lacks mark front → after_first (is_byte mark) (front ++ mark ∷ rest) ≡ rest
after_first_back mark front rest lacks =
    ap (λ n. drop (n + 1) (front ++ mark ∷ rest)) (prefix_run (λ x. not (is_byte mark x)) front (mark ∷ rest) (others mark front lacks) (omega arith) (here mark))
    ∙ drop-append-add front (mark ∷ rest) 1

-- and round the last one
last_run : (mark : ℕ) (front rest : List ℕ) → Lacks mark rest → length (front ++ mark ∷ rest) - suffix_len (λ x. not (is_byte mark x)) (front ++ mark ∷ rest) ≡ length front + 1
last_run mark front rest lacks =
    let split : front ++ mark ∷ rest ≡ (front ++ mark ∷ []) ++ rest = sym (append_assoc front (mark ∷ []) rest) in
    let len : length (front ++ mark ∷ []) ≡ length front + 1 = length-append front (mark ∷ []) in
    let all : length (front ++ mark ∷ rest) ≡ length front + suc (length rest) = length-append front (mark ∷ rest) in
    let last : get_or (front ++ mark ∷ []) (length (front ++ mark ∷ []) - 1) 0 ≡ mark = ap (λ n. get_or (front ++ mark ∷ []) n 0) (omega arith) ∙ get_or-append_seam front mark [] 0 in
    let run : suffix_len (λ x. not (is_byte mark x)) (front ++ mark ∷ rest) ≡ length rest =
    ap (suffix_len (λ x. not (is_byte mark x))) split
    ∙ suffix_run (λ x. not (is_byte mark x)) (front ++ mark ∷ []) rest (others mark rest lacks) (omega arith) (ap (λ x. not (is_byte mark x)) last ∙ here mark) in
    omega arith

pub before_last_back : (mark : ℕ) (front rest : List ℕ) → Lacks mark rest → before_last (is_byte mark) (front ++ mark ∷ rest) ≡ front
before_last_back mark front rest lacks =
    let len : length (front ++ mark ∷ rest) - suffix_len (λ x. not (is_byte mark x)) (front ++ mark ∷ rest) - 1 ≡ length front = let run = last_run mark front rest lacks in omega arith in
    ap (λ n. take n (front ++ mark ∷ rest)) len ∙ take-append_seam front (mark ∷ rest)

pub after_last_back : (mark : ℕ) (front rest : List ℕ) → Lacks mark rest → after_last (is_byte mark) (front ++ mark ∷ rest) ≡ rest
after_last_back mark front rest lacks = ap (λ n. drop n (front ++ mark ∷ rest)) (last_run mark front rest lacks) ∙ drop-append-add front (mark ∷ rest) 1

pub stands_back : (mark : ℕ) (front rest : List ℕ) → list_any (is_byte mark) (front ++ mark ∷ rest) ≡ true
stands_back mark front rest =
    list_any_at (is_byte mark) (front ++ mark ∷ rest) (length front) 0 (omega (arith, length-append front (mark ∷ rest)))
    (ap (is_byte mark) (get_or-append_seam front mark rest 0) ∙ eq-eqb mark mark refl)

-- texts without blanks at their ends, with others between or behind
pub whole_append : (front text : List ℕ) → IsWhole front → IsWhole text → (between : List ℕ) → IsWhole (front ++ (between ++ text))
whole_append front text a b between =
    let len : length (front ++ (between ++ text)) ≡ length front + (length between + length text) = length-append front (between ++ text) ∙ ap (λ n. length front + n) (length-append between text) in
    let first : get_or (front ++ (between ++ text)) 0 0 ≡ get_or front 0 0 = get_or_append_left front (between ++ text) 0 0 a.some in
    let last : get_or (front ++ (between ++ text)) (length (front ++ (between ++ text)) - 1) 0 ≡ get_or text (length text - 1) 0 =
    let some = b.some in
    get_or-append_right front (between ++ text) (length front) (length (front ++ (between ++ text)) - 1) 0 refl (omega arith)
    ∙ get_or-append_right between text (length between) (length (front ++ (between ++ text)) - 1 - length front) 0 refl (omega arith) ∙ ap (λ n. get_or text n 0) (omega arith) in
    record { some = let some = a.some in omega arith; first = ap is_blank first ∙ a.first; last = ap is_blank last ∙ b.last }

pub whole_joined : (between text : List ℕ) (texts : List (List ℕ)) → IsWhole text → All IsWhole texts → IsWhole (joined between (text ∷ texts))
whole_joined between text [] whole wholes = subst IsWhole (sym (append-nil text)) whole
whole_joined between text (next ∷ texts) whole wholes =
    let regroup : (text ++ (between ++ next)) ++ flat_map (λ other. between ++ other) texts ≡ text ++ ((between ++ next) ++ flat_map (λ other. between ++ other) texts) =
    append_assoc text (between ++ next) (flat_map (λ other. between ++ other) texts) in
    subst IsWhole regroup (whole_joined between (text ++ (between ++ next)) texts (whole_append text next whole (All-head IsWhole next texts wholes) between) (All-tail IsWhole next texts wholes))

pub lacks_joined : (mark : ℕ) (between : List ℕ) (texts : List (List ℕ)) → Lacks mark between → All (Lacks mark) texts → Lacks mark (joined between texts)
lacks_joined mark between [] lacks all_lack = All-nil (λ b. is_byte mark b ≡ false)
lacks_joined mark between (text ∷ texts) lacks all_lack =
    All-append (λ b. is_byte mark b ≡ false) text _ (All-head (Lacks mark) text texts all_lack) (more texts (All-tail (Lacks mark) text texts all_lack))
  where
    more : (rest : List (List ℕ)) → All (Lacks mark) rest → Lacks mark (flat_map (λ next. between ++ next) rest)
    more [] all = All-nil (λ b. is_byte mark b ≡ false)
    more (next ∷ rest) all =
        All-append (λ b. is_byte mark b ≡ false) (between ++ next) _ (All-append (λ b. is_byte mark b ≡ false) between next lacks (All-head (Lacks mark) next rest all))
        (more rest (All-tail (Lacks mark) next rest all))
