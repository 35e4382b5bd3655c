-- The sections of a translation.
use Rattle.std.proofs.Common.{◌≡◌, ℕ, ◌+◌, ◌<◌, Bool, true, false, not, ◌||◌, if◌then◌else◌, List, [], ◌∷◌, ◌++◌, length}
use Rattle.std.proofs.Common.{map, take, drop, get_or, codes, None, Ok, refl, sym, ap, subst, ◌∙◌, arith, append_assoc}
use Rattle.std.proofs.Math.Seq.{take-append_seam, drop-append_seam}
use Rattle.std.proofs.lemmas.Bool.{and_parts, and_right, cond-false, cond-true, ltb-true}
use Rattle.std.proofs.lemmas.Bool.Decides.{nat_tests}
use Rattle.std.proofs.lemmas.Str.{IsUtf8-from_ascii, is_utf8-from_IsUtf8}
use Rattle.std.proofs.lemmas.Str.Ascii.{IsAscii-from_all}
use Rattle.std.specs.List.{enumerate_from, list_all, prefix_len}
use Rattle.std.specs.Prelude.{◌==◌}
use Rattle.std.specs.Str.{is_utf8}
use Rattle.constraint_ast.proofs.Digits.{run_prefix}
use Rattle.model_lex.proofs.Opening.{StandsBehind, at_other, behind_word}
use Rattle.model_lex.specs.believed.Blanks.{is_all_blank, without_first_blanks}
use Rattle.value_text.specs.believed.Texts.{is_blank}
use Rattle.model_lex.specs.believed.Sections.{Split, first_word, goes_on, has_colon, is_word_among, is_ignored, is_opening_mark, is_rule, is_word_byte, kind_of, misplaced}
use Rattle.model_lex.specs.believed.Sections.{opening_len, opening_words, opens_group, opens_rule, put_before, refusal_of, refused_or, sections_behind, with_line}
use Rattle.model_lex.specs.declared.line_kind.LineKind.{LineKind}
use Rattle.model_lex.specs.declared.line_kind.LineKind.TheVariants.{Param, Group, Rule}
use Rattle.model_parse.proofs.Joining.{stands_back}
use Rattle.acts_front.specs.believed.Lines.{is_allowed}
use Rattle.acts_front.specs.believed.ParameterLines.{Parameter, Scope, is_name}
use Rattle.acts_front.specs.believed.RelationLines as relations
use Rattle.acts_front.specs.believed.Tokens.{Token}
use Rattle.acts_front.specs.believed.ActsFiles.{Line, Nothing, OfParameter, OfRelation, OfConstraint, and_line, parameters_from, relations_from}
use Rattle.acts_front.specs.believed.Translation.{constraint_text, translated_text, parameter_text, relation_text, value_text}
use Rattle.model_parse.specs.believed.Written.{joined}
use Rattle.acts_front.proofs.AllowedTexts.{Allowed, each_passes, line_allowed}
use Rattle.acts_front.proofs.GivenLines.{AreGiven, AreOrdered}
use Rattle.acts_front.proofs.GivenLists.{spelled_from}
use Rattle.acts_front.proofs.Openers.{constraint_ignored, constraint_opens}

-- the sections, each line with its number
abbrev pub split_from : ℕ → List Line → Split
split_from number lines = record {
  params = map (λ found. (found.0, parameter_text found.1)) (parameters_from number lines);
  groups = map (λ found. (found.0, relation_text found.1)) (relations_from number lines);
  rules = map (λ found. (found.0, constraint_text found.1.0)) (spelled_from number lines);
}

-- what may stand in a file is UTF-8
allowed_small : (b : ℕ) → is_allowed b ≡ true → b < 128
allowed_small b allowed = grind (arith, nat_tests)

pub allowed_utf8 : (text : List ℕ) → Allowed text → is_utf8 text ≡ true
allowed_utf8 text all =
    is_utf8-from_IsUtf8 text (IsUtf8-from_ascii text (IsAscii-from_all text (λ i d within. allowed_small (get_or text i d) (each_passes is_allowed text all i d within))))

-- ---- a parameter line

word_start : (b : ℕ) → is_word_byte b ≡ true → (is_blank b ≡ false) × ((b == 35) ≡ false) × (is_opening_mark b ≡ false) × ((b == 123) ≡ false) × ((b == 64) ≡ false)
word_start b word = (grind (arith, nat_tests), grind (arith, nat_tests), grind (arith, nat_tests), grind (arith, nat_tests), grind (arith, nat_tests))

-- a name, and behind it a colon
module _ (b : ℕ) (more rest : List ℕ) (word : list_all is_word_byte (b ∷ more) ≡ true) where
  first : is_word_byte b ≡ true
  first = (and_parts (is_word_byte b) (list_all is_word_byte more) word).0

  dense : is_blank b ≡ false
  dense = (word_start b first).0

  whole_word : first_word (b ∷ (more ++ 58 ∷ rest)) ≡ b ∷ more
  whole_word =
      let len : prefix_len is_word_byte (b ∷ (more ++ 58 ∷ rest)) ≡ length (b ∷ more) = run_prefix is_word_byte (b ∷ more) (58 ∷ rest) word refl in
      ap (λ n. take n (b ∷ (more ++ 58 ∷ rest))) len ∙ take-append_seam (b ∷ more) (58 ∷ rest)

  itself : StandsBehind (b ∷ (more ++ 58 ∷ rest)) (b ∷ (more ++ 58 ∷ rest))
  itself = record { same = refl; solid = λ some. dense }

  not_opening : goes_on 0 (b ∷ (more ++ 58 ∷ rest)) ≡ false
  not_opening = by (is_word_among opening_words (b ∷ more)) refl
    where
      by : (among : Bool) → is_word_among opening_words (b ∷ more) ≡ among → goes_on 0 (b ∷ (more ++ 58 ∷ rest)) ≡ false
      by false e =
          let none : opening_len (b ∷ (more ++ 58 ∷ rest)) ≡ 0 = ap (λ w. if is_word_among opening_words w then length w else 0) whole_word ∙ rw e refl in
          at_other (b ∷ (more ++ 58 ∷ rest)) (b ∷ (more ++ 58 ∷ rest)) itself (omega arith) (word_start b first).2 none
      by true e =
          let len : length (b ∷ more) ≡ opening_len (b ∷ (more ++ 58 ∷ rest)) = sym (ap (λ w. if is_word_among opening_words w then length w else 0) whole_word ∙ rw e refl) in
          let behind = behind_word (b ∷ (more ++ 58 ∷ rest)) (b ∷ (more ++ 58 ∷ rest)) itself (omega arith) (word_start b first).2 (length (b ∷ more)) len (omega arith) in
          let left : without_first_blanks (drop (length (b ∷ more)) (b ∷ (more ++ 58 ∷ rest))) ≡ 58 ∷ rest = ap without_first_blanks (drop-append_seam (b ∷ more) (58 ∷ rest)) in
          let here = subst (StandsBehind (b ∷ (more ++ 58 ∷ rest))) left behind in
          at_other (b ∷ (more ++ 58 ∷ rest)) (58 ∷ rest) here (omega arith) refl refl

  param_ignored : is_ignored (b ∷ (more ++ 58 ∷ rest)) ≡ false
  param_ignored = rw (dense, (word_start b first).1) refl

  param_kind : kind_of Param (b ∷ (more ++ 58 ∷ rest)) ≡ Param
  param_kind =
      let rule : opens_rule (b ∷ (more ++ 58 ∷ rest)) ≡ false = and_right (not (is_all_blank (b ∷ (more ++ 58 ∷ rest)))) (goes_on 0 (b ∷ (more ++ 58 ∷ rest))) not_opening in
      let group : opens_group (b ∷ (more ++ 58 ∷ rest)) ≡ false = rw (dense, (word_start b first).3, (word_start b first).4) refl in
      rw (rule, group) refl

  param_fine : is_utf8 (b ∷ (more ++ 58 ∷ rest)) ≡ true → refusal_of Param (b ∷ (more ++ 58 ∷ rest)) ≡ None
  param_fine utf8 =
      let colon : has_colon (b ∷ (more ++ 58 ∷ rest)) ≡ true = stands_back 58 (b ∷ more) rest in
      cond-true (is_utf8 (b ∷ (more ++ 58 ∷ rest))) _ _ utf8 ∙ (ap (λ kind. misplaced Param kind (b ∷ (more ++ 58 ∷ rest))) param_kind ∙ rw colon refl)

-- it begins with a byte of a word
parameter_sorts : (param : Parameter) → is_name param.name ≡ true → Allowed (parameter_text param)
    → (is_ignored (parameter_text param) ≡ false) × (kind_of Param (parameter_text param) ≡ Param) × (refusal_of Param (parameter_text param) ≡ None)
parameter_sorts param named allowed = by param.name (and_parts _ _ named).1
    (ltb-true 0 (length param.name) (and_parts _ _ (and_parts _ _ named).0).0) joint (allowed_utf8 (parameter_text param) allowed)
  where
    joint : parameter_text param ≡ param.name ++ 58 ∷ 32 ∷ joined (codes ", ") (map (value_text param.kind) param.values)
    joint = append_assoc param.name (codes ": ") (joined (codes ", ") (map (value_text param.kind) param.values))

    by : (name : List ℕ) → list_all is_word_byte name ≡ true → 0 < length name → parameter_text param ≡ name ++ 58 ∷ 32 ∷ joined (codes ", ") (map (value_text param.kind) param.values)
        → is_utf8 (parameter_text param) ≡ true
        → (is_ignored (parameter_text param) ≡ false) × (kind_of Param (parameter_text param) ≡ Param) × (refusal_of Param (parameter_text param) ≡ None)
    by [] word some is utf8 = absurd (omega (arith, some))
    by (b ∷ more) word some is utf8 =
        let rest = 32 ∷ joined (codes ", ") (map (value_text param.kind) param.values) in
        rw is (param_ignored b more rest word, param_kind b more rest word, param_fine b more rest word (ap is_utf8 (sym is) ∙ utf8))

-- ---- a group line, and a constraint line

relation_ignored : (relation : relations.Relation) → is_ignored (relation_text relation) ≡ false
relation_ignored relation = refl

relation_kind : (before : LineKind) (relation : relations.Relation) → is_rule before ≡ false → kind_of before (relation_text relation) ≡ Group
relation_kind before relation other = rw other refl

relation_fine : (before : LineKind) (relation : relations.Relation) → is_rule before ≡ false → Allowed (relation_text relation) → refusal_of before (relation_text relation) ≡ None
relation_fine before relation other allowed =
    cond-true (is_utf8 (relation_text relation)) _ _ (allowed_utf8 (relation_text relation) allowed)
    ∙ (ap (λ kind. misplaced before kind (relation_text relation)) (relation_kind before relation other) ∙ by before)
  where
    by : (before : LineKind) → misplaced before Group (relation_text relation) ≡ None
    by Param = refl
    by Group = refl
    by Rule = refl

constraint_kind : (before : LineKind) (tokens : List Token) → opens_rule (constraint_text tokens) ≡ true → kind_of before (constraint_text tokens) ≡ Rule
constraint_kind before tokens opens = by (is_rule before)
  where
    by : (is : Bool) → (if is || opens_rule (constraint_text tokens) then Rule else if opens_group (constraint_text tokens) then Group else Param) ≡ Rule
    by true = refl
    by false = rw opens refl

constraint_fine : (before : LineKind) (tokens : List Token) → opens_rule (constraint_text tokens) ≡ true
    → Allowed (constraint_text tokens) → refusal_of before (constraint_text tokens) ≡ None
constraint_fine before tokens opens allowed =
    cond-true (is_utf8 (constraint_text tokens)) _ _ (allowed_utf8 (constraint_text tokens) allowed)
    ∙ (ap (λ kind. misplaced before kind (constraint_text tokens)) (constraint_kind before tokens opens) ∙ by before)
  where
    by : (before : LineKind) → misplaced before Rule (constraint_text tokens) ≡ None
    by Param = refl
    by Group = refl
    by Rule = refl

-- a line that isn't ignored nor refused goes to its section
put : (before kind : LineKind) (line : ℕ × List ℕ) (lines : List (ℕ × List ℕ)) (split : Split)
    → is_ignored line.1 ≡ false → kind_of before line.1 ≡ kind → refusal_of before line.1 ≡ None
    → sections_behind kind lines ≡ Ok split → sections_behind before (line ∷ lines) ≡ Ok (put_before kind line split)
put before kind line lines split seen is fine rest =
    cond-false (is_ignored line.1) (sections_behind before lines) _ seen
    ∙ (ap (λ code. refused_or code line.0 (with_line (kind_of before line.1) line (sections_behind (kind_of before line.1) lines))) fine
    ∙ (ap (λ k. with_line k line (sections_behind k lines)) is ∙ ap (with_line kind line) rest))

pub sections_are : (scope : Scope) (number : ℕ) (before : LineKind) (lines : List Line) → AreGiven scope lines → AreOrdered before lines
    → sections_behind before (enumerate_from number (map translated_text lines)) ≡ Ok (split_from number lines)
sections_are scope number before [] given ordered = refl
sections_are scope number before (Nothing ∷ lines) given ordered = sections_are (and_line scope Nothing) (number + 1) before lines given.1 ordered
sections_are scope number before (OfParameter param ∷ lines) given ordered =
    let sorts = parameter_sorts param given.0.named (line_allowed scope (OfParameter param) given.0) in
    ap (λ kind. sections_behind kind (enumerate_from number (map translated_text (OfParameter param ∷ lines)))) ordered.0
    ∙ put Param Param (number, parameter_text param) (enumerate_from (number + 1) (map translated_text lines)) (split_from (number + 1) lines) sorts.0 sorts.1 sorts.2
    (sections_are (and_line scope (OfParameter param)) (number + 1) Param lines given.1 ordered.1)
sections_are scope number before (OfRelation relation ∷ lines) given ordered =
    put before Group (number, relation_text relation) (enumerate_from (number + 1) (map translated_text lines)) (split_from (number + 1) lines)
    (relation_ignored relation) (relation_kind before relation ordered.0) (relation_fine before relation ordered.0 (line_allowed scope (OfRelation relation) given.0))
    (sections_are (and_line scope (OfRelation relation)) (number + 1) Group lines given.1 ordered.1)
sections_are scope number before (OfConstraint tokens constraint ∷ lines) given ordered =
    let opens = constraint_opens tokens constraint given.0.spelled in
    put before Rule (number, constraint_text tokens) (enumerate_from (number + 1) (map translated_text lines)) (split_from (number + 1) lines)
    (constraint_ignored tokens constraint given.0.spelled) (constraint_kind before tokens opens)
    (constraint_fine before tokens opens (line_allowed scope (OfConstraint tokens constraint) given.0))
    (sections_are (and_line scope (OfConstraint tokens constraint)) (number + 1) Rule lines given.1 ordered)
