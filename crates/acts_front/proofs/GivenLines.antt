-- What is known of all lines of a file that isn't refused: each line of itself, and their order.
use Rattle.std.proofs.Common.{◌≡◌, ℕ, Bool, true, false, not, ◌&&◌, if◌then◌else◌, List, [], ◌∷◌, length, All, Option, Some, None, Result, Ok, Err, refl, sym, ap, subst, arith}
use Rattle.std.proofs.lemmas.Option.{same_Some}
use Rattle.std.proofs.lemmas.Bool.{and_from, and_parts, cond_both, eqb-true, false≢true}
use Rattle.std.specs.List.{list_all, prefix_len}
use Rattle.std.specs.Prelude.{◌==◌, is_some, nat_lt, unwrap_or}
use Rattle.model_lex.specs.believed.Blanks.{trimmed, without_first_blanks}
use Rattle.value_text.specs.believed.Texts.{is_blank}
use Rattle.model_lex.specs.believed.Sections.{is_rule}
use Rattle.model_lex.specs.declared.line_kind.LineKind.{LineKind}
use Rattle.model_lex.specs.declared.line_kind.LineKind.TheVariants.{Param, Group, Rule}
use Rattle.acts_front.specs.believed.Lines.{before_comment, begun, behind, headed, is_allowed, is_heading, line_text, place_of}
use Rattle.acts_front.specs.believed.ParameterLines.{Parameter, Scope, read_parameter}
use Rattle.acts_front.specs.believed.RelationLines as relations
use Rattle.acts_front.specs.believed.RelationLines.{read_relation}
use Rattle.acts_front.specs.believed.Tokens.{Token, tokens_found}
use Rattle.acts_front.specs.believed.Constraints.{Constraint, cons_of, constraint_code}
use Rattle.constraint_ast.specs.believed.Grammar.{most_open}
use Rattle.acts_front.specs.believed.ActsFiles.{Line, Nothing, OfParameter, OfRelation, OfConstraint, and_line, constraint_line, line_and, line_before, line_gives}
use Rattle.acts_front.specs.believed.ActsFiles.{line_in, lines_give, parameter_line, relation_line, section_behind, spelled_line, text_gives, unless_refused}
use Rattle.acts_front.specs.declared.code.ActsCode.{ActsCode}
use Rattle.acts_front.specs.declared.code.ActsCode.TheVariants.{A1, A2}
use Rattle.acts_front.specs.declared.section.Section.{Section}
use Rattle.acts_front.specs.declared.section.Section.TheVariants.{Outside, System, Parameters, Relations, Constraints}
use Rattle.acts_front.proofs.Given.{IsParameter, IsRelation, ok_is, parameter_given, relation_given}
use Rattle.acts_front.proofs.GivenTokens.{IsWritten, all_dropped, all_taken, tokens_written}

-- a constraint behind other lines
pub record IsConstraint (scope : Scope) (tokens : List Token) (constraint : Constraint) : Type 0 where
  pub written : All IsWritten tokens
  pub spelled : cons_of most_open tokens ≡ Some constraint
  pub fits : constraint_code scope constraint ≡ None

abbrev pub IsGiven : Scope → Line → Type 0
IsGiven scope Nothing = Unit {0}
IsGiven scope (OfParameter param) = IsParameter scope param
IsGiven scope (OfRelation relation) = IsRelation scope relation
IsGiven scope (OfConstraint tokens constraint) = IsConstraint scope tokens constraint

abbrev pub AreGiven : Scope → List Line → Type 0
AreGiven scope [] = Unit {0}
AreGiven scope (line ∷ lines) = IsGiven scope line × AreGiven (and_line scope line) lines

-- parameters stand before relations, and these before constraints, behind a line of a kind
abbrev pub AreOrdered : LineKind → List Line → Type 0
AreOrdered before [] = Unit {0}
AreOrdered before (Nothing ∷ lines) = AreOrdered before lines
AreOrdered before (OfParameter param ∷ lines) = (before ≡ Param) × AreOrdered Param lines
AreOrdered before (OfRelation relation ∷ lines) = (is_rule before ≡ false) × AreOrdered Group lines
AreOrdered before (OfConstraint tokens constraint ∷ lines) = AreOrdered Rule lines

-- what may stand before a line of a section
abbrev pub Allows : Section → LineKind → Type 0
Allows Outside before = before ≡ Param
Allows System before = before ≡ Param
Allows Parameters before = before ≡ Param
Allows Relations before = is_rule before ≡ false
Allows Constraints before = Unit {0}

allows_later : (section next : Section) (before : LineKind) → nat_lt (place_of section) (place_of next) ≡ true → Allows section before → Allows next before
allows_later Outside System before later is = is
allows_later Outside Parameters before later is = is
allows_later Outside Relations before later is = ap is_rule is
allows_later System Parameters before later is = is
allows_later System Relations before later is = ap is_rule is
allows_later Parameters Relations before later is = ap is_rule is
allows_later section Constraints before later is = tt
allows_later Outside Outside before later is = is
allows_later System Outside before later is = is
allows_later Parameters Outside before later is = is
allows_later System System before later is = is
allows_later Parameters System before later is = is
allows_later Parameters Parameters before later is = is
allows_later Relations Outside before later is = absurd (false≢true later)
allows_later Relations System before later is = absurd (false≢true later)
allows_later Relations Parameters before later is = absurd (false≢true later)
allows_later Relations Relations before later is = is
allows_later Constraints Outside before later is = absurd (false≢true later)
allows_later Constraints System before later is = absurd (false≢true later)
allows_later Constraints Parameters before later is = absurd (false≢true later)
allows_later Constraints Relations before later is = absurd (false≢true later)

-- a line of a section before those of the next
record IsNext (section next : Section) (scope : Scope) (given : Line) : Type 0 where
  here : IsGiven scope given
  order : (before : LineKind) → Allows section before → (others : List Line) → ((after : LineKind) → Allows next after → AreOrdered after others) → AreOrdered before (given ∷ others)

nothing : (section next : Section) (scope : Scope) (given : Line) → Nothing ≡ given → ((before : LineKind) → Allows section before → Allows next before) → IsNext section next scope given
nothing section next scope given is later =
    subst (IsNext section next scope) is (record { here = tt; order = λ before allows others ordered. ordered before (later before allows) })

-- a header
headed_next : (section : Section) (text : List ℕ) (scope : Scope) (given : Line) (found : Option Section) → begun section text ≡ found
    → (if is_some found then Ok Nothing else Err A2) ≡ Ok given → IsNext section (unwrap_or found section) scope given
headed_next section text scope given None is e = absurd (cc)
headed_next section text scope given (Some next) is e =
    let same : Nothing ≡ given = ok_is e in
    nothing section next scope given same (λ before allows. allows_later section next before (by (headed text) is) allows)
  where
    by : (o : Option Section) → behind section o ≡ Some next → nat_lt (place_of section) (place_of next) ≡ true
    by None e = absurd (cc)
    by (Some other) e = at (nat_lt (place_of section) (place_of other)) refl e
      where
        at : (b : Bool) → nat_lt (place_of section) (place_of other) ≡ b → (if b then Some other else None) ≡ Some next → nat_lt (place_of section) (place_of next) ≡ true
        at true later same = let is : other ≡ next = same_Some _ _ same in subst (λ s. nat_lt (place_of section) (place_of s) ≡ true) is later
        at false later same = absurd (cc)

-- another text
params_next : (scope : Scope) (text : List ℕ) (given : Line) → parameter_line (read_parameter scope text) ≡ Ok given → IsNext Parameters Parameters scope given
params_next scope text given = by (read_parameter scope text) refl
  where
    by : (found : Result Parameter ActsCode) → read_parameter scope text ≡ found → parameter_line found ≡ Ok given → IsNext Parameters Parameters scope given
    by (Err code) is e = absurd (cc)
    by (Ok param) is e =
        let same : OfParameter param ≡ given = ok_is e in
        subst (IsNext Parameters Parameters scope) same
        (record { here = parameter_given scope text param is; order = λ before allows others ordered. (allows, ordered Param refl) })

relations_next : (scope : Scope) (text : List ℕ) (given : Line) → relation_line (read_relation scope text) ≡ Ok given → IsNext Relations Relations scope given
relations_next scope text given = by (read_relation scope text) refl
  where
    by : (found : Result relations.Relation ActsCode) → read_relation scope text ≡ found → relation_line found ≡ Ok given → IsNext Relations Relations scope given
    by (Err code) is e = absurd (cc)
    by (Ok relation) is e =
        let same : OfRelation relation ≡ given = ok_is e in
        subst (IsNext Relations Relations scope) same
        (record { here = relation_given scope text relation is; order = λ before allows others ordered. (allows, ordered Group refl) })

constraints_next : (scope : Scope) (text : List ℕ) (given : Line) → list_all is_allowed text ≡ true → constraint_line scope (tokens_found text) ≡ Ok given
    → IsNext Constraints Constraints scope given
constraints_next scope text given allowed = by (tokens_found text) refl
  where
    fits : (tokens : List Token) (constraint : Constraint) (code : Option ActsCode)
        → constraint_code scope constraint ≡ code → cons_of most_open tokens ≡ Some constraint → All IsWritten tokens
        → unless_refused code (OfConstraint tokens constraint) ≡ Ok given → IsNext Constraints Constraints scope given
    fits tokens constraint (Some code) is spelled written e = absurd (cc)
    fits tokens constraint None is spelled written e =
        let same : OfConstraint tokens constraint ≡ given = ok_is e in
        subst (IsNext Constraints Constraints scope) same
        (record { here = record { written = written; spelled = spelled; fits = is }; order = λ before allows others ordered. ordered Rule tt })

    spells : (tokens : List Token) (found : Option Constraint) → cons_of most_open tokens ≡ found → All IsWritten tokens → spelled_line scope tokens found ≡ Ok given
        → IsNext Constraints Constraints scope given
    spells tokens None is written e = absurd (cc)
    spells tokens (Some constraint) is written e = fits tokens constraint (constraint_code scope constraint) refl is written e

    by : (found : Option (List Token)) → tokens_found text ≡ found → constraint_line scope found ≡ Ok given → IsNext Constraints Constraints scope given
    by None is e = absurd (cc)
    by (Some tokens) is e = spells tokens (cons_of most_open tokens) refl (tokens_written 0 text tokens allowed is) e

text_next : (section : Section) (scope : Scope) (text : List ℕ) (given : Line)
    → list_all is_allowed text ≡ true → line_in section scope text ≡ Ok given → IsNext section section scope given
text_next Outside scope text given allowed e = absurd (cc)
text_next System scope text given allowed e = let same : Nothing ≡ given = ok_is e in nothing System System scope given same (λ before allows. allows)
text_next Parameters scope text given allowed e = params_next scope text given e
text_next Relations scope text given allowed e = relations_next scope text given e
text_next Constraints scope text given allowed e = constraints_next scope text given allowed e

-- the text of a line is a part of it
before_allowed : (quoted : Bool) (line : List ℕ) → list_all is_allowed line ≡ true → list_all is_allowed (before_comment quoted line) ≡ true
before_allowed quoted [] all = refl
before_allowed quoted (b ∷ []) all = all
before_allowed quoted (b ∷ next ∷ rest) all =
    let parts = and_parts (is_allowed b) (list_all is_allowed (next ∷ rest)) all in
    cond_both (not quoted && (b == 45) && (next == 45)) [] (b ∷ before_comment (if b == 34 then not quoted else quoted) (next ∷ rest)) (λ text. list_all is_allowed text ≡ true)
    (λ comment. refl) (λ other. and_from _ _ parts.0 (before_allowed (if b == 34 then not quoted else quoted) (next ∷ rest) parts.1))

trimmed_allowed : (text : List ℕ) → list_all is_allowed text ≡ true → list_all is_allowed (trimmed text) ≡ true
trimmed_allowed text all = all_taken is_allowed _ (without_first_blanks text) (all_dropped is_allowed (prefix_len is_blank text) text all)

no_heading : (text : List ℕ) → length text ≡ 0 → is_heading text ≡ false
no_heading [] none = refl
no_heading (b ∷ text) none = absurd (omega (arith, none))

-- a line
line_next : (section : Section) (scope : Scope) (line : List ℕ) (given : Line) → line_gives section scope line ≡ Ok given → IsNext section (section_behind section line) scope given
line_next section scope line given e =
    let whole = if_ok (list_all is_allowed line) e in
    empty (length text == 0) refl (text_allowed whole.0) whole.1
  where
    text : List ℕ
    text = line_text line

    if_ok : (b : Bool) → (if b then text_gives section scope text else Err A1) ≡ Ok given → (b ≡ true) × (text_gives section scope text ≡ Ok given)
    if_ok true e = (refl, e)
    if_ok false e = absurd (cc)

    text_allowed : list_all is_allowed line ≡ true → list_all is_allowed text ≡ true
    text_allowed all = trimmed_allowed (before_comment false line) (before_allowed false line all)

    heading : (b : Bool) → is_heading text ≡ b → list_all is_allowed text ≡ true
        → (if b then (if is_some (begun section text) then Ok Nothing else Err A2) else line_in section scope text) ≡ Ok given
        → IsNext section (if b then unwrap_or (begun section text) section else section) scope given
    heading true is allowed e = headed_next section text scope given (begun section text) refl e
    heading false is allowed e = text_next section scope text given allowed e

    empty : (b : Bool) → (length text == 0) ≡ b → list_all is_allowed text ≡ true
        → (if b then Ok Nothing else if is_heading text then (if is_some (begun section text) then Ok Nothing else Err A2) else line_in section scope text) ≡ Ok given
        → IsNext section (section_behind section line) scope given
    empty true none allowed e =
        let plain : is_heading text ≡ false = no_heading text (eqb-true (length text) 0 none) in
        let same : Nothing ≡ given = ok_is e in
        subst (λ next. IsNext section next scope given) (sym (ap (λ b. if b then unwrap_or (begun section text) section else section) plain))
        (nothing section section scope given same (λ before allows. allows))
    empty false some allowed e = heading (is_heading text) refl allowed e

-- all lines
pub record AreKnown (section : Section) (scope : Scope) (lines : List Line) : Type 0 where
  pub given : AreGiven scope lines
  pub ordered : (before : LineKind) → Allows section before → AreOrdered before lines

pub lines_given : (section : Section) (scope : Scope) (numbered : List (ℕ × List ℕ)) (lines : List Line) → lines_give section scope numbered ≡ Ok lines → AreKnown section scope lines
lines_given section scope [] lines e = subst (AreKnown section scope) (ok_is e) (record { given = tt; ordered = λ before allows. tt })
lines_given section scope (line ∷ numbered) lines e =
    by (line_gives section scope line.1) refl (λ given others is. lines_given (section_behind section line.1) (and_line scope given) numbered others is) e
  where
    behind : (given : Line) (found : Result (List Line) (ℕ × ActsCode))
        → lines_give (section_behind section line.1) (and_line scope given) numbered ≡ found → IsNext section (section_behind section line.1) scope given
        → ((others : List Line) → lines_give (section_behind section line.1) (and_line scope given) numbered ≡ Ok others
        → AreKnown (section_behind section line.1) (and_line scope given) others)
        → line_and given found ≡ Ok lines → AreKnown section scope lines
    behind given (Err refused) is next later e = absurd (cc)
    behind given (Ok others) is next later e =
        let known = later others is in
        subst (AreKnown section scope) (ok_is e)
        (record { given = (next.here, known.given); ordered = λ before allows. next.order before allows others known.ordered })

    by : (found : Result Line ActsCode) → line_gives section scope line.1 ≡ found
        → ((given : Line) (others : List Line) → lines_give (section_behind section line.1) (and_line scope given) numbered ≡ Ok others
        → AreKnown (section_behind section line.1) (and_line scope given) others)
        → line_before line.0 found (λ given. lines_give (section_behind section line.1) (and_line scope given) numbered) ≡ Ok lines → AreKnown section scope lines
    by (Err code) is later e = absurd (cc)
    by (Ok given) is later e =
        behind given (lines_give (section_behind section line.1) (and_line scope given) numbered) refl (line_next section scope line.1 given is) (later given) e
