-- A constraint that is written opens the constraints of a model file.
use Rattle.std.proofs.Common.{◌≡◌, ℕ, zero, suc, ◌<◌, Bool, true, false, if◌then◌else◌, List, [], ◌∷◌}
use Rattle.std.proofs.Common.{◌++◌, length, map, drop, codes, Some, None, Option, refl, subst, arith}
use Rattle.std.proofs.lemmas.Bool.{cond_both, or_parts}
use Rattle.std.proofs.lemmas.List.{take-append-drop}
use Rattle.std.specs.List.{after_first, before_first, list_any, position_or_len}
use Rattle.std.specs.Prelude.{option_map}
use Rattle.model_lex.specs.believed.Sections.{goes_on, is_comment, is_ignored, opens_rule}
use Rattle.model_lex.specs.believed.Blanks.{is_all_blank}
use Rattle.model_parse.specs.believed.Written.{joined}
use Rattle.acts_front.specs.believed.Tokens.{Token, Name, Whole, Words, Truth, Relation, Arrow, Or, And, Not, Open, Close}
use Rattle.acts_front.specs.believed.Constraints.{Constraint, Pred, Preds, Negated, Plain, comparison_of, each_of, either_of}
use Rattle.acts_front.specs.Constraints.{conj_of}
use Rattle.acts_front.specs.believed.Constraints.{cons_of, disj_of, implied, is_and, is_arrow, is_or, parts, preds_of, unit_of}
use Rattle.constraint_ast.specs.believed.Grammar.{most_open}
use Rattle.acts_front.specs.believed.Translation.{constraint_text, token_text}
use Rattle.acts_front.proofs.Glued.{and_glued, and_some, glue, mapped_some, or_glued, or_some, spells_first}

-- what a constraint begins with: NOTs, then a parenthesis or a name
abbrev pub Leads : List Token → Type 0
Leads [] = ⊥
Leads (Name name ∷ rest) = Unit {0}
Leads (Whole text ∷ rest) = ⊥
Leads (Words text ∷ rest) = ⊥
Leads (Truth truth ∷ rest) = ⊥
Leads (Relation rel ∷ rest) = ⊥
Leads (Arrow ∷ rest) = ⊥
Leads (Or ∷ rest) = ⊥
Leads (And ∷ rest) = ⊥
Leads (Not ∷ rest) = Leads rest
Leads (Open ∷ rest) = Unit {0}
Leads (Close ∷ rest) = ⊥

leads_more : (front rest : List Token) → Leads front → Leads (front ++ rest)
leads_more [] rest leads = absurd leads
leads_more (Name name ∷ front) rest leads = tt
leads_more (Whole text ∷ front) rest leads = absurd leads
leads_more (Words text ∷ front) rest leads = absurd leads
leads_more (Truth truth ∷ front) rest leads = absurd leads
leads_more (Relation rel ∷ front) rest leads = absurd leads
leads_more (Arrow ∷ front) rest leads = absurd leads
leads_more (Or ∷ front) rest leads = absurd leads
leads_more (And ∷ front) rest leads = absurd leads
leads_more (Not ∷ front) rest leads = leads_more front rest leads
leads_more (Open ∷ front) rest leads = tt
leads_more (Close ∷ front) rest leads = absurd leads

comparison_leads : (tokens : List Token) (pred : Pred) → comparison_of tokens ≡ Some pred → Leads tokens
comparison_leads [] pred is = absurd (cc)
comparison_leads (Name name ∷ rest) pred is = tt
comparison_leads (Whole text ∷ rest) pred is = absurd (cc)
comparison_leads (Words text ∷ rest) pred is = absurd (cc)
comparison_leads (Truth truth ∷ rest) pred is = absurd (cc)
comparison_leads (Relation rel ∷ rest) pred is = absurd (cc)
comparison_leads (Arrow ∷ rest) pred is = absurd (cc)
comparison_leads (Or ∷ rest) pred is = absurd (cc)
comparison_leads (And ∷ rest) pred is = absurd (cc)
comparison_leads (Not ∷ rest) pred is = absurd (cc)
comparison_leads (Open ∷ rest) pred is = absurd (cc)
comparison_leads (Close ∷ rest) pred is = absurd (cc)

unit_leads : (room : ℕ) (tokens : List Token) (pred : Pred) → unit_of room tokens ≡ Some pred → Leads tokens
unit_leads zero tokens pred is = comparison_leads tokens pred is
unit_leads (suc room) [] pred is = absurd (cc)
unit_leads (suc room) (Not ∷ rest) pred is = let inner = mapped_some Negated (unit_of room rest) pred is in unit_leads room rest inner.0 inner.1
unit_leads (suc room) (Open ∷ rest) pred is = tt
unit_leads (suc room) (Name name ∷ rest) pred is = tt
unit_leads (suc room) (Whole text ∷ rest) pred is = absurd (cc)
unit_leads (suc room) (Words text ∷ rest) pred is = absurd (cc)
unit_leads (suc room) (Truth truth ∷ rest) pred is = absurd (cc)
unit_leads (suc room) (Relation rel ∷ rest) pred is = absurd (cc)
unit_leads (suc room) (Arrow ∷ rest) pred is = absurd (cc)
unit_leads (suc room) (Or ∷ rest) pred is = absurd (cc)
unit_leads (suc room) (And ∷ rest) pred is = absurd (cc)
unit_leads (suc room) (Close ∷ rest) pred is = absurd (cc)

-- the first part leads
glue_leads : (mark : Token) (part : List Token) (others : List (List Token)) → Leads part → Leads (glue mark (part ∷ others))
glue_leads mark part [] leads = leads
glue_leads mark part (next ∷ others) leads = leads_more part (mark ∷ glue mark (next ∷ others)) leads

parts_lead : (mark : Token) (read : List Token → Option Pred) → ((part : List Token) (pred : Pred) → read part ≡ Some pred → Leads part)
    → (list : List (List Token)) (preds : Preds) → 0 < length list → preds_of (map read list) ≡ Some preds → Leads (glue mark list)
parts_lead mark read leads [] preds some is = absurd (omega (arith, some))
parts_lead mark read leads (part ∷ others) preds some is =
    let first = spells_first read part others preds is in
    glue_leads mark part others (leads part first.pred first.first)

conj_leads : (room : ℕ) (tokens : List Token) (pred : Pred) → conj_of room tokens ≡ Some pred → Leads tokens
conj_leads room tokens pred is =
    let found = mapped_some each_of (preds_of (map (unit_of room) (parts is_and tokens))) pred is in
    subst Leads (and_glued tokens) (parts_lead And (unit_of room) (unit_leads room) (parts is_and tokens) found.0 (and_some tokens) found.1)

disj_leads : (room : ℕ) (tokens : List Token) (pred : Pred) → disj_of room tokens ≡ Some pred → Leads tokens
disj_leads room tokens pred is =
    let found = mapped_some either_of (preds_of (map (conj_of room) (parts is_or tokens))) pred is in
    subst Leads (or_glued tokens) (parts_lead Or (conj_of room) (conj_leads room) (parts is_or tokens) found.0 (or_some tokens) found.1)

cons_leads : (room : ℕ) (tokens : List Token) (constraint : Constraint) → cons_of room tokens ≡ Some constraint → Leads tokens
cons_leads room tokens constraint is = by (list_any is_arrow tokens) is
  where
    premise : (found : Option Pred) → disj_of room (before_first is_arrow tokens) ≡ found → implied found (disj_of room (after_first is_arrow tokens)) ≡ Some constraint → Leads tokens
    premise None found e = absurd (cc)
    premise (Some pred) found e =
        subst Leads (take-append-drop (position_or_len is_arrow tokens) tokens)
        (leads_more (before_first is_arrow tokens) (drop (position_or_len is_arrow tokens) tokens) (disj_leads room (before_first is_arrow tokens) pred found))

    by : (any : Bool)
        → (if any then implied (disj_of room (before_first is_arrow tokens)) (disj_of room (after_first is_arrow tokens)) else option_map Plain (disj_of room tokens)) ≡ Some constraint
        → Leads tokens
    by true e = premise (disj_of room (before_first is_arrow tokens)) refl e
    by false e = let found = mapped_some Plain (disj_of room tokens) constraint e in disj_leads room tokens found.0 found.1

-- ---- the text

words_open : (tokens : List Token) → Leads tokens → goes_on 0 (joined (codes " ") (map token_text tokens) ++ codes ";") ≡ true
words_open [] leads = absurd leads
words_open (Name name ∷ rest) leads = refl
words_open (Open ∷ rest) leads = refl
words_open (Not ∷ []) leads = absurd leads
words_open (Not ∷ token ∷ rest) leads = words_open (token ∷ rest) leads
words_open (Whole text ∷ rest) leads = absurd leads
words_open (Words text ∷ rest) leads = absurd leads
words_open (Truth truth ∷ rest) leads = absurd leads
words_open (Relation rel ∷ rest) leads = absurd leads
words_open (Arrow ∷ rest) leads = absurd leads
words_open (Or ∷ rest) leads = absurd leads
words_open (And ∷ rest) leads = absurd leads
words_open (Close ∷ rest) leads = absurd leads

words_seen : (tokens : List Token) → Leads tokens → is_ignored (joined (codes " ") (map token_text tokens) ++ codes ";") ≡ false
words_seen [] leads = absurd leads
words_seen (Name name ∷ rest) leads = refl
words_seen (Open ∷ rest) leads = refl
words_seen (Not ∷ rest) leads = refl
words_seen (Whole text ∷ rest) leads = absurd leads
words_seen (Words text ∷ rest) leads = absurd leads
words_seen (Truth truth ∷ rest) leads = absurd leads
words_seen (Relation rel ∷ rest) leads = absurd leads
words_seen (Arrow ∷ rest) leads = absurd leads
words_seen (Or ∷ rest) leads = absurd leads
words_seen (And ∷ rest) leads = absurd leads
words_seen (Close ∷ rest) leads = absurd leads

not_blank : (text : List ℕ) → is_ignored text ≡ false → is_all_blank text ≡ false
not_blank text seen = (or_parts (is_all_blank text) (is_comment text) seen).0

pub constraint_ignored : (tokens : List Token) (constraint : Constraint) → cons_of most_open tokens ≡ Some constraint → is_ignored (constraint_text tokens) ≡ false
constraint_ignored tokens constraint is =
    cond_both (list_any is_arrow tokens) (codes "IF ") [] (λ before. is_ignored (before ++ joined (codes " ") (map token_text tokens) ++ codes ";") ≡ false)
    (λ e. refl) (λ e. words_seen tokens (cons_leads most_open tokens constraint is))

pub constraint_opens : (tokens : List Token) (constraint : Constraint) → cons_of most_open tokens ≡ Some constraint → opens_rule (constraint_text tokens) ≡ true
constraint_opens tokens constraint is =
    let seen = constraint_ignored tokens constraint is in
    let opens : goes_on 0 (constraint_text tokens) ≡ true =
    cond_both (list_any is_arrow tokens) (codes "IF ") [] (λ before. goes_on 0 (before ++ joined (codes " ") (map token_text tokens) ++ codes ";") ≡ true)
    (λ e. words_open tokens (cons_leads most_open tokens constraint is)) (λ e. words_open tokens (cons_leads most_open tokens constraint is)) in
    rw (not_blank (constraint_text tokens) seen, opens) refl
