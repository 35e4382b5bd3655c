-- The grammar has one reading: what is read token by token is read in one way, and a state of that
-- reading has one code.
use Rattle.std.proofs.Common.{◌≡◌, ◌⊎◌, inl, inr, ℕ, zero, suc, List, [], ◌∷◌, ◌++◌, refl, ap, sym, subst, ◌∙◌, append_assoc, append-nil}
use Rattle.std.specs.Prelude.{Option, Some, None, Result, Ok, Err}
use Rattle.value_text.proofs.ListLemmas.{ok-err}
use Rattle.model_lex.specs.declared.diag.Diag.{Diag}
use Rattle.model_lex.specs.declared.diag.DiagCode.{DiagCode}
use Rattle.model_lex.specs.declared.diag.DiagCode.TheVariants.{PredicateExpected, RelationExpected, OperandExpected, MarkExpected, TooDeep}
use Rattle.constraint_ast.specs.believed.Trees.{Tree, RuleTree}
use Rattle.constraint_ast.specs.believed.Grammar.{at, AreRules, CanBegin, CannotGoOn, CouldDeeper, Could, Expects, Explains, Refused, last_line, refusal_line, most_open}
use Rattle.constraint_ast.specs.Laws.{GrammarHasOneReading, LinesHaveOneReading, OneRefusal, SomeReading}
use Rattle.constraint_ast.specs.believed.Lexing.{AreRefused, Spell, tokens_of}
use Rattle.constraint_ast.specs.Machine.{After, Around, Bad, Between, Done, InElse, InIf, InPlain, InThen, Itemed, Liked, Listed, Named, NamedNot, Need, Next, Opened, Outer}
use Rattle.constraint_ast.specs.Machine.{Paren, Related, SignNamed, SignOpened, Signed, Spot, State, Step, Top, begin, ended, finished, go_on, missing, need, run, step, with_rule}
use Rattle.constraint_ast.specs.declared.token.LineToken.{LineToken}
use Rattle.constraint_ast.specs.declared.token.RuleToken.{RuleToken}
use Rattle.constraint_ast.specs.declared.token.RuleToken.TheVariants.{Name, Literal, Relation, If, Then, Else, And, Or, Not, In, Like}
use Rattle.constraint_ast.specs.declared.token.RuleToken.TheVariants.{Sign, OpenParen, CloseParen, OpenBrace, CloseBrace, Comma, Semicolon}
use Rattle.constraint_ast.specs.declared.token.Sign.TheVariants.{Negative}
use Rattle.constraint_ast.specs.declared.tree.RawLiteral.TheVariants.{Words, Number}
use Rattle.constraint_ast.proofs.Complete.{rules_read}
use Rattle.constraint_ast.proofs.Refusal.{IsGood, Leads, could, could_not, leads_nowhere, leads_on, leads_past, refused, spelled}

-- ---- the place

-- two ways to cut a list: one part in front is the other, or begins with the other
cut :
    {A : Type 0} (front rest other behind : List A) → front ++ rest ≡ other ++ behind
    → ((front ≡ other) × (rest ≡ behind))
    ⊎ ((x : A) × (more : List A) × (other ≡ front ++ x ∷ more) × (rest ≡ x ∷ (more ++ behind)))
    ⊎ ((x : A) × (more : List A) × (front ≡ other ++ x ∷ more) × (behind ≡ x ∷ (more ++ rest)))
cut [] rest [] behind e = inl (refl, e)
cut [] rest (x ∷ other) behind e = inr (inl (x, other, refl, e))
cut (x ∷ front) rest [] behind e = inr (inr (x, front, refl, sym e))
cut {A = A} (x ∷ front) rest (y ∷ other) behind e = by (cut front rest other behind (cc))
  where
    by :
        ((front ≡ other) × (rest ≡ behind))
        ⊎ ((z : A) × (more : List A) × (other ≡ front ++ z ∷ more) × (rest ≡ z ∷ (more ++ behind)))
        ⊎ ((z : A) × (more : List A) × (front ≡ other ++ z ∷ more) × (behind ≡ z ∷ (more ++ rest)))
        → ((x ∷ front ≡ y ∷ other) × (rest ≡ behind))
        ⊎ ((z : A) × (more : List A) × (y ∷ other ≡ x ∷ front ++ z ∷ more) × (rest ≡ z ∷ (more ++ behind)))
        ⊎ ((z : A) × (more : List A) × (x ∷ front ≡ y ∷ other ++ z ∷ more) × (behind ≡ z ∷ (more ++ rest)))
    by (inl (same, left)) = inl (cc, left)
    by (inr (inl (z, more, is, left))) = inr (inl (z, more, cc, left))
    by (inr (inr (z, more, is, left))) = inr (inr (z, more, cc, left))

-- what begins constraints does so where it is cut behind a token
shorter : (room : ℕ) (front : List LineToken) (token : LineToken) (more : List LineToken) → CanBegin room (front ++ token ∷ more) → CanBegin room (front ++ token ∷ [])
shorter room front token more (behind, rules, are) = (
  more ++ behind,
  rules,
  subst (λ tokens. AreRules room tokens rules) (append_assoc front (token ∷ more) behind ∙ sym (append_assoc front (token ∷ []) (more ++ behind))) are,
)

-- it goes on past a place where nothing can
past_stuck :
    (room : ℕ) (front rest longer : List LineToken) (token : LineToken) (more behind : List LineToken) → CannotGoOn room front rest → rest ≡ token ∷ behind
    → longer ≡ front ++ token ∷ more → ¬ (CanBegin room longer)
past_stuck room front rest longer token more behind stuck is e begins =
    let here : CannotGoOn room front (token ∷ behind) = subst (λ rest. CannotGoOn room front rest) is stuck in
    here (shorter room front token more (subst (λ tokens. CanBegin room tokens) e begins))

same_place : (room : ℕ) (tokens : List LineToken) (diag other : Diag) (one : Refused room tokens diag) (two : Refused room tokens other) → (one.front ≡ two.front) × (one.rest ≡ two.rest)
same_place room tokens diag other one two =
    elim (cut one.front one.rest two.front two.rest (sym one.split ∙ two.split)) [
      | inl same ↦ same
      | inr (inl (token, more, e, is)) ↦ absurd (past_stuck room one.front one.rest two.front token more (more ++ two.rest) one.stuck is e two.begins)
      | inr (inr (token, more, e, is)) ↦ absurd (past_stuck room two.front two.rest one.front token more (more ++ one.rest) two.stuck is e one.begins)
    ]

-- ---- the code

-- tokens that begin constraints lead to a state
leads_to :
    (room : ℕ) (front more : List LineToken) (start : State) (rules : List RuleTree) → run room 0 (front ++ more) start ≡ Ok rules
    → (done : List RuleTree) × (state : State) × Leads room front done start state
leads_to room [] more start rules e = ([], start, leads_nowhere room start)
leads_to room (token ∷ front) more start rules e = by (step room start token.line token.token) refl e (λ next rules e. leads_to room front more next rules e)
  where
    later : (rule : RuleTree) (read : Result (List RuleTree) Diag) → with_rule rule read ≡ Ok rules → (rest : List RuleTree) × (read ≡ Ok rest)
    later rule (Ok rest) e = (rest, refl)
    later rule (Err diag) e = absurd (cc)

    by :
        (to : Step) → step room start token.line token.token ≡ to → go_on (run room 0 (front ++ more)) token.line to ≡ Ok rules
        → ((next : State) (rules : List RuleTree) → run room 0 (front ++ more) next ≡ Ok rules → (done : List RuleTree) × (state : State) × Leads room front done next state)
        → (done : List RuleTree) × (state : State) × Leads room (token ∷ front) done start state
    by (Next next) is e leads = let rest = leads next rules e in (rest.0, rest.1, leads_on room token front rest.0 start next rest.1 is rest.2)
    by (Done rule) is e leads =
        let left = later rule (run room 0 (front ++ more) Between) e in
        let rest = leads Between left.0 left.1 in
        (rule ∷ rest.0, rest.1, leads_past room token front rule rest.0 start rest.1 is rest.2)
    by (Bad code) is e leads = absurd (cc)

-- what is missing where a token could stand, but for names and `(`
abbrev asked : RuleToken → Option DiagCode
asked (Sign sign) = Some PredicateExpected
asked In = Some RelationExpected
asked (Literal x) = Some OperandExpected
asked CloseParen = Some MarkExpected
asked OpenBrace = Some MarkExpected
asked CloseBrace = Some MarkExpected
asked Then = Some MarkExpected
asked Semicolon = Some MarkExpected
asked token = None

need_asks : (left : ℕ) (around : Around) (line : ℕ) (token : RuleToken) (code : DiagCode) → IsGood (need left around line token) → asked token ≡ Some code → PredicateExpected ≡ code
need_asks left around line (Name name) code good e = absurd (cc)
need_asks left around line (Sign sign) code good e = cc
need_asks zero around line Not code good e = absurd good
need_asks (suc left) around line Not code good e = absurd (cc)
need_asks zero around line OpenParen code good e = absurd good
need_asks (suc left) around line OpenParen code good e = absurd (cc)
need_asks left around line token code good e = absurd good

begin_asks : (room line : ℕ) (token : RuleToken) (code : DiagCode) → IsGood (begin room line token) → asked token ≡ Some code → PredicateExpected ≡ code
begin_asks room line If code good e = absurd (cc)
begin_asks room line (Name name) code good e = absurd (cc)
begin_asks room line (Sign sign) code good e = cc
begin_asks zero line Not code good e = absurd good
begin_asks (suc room) line Not code good e = absurd (cc)
begin_asks zero line OpenParen code good e = absurd good
begin_asks (suc room) line OpenParen code good e = absurd (cc)
begin_asks room line token code good e = absurd good

ended_asks : (room : ℕ) (spot : Spot) (tree : Tree) (token : RuleToken) (code : DiagCode) → IsGood (ended room spot tree token) → asked token ≡ Some code → MarkExpected ≡ code
ended_asks room (InPlain line) tree Semicolon code good e = cc
ended_asks room (InPlain line) tree token code good e = absurd good
ended_asks room (InIf line) tree Then code good e = cc
ended_asks room (InIf line) tree token code good e = absurd good
ended_asks room (InThen line premise) tree Semicolon code good e = cc
ended_asks room (InThen line premise) tree Else code good e = absurd (cc)
ended_asks room (InThen line premise) tree token code good e = absurd good
ended_asks room (InElse line premise pred) tree Semicolon code good e = cc
ended_asks room (InElse line premise pred) tree token code good e = absurd good

finished_asks : (room : ℕ) (outer : Outer) (tree : Tree) (token : RuleToken) (code : DiagCode) → IsGood (finished room outer tree token) → asked token ≡ Some code → MarkExpected ≡ code
finished_asks room (Top spot) tree token code good e = ended_asks room spot tree token code good e
finished_asks room (Paren around) tree CloseParen code good e = cc
finished_asks room (Paren around) tree token code good e = absurd good

asks : (room : ℕ) (state : State) (line : ℕ) (token : RuleToken) (code : DiagCode) → IsGood (step room state line token) → asked token ≡ Some code → missing state ≡ code
asks room Between line token code good e = begin_asks room line token code good e
asks room (Need left around) line token code good e = need_asks left around line token code good e
asks room (Named left around at name) line (Relation rel) code good e = absurd (cc)
asks room (Named left around at name) line In code good e = cc
asks room (Named left around at name) line Like code good e = absurd (cc)
asks room (Named zero around at name) line Not code good e = absurd good
asks room (Named (suc left) around at name) line Not code good e = absurd (cc)
asks room (Named left around at name) line token code good e = absurd good
asks room (NamedNot around at name) line In code good e = cc
asks room (NamedNot around at name) line Like code good e = absurd (cc)
asks room (NamedNot around at name) line token code good e = absurd good
asks room (Related around at name rel) line (Literal x) code good e = cc
asks room (Related around at name rel) line (Name other) code good e = absurd (cc)
asks room (Related around at name rel) line token code good e = absurd good
asks room (Listed around at name) line OpenBrace code good e = cc
asks room (Listed around at name) line token code good e = absurd good
asks room (Opened around at name xs) line (Literal x) code good e = cc
asks room (Opened around at name xs) line token code good e = absurd good
asks room (Itemed around at name xs) line Comma code good e = absurd (cc)
asks room (Itemed around at name xs) line CloseBrace code good e = cc
asks room (Itemed around at name xs) line token code good e = absurd good
asks room (Liked around at name) line (Literal (Words text)) code good e = cc
asks room (Liked around at name) line (Literal (Number n)) code good e = absurd good
asks room (Liked around at name) line token code good e = absurd good
asks room (Signed around at sign) line OpenParen code good e = absurd (cc)
asks room (Signed around at sign) line token code good e = absurd good
asks room (SignOpened around at sign) line (Name name) code good e = absurd (cc)
asks room (SignOpened around at sign) line token code good e = absurd good
asks room (SignNamed around at sign name) line CloseParen code good e = cc
asks room (SignNamed around at sign name) line token code good e = absurd good
asks room (After left anys alls outer) line And code good e = absurd (cc)
asks room (After left anys alls outer) line Or code good e = absurd (cc)
asks room (After left anys alls outer) line token code good e = finished_asks room outer _ token code good e

-- where a name could stand and no unit, an operand is missing; where `(` could stand and no unit, a mark
name_asks : (room : ℕ) (state : State) → IsGood (step room state 0 (Name [])) → ¬ (IsGood (step room state 0 (Sign Negative))) → missing state ≡ OperandExpected
name_asks room Between good none = absurd (none tt)
name_asks room (Need left around) good none = absurd (none tt)
name_asks room (Related around at name rel) good none = refl
name_asks room (SignOpened around at sign) good none = refl
name_asks room (After left anys alls (Paren around)) good none = absurd good
name_asks room (After left anys alls (Top (InPlain line))) good none = absurd good
name_asks room (After left anys alls (Top (InIf line))) good none = absurd good
name_asks room (After left anys alls (Top (InThen line premise))) good none = absurd good
name_asks room (After left anys alls (Top (InElse line premise pred))) good none = absurd good
name_asks room state good none = absurd good

paren_asks : (room : ℕ) (state : State) → IsGood (step room state 0 OpenParen) → ¬ (IsGood (step room state 0 (Sign Negative))) → missing state ≡ MarkExpected
paren_asks room Between good none = absurd (none tt)
paren_asks room (Need left around) good none = absurd (none tt)
paren_asks room (Signed around at sign) good none = refl
paren_asks room (After left anys alls (Paren around)) good none = absurd good
paren_asks room (After left anys alls (Top (InPlain line))) good none = absurd good
paren_asks room (After left anys alls (Top (InIf line))) good none = absurd good
paren_asks room (After left anys alls (Top (InThen line premise))) good none = absurd good
paren_asks room (After left anys alls (Top (InElse line premise pred))) good none = absurd good
paren_asks room state good none = absurd good

module _ (room : ℕ) (front : List LineToken) (done : List RuleTree) (state : State) (leads : Leads room front done Between state) where
  good : (token : RuleToken) → Could room front token → IsGood (step room state 0 token)
  good token could_stand = by (step room state 0 token) refl
    where
      by : (to : Step) → step room state 0 token ≡ to → IsGood to
      by (Next next) e = tt
      by (Done rule) e = tt
      by (Bad code) e = absurd (could_not room front done state leads (at 0 token) code e could_stand)

  no_good : (token : RuleToken) → ¬ (Could room front token) → ¬ (IsGood (step room state 0 token))
  no_good token none is = none (could room front done state leads (at 0 token) is)

  asks_for : (token : RuleToken) (code : DiagCode) → asked token ≡ Some code → Could room front token → missing state ≡ code
  asks_for token code e could_stand = asks room state 0 token code (good token could_stand) e

  expected : (code : DiagCode) → Expects room code front → missing state ≡ code
  expected PredicateExpected there = asks_for (Sign Negative) PredicateExpected refl there
  expected RelationExpected there = asks_for In RelationExpected refl there
  expected OperandExpected (inl there) = asks_for (Literal (Words [])) OperandExpected refl there
  expected OperandExpected (inr (there, none)) = name_asks room state (good (Name []) there) (no_good (Sign Negative) none)
  expected MarkExpected (inl there) = asks_for CloseParen MarkExpected refl there
  expected MarkExpected (inr (inl there)) = asks_for OpenBrace MarkExpected refl there
  expected MarkExpected (inr (inr (inl there))) = asks_for CloseBrace MarkExpected refl there
  expected MarkExpected (inr (inr (inr (inl there)))) = asks_for Then MarkExpected refl there
  expected MarkExpected (inr (inr (inr (inr (inl there))))) = asks_for Semicolon MarkExpected refl there
  expected MarkExpected (inr (inr (inr (inr (inr (there, none)))))) = paren_asks room state (good OpenParen there) (no_good (Sign Negative) none)
  expected code there = absurd there

  -- a code is for want of room, or what is missing
  told : (rest : List LineToken) (code : DiagCode) → Explains room code front rest
      → ((code ≡ TooDeep) × CouldDeeper room front rest) ⊎ (¬ (CouldDeeper room front rest) × (missing state ≡ code))
  told rest TooDeep deep = inl (refl, deep)
  told rest code (none, there) = inr (none, expected code there)

  one_code : (rest : List LineToken) (code other : DiagCode) → Explains room code front rest → Explains room other front rest → code ≡ other
  one_code rest code other one two =
      elim (told rest code one) [
        | inl (is, deep) ↦ elim (told rest other two) [ inl (so, other_deep) ↦ is ∙ sym so | inr (none, so) ↦ absurd (none deep) ]
        | inr (none, is) ↦ elim (told rest other two) [ inl (so, deep) ↦ absurd (none deep) | inr (never, so) ↦ sym is ∙ so ]
      ]

-- ---- the laws

abbrev refusal_at : ℕ → DiagCode → Diag
refusal_at line code = record { line = line; code = code }

module _ (room : ℕ) (tokens : List LineToken) where
  one_reading : (rules others : List RuleTree) → AreRules room tokens rules → AreRules room tokens others → rules ≡ others
  one_reading rules others are also = same (rules_read are 0) (rules_read also 0)
    where
      same : {read : Result (List RuleTree) Diag} → read ≡ Ok rules → read ≡ Ok others → rules ≡ others
      same one other = cc

  read_or_refused : (rules : List RuleTree) (diag : Diag) → AreRules room tokens rules → ¬ (Refused room tokens diag)
  read_or_refused rules diag are refusal = at refusal.rest refusal.split refusal.stuck
    where
      at : (rest : List LineToken) → tokens ≡ refusal.front ++ rest → CannotGoOn room refusal.front rest → ⊥
      at [] e stuck = stuck rules (subst (λ tokens. AreRules room tokens rules) (e ∙ append-nil refusal.front) are)
      at (token ∷ rest) e stuck = stuck (rest, rules, subst (λ tokens. AreRules room tokens rules) (e ∙ sym (append_assoc refusal.front (token ∷ []) rest)) are)

  one_refusal : OneRefusal room tokens
  one_refusal diag other one two =
      let place = same_place room tokens diag other one two in
      let lines : diag.line ≡ other.line = one.line ∙ (ap (λ rest. refusal_line (last_line tokens) rest) place.1 ∙ sym two.line) in
      let there : Explains room other.code one.front one.rest =
      subst (λ front. Explains room other.code front one.rest) (sym place.0) (subst (λ rest. Explains room other.code two.front rest) (sym place.1) two.code) in
      let reads = rules_read one.begins.2 0 in
      let state = leads_to room one.front one.begins.0 Between one.begins.1 reads in
      let codes : diag.code ≡ other.code = one_code room one.front state.0 state.1 state.2 one.rest diag.code other.code one.code there in
      (place.0, ap (λ line. refusal_at line diag.code) lines ∙ ap (λ code. refusal_at other.line code) codes)

  some_reading : SomeReading room tokens
  some_reading = by (run room (last_line tokens) tokens Between) refl
    where
      by : (read : Result (List RuleTree) Diag) → run room (last_line tokens) tokens Between ≡ read → SomeReading room tokens
      by (Ok rules) e = inl (rules, spelled room (last_line tokens) tokens rules e)
      by (Err diag) e = inr (diag, refused room tokens diag e)

pub grammar_has_one_reading : GrammarHasOneReading
grammar_has_one_reading room tokens = (one_reading room tokens, read_or_refused room tokens, one_refusal room tokens, some_reading room tokens)

module _ (lines : List (ℕ × List ℕ)) where
  same_tokens : (tokens others : List LineToken) → tokens_of lines ≡ Ok tokens → tokens_of lines ≡ Ok others → others ≡ tokens
  same_tokens tokens others e other = cc

  same_fault : (diag other : Diag) → tokens_of lines ≡ Err diag → tokens_of lines ≡ Err other → diag ≡ other
  same_fault diag other e also = cc

  lines_one_reading : (rules others : List RuleTree) → Spell lines rules → Spell lines others → rules ≡ others
  lines_one_reading rules others (tokens, e, are) (more, also, is) =
      one_reading most_open tokens rules others are (subst (λ tokens. AreRules most_open tokens others) (same_tokens tokens more e also) is)

  lines_read_or_refused : (rules : List RuleTree) (diag : Diag) → Spell lines rules → ¬ (AreRefused lines diag)
  lines_read_or_refused rules diag (tokens, e, are) (inl fault) = ok-err tokens diag e fault
  lines_read_or_refused rules diag (tokens, e, are) (inr (more, also, refusal)) =
      read_or_refused most_open tokens rules diag are (subst (λ tokens. Refused most_open tokens diag) (same_tokens tokens more e also) refusal)

  lines_one_refusal : (diag other : Diag) → AreRefused lines diag → AreRefused lines other → diag ≡ other
  lines_one_refusal diag other (inl e) (inl also) = same_fault diag other e also
  lines_one_refusal diag other (inl e) (inr (tokens, is, refusal)) = absurd (ok-err tokens diag is e)
  lines_one_refusal diag other (inr (tokens, is, refusal)) (inl e) = absurd (ok-err tokens other is e)
  lines_one_refusal diag other (inr (tokens, is, one)) (inr (more, so, two)) =
      (one_refusal most_open tokens diag other one (subst (λ tokens. Refused most_open tokens other) (same_tokens tokens more is so) two)).1

  lines_some_reading : ((rules : List RuleTree) × Spell lines rules) ⊎ ((diag : Diag) × AreRefused lines diag)
  lines_some_reading = by (tokens_of lines) refl
    where
      told : (tokens : List LineToken) → tokens_of lines ≡ Ok tokens → SomeReading most_open tokens
          → ((rules : List RuleTree) × Spell lines rules) ⊎ ((diag : Diag) × AreRefused lines diag)
      told tokens e (inl (rules, are)) = inl (rules, (tokens, e, are))
      told tokens e (inr (diag, refusal)) = inr (diag, inr (tokens, e, refusal))

      by : (read : Result (List LineToken) Diag) → tokens_of lines ≡ read → ((rules : List RuleTree) × Spell lines rules) ⊎ ((diag : Diag) × AreRefused lines diag)
      by (Ok tokens) e = told tokens e (some_reading most_open tokens)
      by (Err diag) e = inr (diag, inl e)

pub lines_have_one_reading : LinesHaveOneReading
lines_have_one_reading lines = record {
  one_reading = lines_one_reading lines;
  read_or_refused = lines_read_or_refused lines;
  one_refusal = lines_one_refusal lines;
  some_reading = lines_some_reading lines;
}
