-- A refusal comes at the first token that can't go on, and its code says what could stand there.
use Rattle.std.proofs.Common.{◌≡◌, ◌⊎◌, inl, inr, ℕ, zero, suc, List, [], ◌∷◌, ◌++◌, refl, ap, sym, subst, ◌∙◌, append_assoc, append-nil}
use Rattle.std.specs.Prelude.{Result, Ok, Err}
use Rattle.value_text.proofs.ListLemmas.{ok-err}
use Rattle.model_lex.specs.declared.diag.Diag.{Diag}
use Rattle.model_lex.specs.declared.diag.DiagCode.{DiagCode}
use Rattle.model_lex.specs.declared.diag.DiagCode.TheVariants.{PredicateExpected, OperandExpected, MarkExpected, TooDeep}
use Rattle.constraint_ast.specs.believed.Trees.{Tree, RuleTree}
use Rattle.constraint_ast.specs.believed.Grammar.{at, AreRules, no_rule, CanBegin, CouldDeeper, Expects, Explains, Refused, last_line}
use Rattle.constraint_ast.specs.declared.token.LineToken.{LineToken}
use Rattle.constraint_ast.specs.declared.token.RuleToken.{RuleToken}
use Rattle.constraint_ast.specs.declared.token.RuleToken.TheVariants.{Name, Literal, Relation, If, Then, Else, And, Or, Not, In, Like}
use Rattle.constraint_ast.specs.declared.token.RuleToken.TheVariants.{Sign, OpenParen, CloseParen, OpenBrace, CloseBrace, Comma, Semicolon}
use Rattle.constraint_ast.specs.declared.token.Sign.TheVariants.{Negative}
use Rattle.constraint_ast.specs.declared.tree.RawLiteral.TheVariants.{Words, Number}
use Rattle.constraint_ast.specs.Machine.{After, Around, Bad, Between, Done, InElse, InIf, InPlain, InThen, Itemed, Liked, Listed, Named, NamedNot, Need, Next, Opened, Outer, Paren, Related}
use Rattle.constraint_ast.specs.Machine.{SignNamed, SignOpened, Signed, Spot, State, Step, Top, at_end, begin, ended, finished, go_on, missing, need, run, step, with_rule, with_rules}
use Rattle.constraint_ast.proofs.Complete.{rules_read, rules_refused}
use Rattle.constraint_ast.proofs.Sound.{Ends, EndsStep, led}
use Rattle.constraint_ast.proofs.Finish.{finishes}
use Rattle.constraint_ast.proofs.Deeper.{DeeperStep, deeper, deeper_outer, deeper_state, step_deeper}

-- some tokens lead from a state to another, past these constraints
pub record Leads (room : ℕ) (front : List LineToken) (done : List RuleTree) (start state : State) : Type 0 where
  pub runs : (last : ℕ) (more : List LineToken) → run room last (front ++ more) start ≡ with_rules done (run room last more state)
  pub ends : (more : List LineToken) (rules : List RuleTree) → Ends room state more rules → Ends room start (front ++ more) (done ++ rules)

pub leads_nowhere : (room : ℕ) (state : State) → Leads room [] [] state state
leads_nowhere room state = record { runs = λ last more. refl; ends = λ more rules ends. ends }

pub leads_on :
    (room : ℕ) (token : LineToken) (front : List LineToken) (done : List RuleTree) (start next state : State)
    → step room start token.line token.token ≡ Next next → Leads room front done next state → Leads room (token ∷ front) done start state
leads_on room token front done start next state e rest = record {
  runs = λ last more. ap (λ to. go_on (run room last (front ++ more)) token.line to) e ∙ rest.runs last more;
  ends = λ more rules ends. led room (front ++ more) (done ++ rules) start token.line token.token
      (subst (λ to. EndsStep room to (front ++ more) (done ++ rules)) (sym e) (rest.ends more rules ends));
}

pub leads_past :
    (room : ℕ) (token : LineToken) (front : List LineToken) (rule : RuleTree) (done : List RuleTree) (start state : State)
    → step room start token.line token.token ≡ Done rule → Leads room front done Between state → Leads room (token ∷ front) (rule ∷ done) start state
leads_past room token front rule done start state e rest = record {
  runs = λ last more. ap (λ to. go_on (run room last (front ++ more)) token.line to) e ∙ ap (λ read. with_rule rule read) (rest.runs last more);
  ends = λ more rules ends. led room (front ++ more) (rule ∷ (done ++ rules)) start token.line token.token
      (subst (λ to. EndsStep room to (front ++ more) (rule ∷ (done ++ rules))) (sym e) (done ++ rules, refl, rest.ends more rules ends));
}

-- where a run ends with a refusal
abbrev StopsAt : ℕ → ℕ → State → List LineToken → Diag → Type 0
StopsAt room last state [] diag = at_end last state ≡ Err diag
StopsAt room last state (token ∷ rest) diag = (code : DiagCode) × (step room state token.line token.token ≡ Bad code) × (diag ≡ record { line = token.line; code = code })

record Stop (room last : ℕ) (tokens : List LineToken) (start : State) (diag : Diag) : Type 0 where
  front : List LineToken
  rest : List LineToken
  done : List RuleTree
  state : State
  split : tokens ≡ front ++ rest
  leads : Leads room front done start state
  leads_deeper : Leads (suc room) front done (deeper_state start) (deeper_state state)
  stops : StopsAt room last state rest diag

no_rule_read : (rule : RuleTree) (read : Result (List RuleTree) Diag) (diag : Diag) → with_rule rule read ≡ Err diag → read ≡ Err diag
no_rule_read rule (Ok rules) diag e = absurd (cc)
no_rule_read rule (Err other) diag e = e

abbrev refusal : ℕ → DiagCode → Result (List RuleTree) Diag
refusal line code = Err (record { line = line; code = code })

refused_as : (code : DiagCode) (line : ℕ) (diag : Diag) → refusal line code ≡ Err diag → diag ≡ record { line = line; code = code }
refused_as code line diag e = cc

stop_on :
    (room last : ℕ) (token : LineToken) (tokens : List LineToken) (start : State) (diag : Diag) (to : Step) → step room start token.line token.token ≡ to
    → DeeperStep to (step (suc room) (deeper_state start) token.line token.token) → go_on (run room last tokens) token.line to ≡ Err diag
    → ((state : State) → run room last tokens state ≡ Err diag → Stop room last tokens state diag) → Stop room last (token ∷ tokens) start diag
stop_on room last token tokens start diag (Next next) e deep stops later =
    let stop = later next stops in
    record {
      front = token ∷ stop.front;
      rest = stop.rest;
      done = stop.done;
      state = stop.state;
      split = ap (λ tokens. token ∷ tokens) stop.split;
      leads = leads_on room token stop.front stop.done start next stop.state e stop.leads;
      leads_deeper = leads_on (suc room) token stop.front stop.done (deeper_state start) (deeper_state next) (deeper_state stop.state) deep stop.leads_deeper;
      stops = stop.stops;
    }
stop_on room last token tokens start diag (Done rule) e deep stops later =
    let stop = later Between (no_rule_read rule (run room last tokens Between) diag stops) in
    record {
      front = token ∷ stop.front;
      rest = stop.rest;
      done = rule ∷ stop.done;
      state = stop.state;
      split = ap (λ tokens. token ∷ tokens) stop.split;
      leads = leads_past room token stop.front rule stop.done start stop.state e stop.leads;
      leads_deeper = leads_past (suc room) token stop.front rule stop.done (deeper_state start) (deeper_state stop.state) deep stop.leads_deeper;
      stops = stop.stops;
    }
stop_on room last token tokens start diag (Bad code) e deep stops later = record {
  front = [];
  rest = token ∷ tokens;
  done = [];
  state = start;
  split = refl;
  leads = leads_nowhere room start;
  leads_deeper = leads_nowhere (suc room) (deeper_state start);
  stops = (code, e, refused_as code token.line diag stops);
}

stop : (room last : ℕ) (tokens : List LineToken) (start : State) (diag : Diag) → run room last tokens start ≡ Err diag → Stop room last tokens start diag
stop room last [] start diag stops = record {
  front = [];
  rest = [];
  done = [];
  state = start;
  split = refl;
  leads = leads_nowhere room start;
  leads_deeper = leads_nowhere (suc room) (deeper_state start);
  stops = stops;
}
stop room last (token ∷ tokens) start diag stops =
    stop_on room last token tokens start diag (step room start token.line token.token) refl
    (step_deeper room start token.line token.token) stops (λ state stops. stop room last tokens state diag stops)

-- what could stand behind some tokens, and what couldn't
abbrev pub IsGood : Step → Type 0
IsGood (Next state) = Unit {0}
IsGood (Done rule) = Unit {0}
IsGood (Bad code) = ⊥

step_finishes : (room : ℕ) (to : Step) → IsGood to → (from : List LineToken) × (rules : List RuleTree) × EndsStep room to from rules
step_finishes room (Next state) good = finishes room state
step_finishes room (Done rule) good = let rest = finishes room Between in (rest.0, rule ∷ rest.1, (rest.1, refl, rest.2))
step_finishes room (Bad code) good = absurd good

module _ (room : ℕ) (front : List LineToken) (done : List RuleTree) (state : State) (leads : Leads room front done Between state) where
  can_begin : CanBegin room front
  can_begin = let rest = finishes room state in (rest.0, done ++ rest.1, leads.ends rest.0 rest.1 rest.2)

  pub could : (token : LineToken) → IsGood (step room state token.line token.token) → CanBegin room (front ++ token ∷ [])
  could token good =
      let rest = step_finishes room (step room state token.line token.token) good in (
        rest.0,
        done ++ rest.1,
        subst (λ tokens. AreRules room tokens (done ++ rest.1)) (sym (append_assoc front (token ∷ []) rest.0))
            (leads.ends (token ∷ rest.0) rest.1 (led room rest.0 rest.1 state token.line token.token rest.2)),
      )

  pub could_not : (token : LineToken) (code : DiagCode) → step room state token.line token.token ≡ Bad code → ¬ (CanBegin room (front ++ token ∷ []))
  could_not token code e (more, rules, spelled) =
      ok-err _ _ (rules_read (subst (λ tokens. AreRules room tokens rules) (append_assoc front (token ∷ []) more) spelled) 0)
      (
      leads.runs 0 (token ∷ more)
      ∙ (ap (λ to. with_rules done (go_on (run room 0 more) token.line to)) e ∙ rules_refused done (record { line = token.line; code = code }))
      )

  could_not_end : (diag : Diag) → at_end 0 state ≡ Err diag → (rules : List RuleTree) → ¬ (AreRules room front rules)
  could_not_end diag e rules spelled =
      ok-err _ _ (rules_read (subst (λ tokens. AreRules room tokens rules) (sym (append-nil front)) spelled) 0)
      (leads.runs 0 [] ∙ (ap (λ read. with_rules done read) e ∙ rules_refused done diag))

-- what a state waits for could stand there
expects : (room : ℕ) (front : List LineToken) (done : List RuleTree) (state : State) → Leads room front done Between state → Expects room (missing state) front
expects room front done Between leads = could room front done Between leads (at 0 (Sign Negative)) tt
expects room front done (Need left around) leads = could room front done (Need left around) leads (at 0 (Sign Negative)) tt
expects room front done (Named left around line name) leads = could room front done (Named left around line name) leads (at 0 In) tt
expects room front done (NamedNot around line name) leads = could room front done (NamedNot around line name) leads (at 0 In) tt
expects room front done (Related around line name rel) leads = inl (could room front done (Related around line name rel) leads (at 0 (Literal (Words []))) tt)
expects room front done (Listed around line name) leads = inr (inl (could room front done (Listed around line name) leads (at 0 OpenBrace) tt))
expects room front done (Opened around line name xs) leads = inl (could room front done (Opened around line name xs) leads (at 0 (Literal (Words []))) tt)
expects room front done (Itemed around line name xs) leads = inr (inr (inl (could room front done (Itemed around line name xs) leads (at 0 CloseBrace) tt)))
expects room front done (Liked around line name) leads = inl (could room front done (Liked around line name) leads (at 0 (Literal (Words []))) tt)
expects room front done (Signed around line sign) leads =
    inr (inr (inr (inr (inr (
      could room front done (Signed around line sign) leads (at 0 OpenParen) tt,
      could_not room front done (Signed around line sign) leads (at 0 (Sign Negative)) MarkExpected refl,
    )))))
expects room front done (SignOpened around line sign) leads = inr (
  could room front done (SignOpened around line sign) leads (at 0 (Name [])) tt,
  could_not room front done (SignOpened around line sign) leads (at 0 (Sign Negative)) OperandExpected refl,
)
expects room front done (SignNamed around line sign name) leads = inl (could room front done (SignNamed around line sign name) leads (at 0 CloseParen) tt)
expects room front done (After left anys alls (Paren around)) leads = inl (could room front done (After left anys alls (Paren around)) leads (at 0 CloseParen) tt)
expects room front done (After left anys alls (Top (InPlain line))) leads = inr (inr (inr (inr (inl (could room front done (After left anys alls (Top (InPlain line))) leads (at 0 Semicolon) tt)))))
expects room front done (After left anys alls (Top (InIf line))) leads = inr (inr (inr (inl (could room front done (After left anys alls (Top (InIf line))) leads (at 0 Then) tt))))
expects room front done (After left anys alls (Top (InThen line premise))) leads =
    inr (inr (inr (inr (inl (could room front done (After left anys alls (Top (InThen line premise))) leads (at 0 Semicolon) tt)))))
expects room front done (After left anys alls (Top (InElse line premise pred))) leads =
    inr (inr (inr (inr (inl (could room front done (After left anys alls (Top (InElse line premise pred))) leads (at 0 Semicolon) tt)))))

-- a code that isn't for want of room
explains : (room : ℕ) (state : State) (front rest : List LineToken) → ¬ (CouldDeeper room front rest) → Expects room (missing state) front → Explains room (missing state) front rest
explains room Between front rest none waits = (none, waits)
explains room (Need left around) front rest none waits = (none, waits)
explains room (Named left around line name) front rest none waits = (none, waits)
explains room (NamedNot around line name) front rest none waits = (none, waits)
explains room (Related around line name rel) front rest none waits = (none, waits)
explains room (Listed around line name) front rest none waits = (none, waits)
explains room (Opened around line name xs) front rest none waits = (none, waits)
explains room (Itemed around line name xs) front rest none waits = (none, waits)
explains room (Liked around line name) front rest none waits = (none, waits)
explains room (Signed around line sign) front rest none waits = (none, waits)
explains room (SignOpened around line sign) front rest none waits = (none, waits)
explains room (SignNamed around line sign name) front rest none waits = (none, waits)
explains room (After left anys alls outer) front rest none waits = (none, waits)

-- a refused token is refused for want of room, or for what is missing
abbrev IsRefusal : DiagCode → Step → Step → Type 0
IsRefusal code (Next state) deep = Unit {0}
IsRefusal code (Done rule) deep = Unit {0}
IsRefusal code (Bad other) deep = ((other ≡ TooDeep) × IsGood deep) ⊎ ((other ≡ code) × (deep ≡ Bad other))

need_refusal : (left : ℕ) (around deep : Around) (line : ℕ) (token : RuleToken) → IsRefusal PredicateExpected (need left around line token) (need (suc left) deep line token)
need_refusal left around deep line (Name name) = tt
need_refusal left around deep line (Sign sign) = tt
need_refusal zero around deep line Not = inl (refl, tt)
need_refusal (suc left) around deep line Not = tt
need_refusal zero around deep line OpenParen = inl (refl, tt)
need_refusal (suc left) around deep line OpenParen = tt
need_refusal left around deep line token = inr (refl, refl)

begin_refusal : (room line : ℕ) (token : RuleToken) → IsRefusal PredicateExpected (begin room line token) (begin (suc room) line token)
begin_refusal room line If = tt
begin_refusal room line (Name name) = tt
begin_refusal room line (Sign sign) = tt
begin_refusal zero line Not = inl (refl, tt)
begin_refusal (suc room) line Not = tt
begin_refusal zero line OpenParen = inl (refl, tt)
begin_refusal (suc room) line OpenParen = tt
begin_refusal room line token = inr (refl, refl)

ended_refusal : (room : ℕ) (spot : Spot) (tree : Tree) (token : RuleToken) → IsRefusal MarkExpected (ended room spot tree token) (ended (suc room) spot tree token)
ended_refusal room (InPlain line) tree Semicolon = tt
ended_refusal room (InPlain line) tree token = inr (refl, refl)
ended_refusal room (InIf line) tree Then = tt
ended_refusal room (InIf line) tree token = inr (refl, refl)
ended_refusal room (InThen line premise) tree Semicolon = tt
ended_refusal room (InThen line premise) tree Else = tt
ended_refusal room (InThen line premise) tree token = inr (refl, refl)
ended_refusal room (InElse line premise pred) tree Semicolon = tt
ended_refusal room (InElse line premise pred) tree token = inr (refl, refl)

finished_refusal : (room : ℕ) (outer : Outer) (tree : Tree) (token : RuleToken) → IsRefusal MarkExpected (finished room outer tree token) (finished (suc room) (deeper_outer outer) tree token)
finished_refusal room (Top spot) tree token = ended_refusal room spot tree token
finished_refusal room (Paren around) tree CloseParen = tt
finished_refusal room (Paren around) tree token = inr (refl, refl)

step_refusal : (room : ℕ) (state : State) (line : ℕ) (token : RuleToken) → IsRefusal (missing state) (step room state line token) (step (suc room) (deeper_state state) line token)
step_refusal room Between line token = begin_refusal room line token
step_refusal room (Need left around) line token = need_refusal left around (deeper around) line token
step_refusal room (Named left around at name) line (Relation rel) = tt
step_refusal room (Named left around at name) line In = tt
step_refusal room (Named left around at name) line Like = tt
step_refusal room (Named zero around at name) line Not = inl (refl, tt)
step_refusal room (Named (suc left) around at name) line Not = tt
step_refusal room (Named left around at name) line token = inr (refl, refl)
step_refusal room (NamedNot around at name) line In = tt
step_refusal room (NamedNot around at name) line Like = tt
step_refusal room (NamedNot around at name) line token = inr (refl, refl)
step_refusal room (Related around at name rel) line (Literal x) = tt
step_refusal room (Related around at name rel) line (Name other) = tt
step_refusal room (Related around at name rel) line token = inr (refl, refl)
step_refusal room (Listed around at name) line OpenBrace = tt
step_refusal room (Listed around at name) line token = inr (refl, refl)
step_refusal room (Opened around at name xs) line (Literal x) = tt
step_refusal room (Opened around at name xs) line token = inr (refl, refl)
step_refusal room (Itemed around at name xs) line Comma = tt
step_refusal room (Itemed around at name xs) line CloseBrace = tt
step_refusal room (Itemed around at name xs) line token = inr (refl, refl)
step_refusal room (Liked around at name) line (Literal (Words text)) = tt
step_refusal room (Liked around at name) line (Literal (Number n)) = inr (refl, refl)
step_refusal room (Liked around at name) line token = inr (refl, refl)
step_refusal room (Signed around at sign) line OpenParen = tt
step_refusal room (Signed around at sign) line token = inr (refl, refl)
step_refusal room (SignOpened around at sign) line (Name name) = tt
step_refusal room (SignOpened around at sign) line token = inr (refl, refl)
step_refusal room (SignNamed around at sign name) line CloseParen = tt
step_refusal room (SignNamed around at sign name) line token = inr (refl, refl)
step_refusal room (After left anys alls outer) line And = tt
step_refusal room (After left anys alls outer) line Or = tt
step_refusal room (After left anys alls outer) line token = finished_refusal room outer _ token

-- what stops at the end waits for something there, wherever the end is told
end_waits : (last : ℕ) (state : State) (diag : Diag) → at_end last state ≡ Err diag
    → (at_end 0 state ≡ Err (record { line = 0; code = missing state })) × (diag ≡ record { line = last; code = missing state })
end_waits last Between diag e = absurd (cc)
end_waits last (Need left around) diag e = (refl, cc)
end_waits last (Named left around line name) diag e = (refl, cc)
end_waits last (NamedNot around line name) diag e = (refl, cc)
end_waits last (Related around line name rel) diag e = (refl, cc)
end_waits last (Listed around line name) diag e = (refl, cc)
end_waits last (Opened around line name xs) diag e = (refl, cc)
end_waits last (Itemed around line name xs) diag e = (refl, cc)
end_waits last (Liked around line name) diag e = (refl, cc)
end_waits last (Signed around line sign) diag e = (refl, cc)
end_waits last (SignOpened around line sign) diag e = (refl, cc)
end_waits last (SignNamed around line sign name) diag e = (refl, cc)
end_waits last (After left anys alls outer) diag e = (refl, cc)

module _ (room : ℕ) (tokens : List LineToken) (diag : Diag) where
  refused_at :
      (front rest : List LineToken) (done : List RuleTree) (state : State) → tokens ≡ front ++ rest → Leads room front done Between state
      → Leads (suc room) front done Between (deeper_state state) → StopsAt room (last_line tokens) state rest diag → Refused room tokens diag
  refused_at front [] done state split leads deep stops =
      let waits = end_waits (last_line tokens) state diag stops in
      record {
        front = front;
        rest = [];
        split = split;
        line = ap (λ diag. diag.line) waits.1;
        begins = can_begin room front done state leads;
        stuck = could_not_end room front done state leads (record { line = 0; code = missing state }) waits.0;
        code = subst (λ code. Explains room code front []) (sym (ap (λ diag. diag.code) waits.1)) (explains room state front [] (λ deeper. deeper) (expects room front done state leads));
      }
  refused_at front (token ∷ rest) done state split leads deep (code, bad, is) =
      record {
        front = front;
        rest = token ∷ rest;
        split = split;
        line = ap (λ diag. diag.line) is;
        begins = can_begin room front done state leads;
        stuck = could_not room front done state leads token code bad;
        code = subst (λ code. Explains room code front (token ∷ rest)) (sym (ap (λ diag. diag.code) is))
            (why (subst (λ to. IsRefusal (missing state) to (step (suc room) (deeper_state state) token.line token.token)) bad (step_refusal room state token.line token.token)));
      }
    where
      why : IsRefusal (missing state) (Bad code) (step (suc room) (deeper_state state) token.line token.token) → Explains room code front (token ∷ rest)
      why (inl (deeper, good)) = subst (λ code. Explains room code front (token ∷ rest)) (sym deeper) (could (suc room) front done (deeper_state state) deep token good)
      why (inr (same, still)) =
          subst (λ code. Explains room code front (token ∷ rest)) (sym same)
          (explains room state front (token ∷ rest) (could_not (suc room) front done (deeper_state state) deep token code still) (expects room front done state leads))

pub refused : (room : ℕ) (tokens : List LineToken) (diag : Diag) → run room (last_line tokens) tokens Between ≡ Err diag → Refused room tokens diag
refused room tokens diag e =
    let stopped = stop room (last_line tokens) tokens Between diag e in
    refused_at room tokens diag stopped.front stopped.rest stopped.done stopped.state stopped.split stopped.leads stopped.leads_deeper stopped.stops

-- what is read is spelled
pub spelled : (room last : ℕ) (tokens : List LineToken) (rules : List RuleTree) → run room last tokens Between ≡ Ok rules → AreRules room tokens rules
spelled room last tokens rules e = reads tokens Between rules e
  where
    step_reads :
        (token : LineToken) (tokens : List LineToken) (rules : List RuleTree) (to : Step) → go_on (run room last tokens) token.line to ≡ Ok rules
        → ((state : State) (rules : List RuleTree) → run room last tokens state ≡ Ok rules → Ends room state tokens rules) → EndsStep room to tokens rules
    step_reads token tokens rules (Next state) e later = later state rules e
    step_reads token tokens rules (Done rule) e later = past (run room last tokens Between) e (λ rest e. later Between rest e)
      where
        past :
            (read : Result (List RuleTree) Diag) → with_rule rule read ≡ Ok rules → ((rest : List RuleTree) → read ≡ Ok rest → AreRules room tokens rest)
            → (rest : List RuleTree) × (rules ≡ rule ∷ rest) × AreRules room tokens rest
        past (Ok rest) e later = (rest, cc, later rest refl)
        past (Err diag) e later = absurd (cc)
    step_reads token tokens rules (Bad code) e later = absurd (cc)

    end_reads : (state : State) (rules : List RuleTree) → at_end last state ≡ Ok rules → Ends room state [] rules
    end_reads Between rules e = subst (λ rules. AreRules room [] rules) (rules_are rules e) no_rule
      where
        rules_are : (rules : List RuleTree) → at_end last Between ≡ Ok rules → [] ≡ rules
        rules_are rules e = cc
    end_reads (Need left around) rules e = absurd (cc)
    end_reads (Named left around line name) rules e = absurd (cc)
    end_reads (NamedNot around line name) rules e = absurd (cc)
    end_reads (Related around line name rel) rules e = absurd (cc)
    end_reads (Listed around line name) rules e = absurd (cc)
    end_reads (Opened around line name xs) rules e = absurd (cc)
    end_reads (Itemed around line name xs) rules e = absurd (cc)
    end_reads (Liked around line name) rules e = absurd (cc)
    end_reads (Signed around line sign) rules e = absurd (cc)
    end_reads (SignOpened around line sign) rules e = absurd (cc)
    end_reads (SignNamed around line sign name) rules e = absurd (cc)
    end_reads (After left anys alls outer) rules e = absurd (cc)

    reads : (tokens : List LineToken) (state : State) (rules : List RuleTree) → run room last tokens state ≡ Ok rules → Ends room state tokens rules
    reads [] state rules e = end_reads state rules e
    reads (token ∷ tokens) state rules e =
        led room tokens rules state token.line token.token (step_reads token tokens rules (step room state token.line token.token) e (λ state rules e. reads tokens state rules e))
