-- How the events of a file are found line by line.
use Rattle.std.proofs.Common.{◌≡◌, ℕ, ◌+◌, ◌^◌, ◌<◌, ◌≤◌, List, [], ◌∷◌, length, refl, arith, ◌∙◌, append_assoc, ap, sym, Some, None, Err}
use Rattle.std.proofs.lemmas.List.{append-nil}
use Rattle.std.specs.List.{enumerate_from}
use Rattle.model_lex.specs.believed.Lines.{file_lines}
use Rattle.seq_check.specs.believed.EventFile.{declared, events_in, events_unless, events_with, first_refusal, last_declaring, line_of, names_in, pairs_in, precedences, refusal}
use Rattle.seq_check.specs.Reading.{Declared, Reads, Refuses, SoFar, nothing_declared, with_line}
use Rattle.seq_check.specs.declared.fault.EventCode.{EventCode}
use Rattle.seq_check.specs.declared.fault.EventsFault.TheVariants.{Bad, TooMany, NoMemory}
use Rattle.seq_check.specs.declared.fault.EventsFault.{EventsFault}

pub begins : (rest : List ℕ) → length rest ≤ 2 ^ 28 → SoFar (enumerate_from 1 (file_lines rest)) nothing_declared 0 rest
begins rest few = record { refused = refl; names = refl; pairs = refl; last = refl; few = omega arith }

module _ {lines : List (ℕ × List ℕ)} {d : Declared} {line : ℕ} {rest text : List ℕ} (behind : List ℕ) (here : SoFar lines d line rest)
    (cut : file_lines rest ≡ text ∷ file_lines behind) (shorter : length behind < length rest) where
  pub reads : refusal d.names (line_of text) ≡ None → SoFar lines (with_line (line + 1) (line_of text) d) (line + 1) behind
  reads fine = record {
    refused = here.refused ∙ rw (cut, fine) refl;
    names = here.names ∙ rw cut (sym (append_assoc d.names (names_in (line_of text)) _));
    pairs = here.pairs ∙ rw cut (sym (append_assoc d.pairs (pairs_in d.names (line_of text)) _));
    last = here.last ∙ rw cut refl;
    few = omega arith;
  }

  pub refuses : (len : ℕ) (code : EventCode) → refusal d.names (line_of text) ≡ Some code → events_in len lines ≡ Err (Bad (line + 1) code)
  refuses len code fault = ap (λ refused. events_unless refused (events_with len (declared lines) (precedences [] lines) (last_declaring 0 lines))) refused
    where
      refused : first_refusal [] lines ≡ Some (line + 1, code)
      refused = here.refused ∙ rw (cut, fault) refl

  -- a line that is refused, or want of memory
  pub stops : (len : ℕ) (fault : EventsFault) → Refuses (line + 1) (refusal d.names (line_of text)) fault → Reads (events_in len lines) (Err fault)
  stops len (Bad number code) is = rw is.0 (refuses len code is.1)
  stops len (TooMany limit count) is = absurd is
  stops len NoMemory is = tt

pub ends : {lines : List (ℕ × List ℕ)} {d : Declared} {line : ℕ} (len : ℕ) (rest : List ℕ)
    → SoFar lines d line rest → length rest ≡ 0 → events_in len lines ≡ events_with len d.names d.pairs d.last
ends {lines = lines} {d = d} len [] here none =
    ap (λ refused. events_unless refused (events_with len (declared lines) (precedences [] lines) (last_declaring 0 lines))) here.refused
    ∙ ap (λ names. events_with len names (precedences [] lines) (last_declaring 0 lines)) (here.names ∙ append-nil d.names)
    ∙ ap (λ pairs. events_with len d.names pairs (last_declaring 0 lines)) (here.pairs ∙ append-nil d.pairs)
    ∙ ap (λ last. events_with len d.names d.pairs last) here.last
ends len (b ∷ rest) here none = absurd (omega arith)
