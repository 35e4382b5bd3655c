-- The table that was written covers what can be covered.
use Rattle.std.proofs.Common.{◌≡◌, ℕ, ◌^◌, ◌<◌, true, List, length, Option, None, Some, Result, Ok, Err, inl, inr, refl, sym, subst, arith}
use Rattle.std.specs.Prelude.{All, nat_lt, slice_index_or, IfSome, IsSomeAnd, option_and_then, option_map, unwrap_or}
use Rattle.std.proofs.lemmas.Bool.{ltb-false}
use Rattle.std.proofs.lemmas.List.Folds.{Any-from_list_any, list_any-from_Any}
use Rattle.value_text.proofs.ListLemmas.{one_ok}
use Rattle.cov_model.specs.believed.Sound.{ModelView, IsSound}
use Rattle.cov_model.specs.believed.Valid.{is_valid, serves}
use Rattle.cov_model.specs.Fits.{FitsModel}
use Rattle.cov_model.specs.Preference.{OrdersValues}
use Rattle.cov_model.proofs.PreferenceLemmas.{OrdersValues-preference}
use Rattle.cov_model.proofs.RowLemmas.{FitsModel-is_row}
use Rattle.definitions.specs.declared.effort.Effort.{Effort}
use Rattle.definitions.specs.believed.Demand.{choices, demanded_tuples}
use Rattle.definitions.specs.believed.Growth.{growth}
use Rattle.definitions.specs.believed.RowReading.{RowReading}
use Rattle.definitions.specs.SuiteLaws.{IsSoundProof}
use Rattle.definitions.specs.believed.SuiteProof.{IsProofOfSuite}
use Rattle.definitions.proofs.GrowthLaw.{suites_cover}
use Rattle.definitions.proofs.SuiteLaws.{suites_serve_or_refute}
use Rattle.outside_io.specs.believed.Files.{Files}
use Rattle.outside_io.specs.believed.Seen.{FolderSeen, SinkSeen}
use Rattle.refutation.specs.believed.Proofs.{format_of}
use Rattle.refutation.specs.declared.omissions.ProofForm.{ProofForm}
use Rattle.refutation.specs.declared.omissions.ProofForm.TheVariants.{One}
use Rattle.tuple_index.specs.believed.PlanFault as limits
use Rattle.tuple_index.specs.believed.PlanFault.{limit_passed}
use Rattle.tuple_index.specs.declared.fault.PlanFault.TheVariants.{TooManySets, TooManyTuples}
use Rattle.command_line.specs.believed.Stops.{stop_of_plan}
use Rattle.command_line.specs.declared.stop.Stop.{Stop}
use Rattle.pict_cli.specs.believed.Runs.{CoversOrRefutes, spent_at}
use Rattle.pict_cli.proofs.Headline.{suite_rows, second_false}
use Rattle.pict_cli.proofs.RunEnds.{a_form}
use Rattle.jeldroft_args.specs.declared.generate.Generate.{Generate}
use Rattle.jeldroft_args.specs.declared.proof_output.ProofOutput.{ProofOutput}
use Rattle.jeldroft_args.specs.declared.shrinking.Shrinking.{Shrinking}
use Rattle.shorter_suites.specs.believed.Laws as lines
use Rattle.jeldroft_files.specs.believed.Models.{opts_of}
use Rattle.jeldroft_files.specs.believed.Runs.{IsWritten, Moment, moment}
use Rattle.jeldroft_files.specs.declared.failure.Cause.{Cause}
use Rattle.jeldroft_files.specs.declared.failure.Failure.{Failure}
use Rattle.jeldroft_files.proofs.Ending.{written_since}
use Rattle.jeldroft_generate.specs.believed.Asked.{AreRowsFor, effort_of, orders_of, proof_form, proof_format, proof_name, question_over, rows_of}
use Rattle.jeldroft_generate.specs.Due.{Answers, IsMadeOf}
use Rattle.jeldroft_generate.specs.believed.Due.{AreHeld, CallsFor, Held, IsProof, Start, reading_of, start_of}
use Rattle.jeldroft_generate.specs.believed.Given.{GivesModel, and_then, unless}
use Rattle.jeldroft_generate.specs.believed.Runs.{Covers, WritesSuite, told_proof}
use Rattle.jeldroft_generate.specs.Runs.{Finishes}
use Rattle.jeldroft_generate.specs.declared.made.Made.{Made}
use Rattle.jeldroft_generate.proofs.Reading.{has_model}
use Rattle.jeldroft_generate.proofs.Runs.{not_zero, proof_of}

-- the rows of a suite fit its model
pub rows_fit : (args : Generate) (m : ModelView) (seeds : List (ℕ × List (Option ℕ))) → IsSound m → All (FitsModel m) (rows_of args m seeds)
rows_fit args m seeds sound = λ k d within. FitsModel-is_row m _ (suite_rows m args.shuffle seeds sound k d within)

-- and are valid
pub rows_valid : (args : Generate) (m : ModelView) (seeds : List (ℕ × List (Option ℕ))) → IsSound m → All (λ row. is_valid m row ≡ true) (rows_of args m seeds)
rows_valid args m seeds sound = (suites_cover m (orders_of args m) seeds sound (OrdersValues-preference m args.shuffle)).valid

-- rows in place of rows that cover what can be covered do so too
still_covers : (shrinking : Option Shrinking) (m : ModelView) (format : ℕ) (proof : Option (Option (List ℕ))) (grown seeds rows : List (List (Option ℕ)))
    → AreRowsFor shrinking m grown seeds rows → CoversOrRefutes m format proof grown → CoversOrRefutes m format proof rows
still_covers None m format proof grown seeds rows are covers = subst (CoversOrRefutes m format proof) (sym are) covers
still_covers (Some shrinking) m format proof grown seeds rows are covers = record {
  valid = are.valid;
  served = λ k d inside.
      let tuple = slice_index_or (demanded_tuples m) k d in
      elim (covers.served k d inside) [
        | inl some ↦ inl (Any-from_list_any (λ row. serves m row tuple) rows (are.serves k d inside (list_any-from_Any (λ row. serves m row tuple) grown some)))
        | inr none ↦ inr none
      ];
}

few_demanded : (m : ModelView) → limit_passed m ≡ None → length (demanded_tuples m) < 2 ^ 32
few_demanded m within =
    let few = ltb-false (2 ^ 26) (length (demanded_tuples m))
    (second_false (TooManySets (limits.saturated (length (choices m)))) (TooManyTuples (limits.saturated (length (demanded_tuples m))))
    (nat_lt (2 ^ 20) (length (choices m))) (nat_lt (2 ^ 26) (length (demanded_tuples m))) within) in
    omega (arith, few)

module _ (m : ModelView) (pref : List (List ℕ)) (seeds : List (ℕ × List (Option ℕ))) (effort : Effort) (sound : IsSound m) (orders : OrdersValues m pref) (within : limit_passed m ≡ None) where
  covers : (form : ProofForm) (proof : Option (Option (List ℕ))) → IfSome proof (λ held. IsSomeAnd held (IsProofOfSuite m pref seeds effort (format_of form)))
      → CoversOrRefutes m (format_of form) proof (growth m pref seeds).rows
  covers form None holds =
      let plain = suites_cover m pref seeds sound orders in
      record { valid = plain.valid; served = λ k d inside. elim (plain.served k d inside) [ inl some ↦ inl some | inr none ↦ inr (none, tt) ] }
  covers form (Some None) holds = absurd holds
  covers form (Some (Some bytes)) holds =
      let plain = suites_cover m pref seeds sound orders in
      let proof : IsSoundProof m pref seeds effort (format_of form) bytes = record {
        sound = sound;
        orders = orders;
        known = a_form form;
        few = few_demanded m within;
        proof = holds;
      } in
      record { valid = plain.valid; served = suites_serve_or_refute m pref seeds effort (format_of form) bytes proof }

  -- with what is told of the proof file
  covers_told : (asked : Option ProofOutput) (files : Files)
      → IfSome (option_map (λ p. p.name) asked) (λ name. IfSome (files name) (λ held. IsSomeAnd held (λ bytes.
      IfSome asked (λ p. IsProofOfSuite m pref seeds effort (format_of (proof_form p.format)) bytes))))
      → CoversOrRefutes m (format_of (unwrap_or (option_map (λ p. proof_form p.format) asked) One)) (option_and_then files (option_map (λ p. p.name) asked)) (growth m pref seeds).rows
  covers_told None files holds = covers One None tt
  covers_told (Some p) files holds = covers (proof_form p.format) (files p.name) holds

-- the seeds of a start
record Started (args : Generate) (held : Option (Option (List ℕ))) (m : ModelView) (start : Start) : Type 0 where
  reading : RowReading
  read : reading_of args m held ≡ Ok reading
  is : record { model = m; seeds = reading.rows } ≡ start

started : (args : Generate) (held : Option (Option (List ℕ))) (m : ModelView) (start : Start) → Ok start ≡ start_of args held m → Started args held m start
started args held m start is = at (option_map stop_of_plan (limit_passed m)) (reading_of args m held) refl is
  where
    answered : (reading : RowReading) (due : Option Stop) → reading_of args m held ≡ Ok reading
        → Ok start ≡ unless due (Ok (record { model = m; seeds = reading.rows })) → Started args held m start
    answered reading None read e = record { reading = reading; read = read; is = one_ok refl (sym e) }
    answered reading (Some stop) read e = let no : ⊥ = cc in absurd no

    at : (due : Option Stop) (given : Result RowReading Cause) → reading_of args m held ≡ given
        → Ok start ≡ unless due (and_then given (λ reading. unless (spent_at (effort_of args.budget) (question_over args m reading.rows)) (Ok (record { model = m; seeds = reading.rows })))) → Started args held m start
    at (Some stop) given read e = let no : ⊥ = cc in absurd no
    at None (Err cause) read e = let no : ⊥ = cc in absurd no
    at None (Ok reading) read e = answered reading (spent_at (effort_of args.budget) (question_over args m reading.rows)) read e

module _ (args : Generate) (held : Held) (before after : Moment) where
  abbrev IsCovered : ModelView → Type 0
  IsCovered m = (reading : RowReading) × (reading_of args m held.seeds ≡ Ok reading) × WritesSuite args m reading.rows before after

  covered : (start : Start) (m : ModelView) → Started args held.seeds m start → IsSound start.model → limit_passed start.model ≡ None
      → WritesSuite args start.model start.seeds before after → IsCovered m
  covered start m begun sound within writes = (begun.reading, begun.read, subst (λ (s : Start). WritesSuite args s.model s.seeds before after) (sym begun.is) writes)

  from_given : (start : Start) (given : Result ModelView Cause) → GivesModel (opts_of args.model args.strength) held.model given → Ok start ≡ and_then given (start_of args held.seeds)
      → IsSound start.model → limit_passed start.model ≡ None → WritesSuite args start.model start.seeds before after
      → (m : ModelView) × GivesModel (opts_of args.model args.strength) held.model (Ok m) × IsCovered m
  from_given start (Ok m) gives is sound within writes = (m, gives, covered start m (started args held.seeds m start is) sound within writes)
  from_given start (Err cause) gives is sound within writes = let no : ⊥ = cc in absurd no

-- after status 0 the table was written of a suite that covers what can be covered
pub covers_zero : (args : Generate) (folder read : FolderSeen) (out : SinkSeen) (after : Moment) (status : ℕ) (result : Result Made Failure)
    → ((held : Held) → AreHeld args folder.files held → Answers (CallsFor args held) (IsMadeOf args) result)
    → Finishes result (proof_name args) args.output (moment read out) after status → status ≡ 0 → Covers args (moment folder out) after
covers_zero args folder read out after status (Err failure) answers ends zero held is apart = absurd (not_zero failure.cause status ends.0 zero)
covers_zero args folder read out after status (Ok made) answers ends zero held is apart =
    let answer = answers held is in
    let start = answer.0 in
    let m = start.model in
    let made_of = answer.2 in
    let proof = proof_of (proof_name args) (IsProof args start) made.proof.items after.folder made_of.proof (ends.proof_written zero apart) in
    let writes : WritesSuite args m start.seeds (moment folder out) after = record {
      rows = made_of.table.rows;
      are = made_of.table.are;
      written = subst (λ text. IsWritten args.output text (moment folder out) after) made_of.table.is
          (written_since args.output made.table.items (moment folder out) (moment read out) after refl (ends.written zero));
      covers =
          still_covers args.shrinking m (proof_format args) (told_proof args after.folder.files) (rows_of args m start.seeds) (lines.rows_of start.seeds) made_of.table.rows made_of.table.are
          (covers_told m (orders_of args m) start.seeds (effort_of args.budget) made_of.sound (OrdersValues-preference m args.shuffle) made_of.within args.proof after.folder.files proof);
    } in
    let found = from_given args held (moment folder out) after start answer.1.given answer.1.gives answer.1.is made_of.sound made_of.within writes in
    has_model (opts_of args.model args.strength) held.model found.0 (IsCovered args held (moment folder out) after) found.1 found.2
