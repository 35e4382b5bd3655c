-- What a report that was printed whole holds covers what can be covered.
use Rattle.std.proofs.Common.{◌≡◌, ℕ, ◌+◌, ◌<◌, ◌≤◌, ◌^◌, ◌⊎◌, true, false, Bool, List, [], ◌∷◌, map, length, Option, None, Some, Ok, inl, inr, refl, sym, ap, subst, ◌∙◌, arith}
use Rattle.std.specs.Prelude.{All, ◌&&◌, nat_le, nat_lt, if◌then◌else◌, slice_index_or, option_map, option_and_then, IfSome, IsOkAnd, IsSomeAnd}
use Rattle.std.specs.List.{enumerate_from, list_all}
use Rattle.std.specs.Option.{option_or}
use Rattle.outside_io.specs.declared.answers.WriteAnswer.TheVariants.{Done}
use Rattle.outside_io.specs.believed.Puts.{PutsBytes}
use Rattle.cov_model.specs.believed.Sound.{ModelView, IsSound}
use Rattle.cov_model.specs.Preference.{OrdersValues}
use Rattle.cov_model.specs.believed.Preference.{preference}
use Rattle.cov_model.specs.believed.Meaning.{body_holds}
use Rattle.cov_model.specs.believed.Valid.{is_row, is_valid, negatives}
use Rattle.cov_model.proofs.PreferenceLemmas.{OrdersValues-preference}
use Rattle.std.proofs.lemmas.Bool.{and_parts, cases_Bool, false≢true, ltb-false}
use Rattle.std.proofs.lemmas.Option.{none-some}
use Rattle.definitions.specs.believed.Covering.{HasFewRows}
use Rattle.definitions.specs.believed.Demand.{choices, demanded_tuples}
use Rattle.definitions.specs.believed.Limits.{Rows, most_counted}
use Rattle.definitions.specs.believed.Settings.{Settings}
use Rattle.definitions.specs.SuiteLaws.{IsSoundProof}
use Rattle.definitions.proofs.SuiteLaws.{suite_proofs_are_accepted, suite_proofs_list, suite_proofs_read_back, suites_serve_or_refute}
use Rattle.suspect_tuples.specs.believed.ResultReading.{ResultReading}
use Rattle.tuple_index.specs.believed.PlanFault.{limit_passed}
use Rattle.tuple_index.specs.believed.PlanFault as limits
use Rattle.tuple_index.specs.declared.fault.PlanFault.{PlanFault}
use Rattle.tuple_index.specs.declared.fault.PlanFault.TheVariants.{TooManySets, TooManyTuples}
use Rattle.definitions.specs.believed.Growth.{growth}
use Rattle.definitions.specs.believed.Report.{report_text}
use Rattle.definitions.specs.believed.RowFile.{rows_of}
use Rattle.definitions.proofs.GrowthLaw.{growth_covers, suites_cover, suites_have_few_rows}
use Rattle.definitions.specs.believed.Verdict.{Accepted, verdict}
use Rattle.definitions.proofs.ReadBack.{read_back}
use Rattle.definitions.proofs.ReportRead.{reports_are_read}
use Rattle.model_lex.specs.declared.note.Note.{Note}
use Rattle.command_line.specs.believed.Stops.{stop_of_plan}
use Rattle.command_line.specs.declared.stop.Stop.{Stop}
use Rattle.pict_cli.specs.believed.Ends.{Moment}
use Rattle.pict_cli.specs.believed.Modes.{Generate, Measure, Mode, Report, RowSource, Statistics, Suspect, is_report, makes_plan, mode_of, prints_rows}
use Rattle.pict_cli.specs.Modes.{makes_suite}
use Rattle.pict_cli.specs.believed.Runs.{AreContained, CoversOrRefutes, EndsBehind, HoldsWholeProof, IsAcceptedWith, IsProof, PrintsSuite}
use Rattle.pict_cli.specs.believed.Runs.{RunsModel, cannot_write, cannot_write_proof, comes_whole, given_of, growth_of}
use Rattle.pict_cli.specs.believed.Runs.{must_stop, no_memory, out_text, rows_of_run, rows_unread, seeds_kept, shuffled_by, stop_due, text_in, told_proof}

-- valid rows are rows
are_rows : (m : ModelView) (rows : List (List (Option ℕ))) → All (λ row. is_valid m row ≡ true) rows → All (λ row. is_row m row ≡ true) rows
are_rows m rows valid k d within =
    let row = slice_index_or rows k d in
    let holds = list_all (λ rule. body_holds m rule.body row) m.rules in
    (and_parts (is_row m row) holds (and_parts (is_row m row && holds) (nat_le (length (negatives m row)) 1) (valid k d within)).0).0

-- what was printed whole holds the rows of the suite
read_suite : (m : ModelView) (pref : List (List ℕ)) (seeds : List (ℕ × List (Option ℕ))) → IsSound m → OrdersValues m pref
    → rows_of m (report_text m (growth m pref seeds).rows) ≡ (growth m pref seeds).rows
read_suite m pref seeds sound orders =
    read_back m (growth m pref seeds).rows sound (are_rows m (growth m pref seeds).rows (suites_cover m pref seeds sound orders).valid)

-- rows with numbers before them
enumerated : {X : Type 0} (n : ℕ) (xs : List X) → map (λ line. line.1) (enumerate_from n xs) ≡ xs
enumerated n [] = refl
enumerated n (x ∷ xs) = ap (λ rest. x ∷ rest) (enumerated (n + 1) xs)

-- the text of a run that prints rows
report_printed : (mode : Mode) (s : Settings) (seed : ℕ) (m : ModelView) (given : ResultReading) → is_report mode ≡ true
    → text_in mode s seed m given ≡ report_text m (growth_of s seed m given.rows.rows).rows
report_printed (Generate Report) s seed m given is = refl
report_printed (Generate Statistics) s seed m given is = absurd (false≢true is)
report_printed (Measure name) s seed m given is = absurd (false≢true is)
report_printed (Suspect name) s seed m given is = absurd (false≢true is)

-- such a run, and any that generates a suite, goes by a plan
report_plans : (mode : Mode) → is_report mode ≡ true → makes_plan mode ≡ true
report_plans (Generate output) is = refl
report_plans (Measure name) is = refl
report_plans (Suspect name) is = is

suite_plans : (mode : Mode) → makes_suite mode ≡ true → makes_plan mode ≡ true
suite_plans (Generate output) is = refl
suite_plans (Measure name) is = refl
suite_plans (Suspect name) is = is

-- a run that came to its end needn't stop, and so passes no limit
not_due : (s : Settings) (seed : ℕ) (m : ModelView) (source : RowSource) (notes : List Note) → EndsBehind s seed m source notes (Ok tt) → stop_due s seed m source ≡ None
not_due s seed m source notes (comes_whole e due told) = due
not_due s seed m source notes (no_memory count e told) = let no : ⊥ = cc in absurd no
not_due s seed m source notes (rows_unread e within told) = let no : ⊥ = cc in absurd no
not_due s seed m source notes (must_stop stop e due told) = let no : ⊥ = cc in absurd no
not_due s seed m source notes (cannot_write_proof name e asked due told) = let no : ⊥ = cc in absurd no
not_due s seed m source notes (cannot_write e due told) = let no : ⊥ = cc in absurd no

within_limits : (passed : Option PlanFault) (plans : Bool) (rest : Option Stop) → plans ≡ true
    → option_or (if plans then option_map stop_of_plan passed else None) rest ≡ None → passed ≡ None
within_limits None plans rest is e = refl
within_limits (Some fault) true rest is e = absurd (none-some (stop_of_plan fault) (sym e))
within_limits (Some fault) false rest is e = absurd (false≢true is)

-- the second of two limits isn't passed
pub second_false : {X : Type 0} (x y : X) (first second : Bool) → (if first then Some x else if second then Some y else None) ≡ None → second ≡ false
second_false x y true second none = absurd (none-some x (sym none))
second_false x y false true none = absurd (none-some y (sym none))
second_false x y false false none = refl

-- what a run left that came to its end
module _ (s : Settings) (seed : ℕ) (m : ModelView) (source : RowSource) (notes : List Note) (start after : Moment) (runs : RunsModel s seed m source notes start after (Ok tt)) where
  abbrev pref : List (List ℕ)
  pref = preference m (shuffled_by s.shuffle seed)

  abbrev seeds : List (ℕ × List (Option ℕ))
  seeds = rows_of_run s m source

  orders : OrdersValues m pref
  orders = OrdersValues-preference m (shuffled_by s.shuffle seed)

  within : makes_plan (mode_of s) ≡ true → limit_passed m ≡ None
  within plans = within_limits (limit_passed m) (makes_plan (mode_of s)) _ plans (not_due s seed m source notes runs.ends)

  -- fewer than 2^32 tuples are demanded
  few_demanded : makes_plan (mode_of s) ≡ true → length (demanded_tuples m) < 2 ^ 32
  few_demanded plans =
      let few = ltb-false (2 ^ 26) (length (demanded_tuples m))
      (second_false (TooManySets (limits.saturated (length (choices m)))) (TooManyTuples (limits.saturated (length (demanded_tuples m))))
      (nat_lt (2 ^ 20) (length (choices m))) (nat_lt (2 ^ 26) (length (demanded_tuples m))) (within plans)) in
      omega (arith, few)

  abbrev sound_proof : makes_plan (mode_of s) ≡ true → (s.form ≡ 1) ⊎ (s.form ≡ 2) → (bytes : List ℕ) → IsProof s seed m seeds bytes
      → IsSoundProof m pref seeds s.effort s.form bytes
  sound_proof plans known bytes is = record {
    sound = runs.sound;
    orders = orders;
    known = known;
    few = few_demanded plans;
    proof = is;
  }

  -- what is told of the proof, where it is
  proof_told : IfSome (told_proof s after.folder.files) (λ held. IsSomeAnd held (IsProof s seed m seeds))
  proof_told = at s.proof runs.writes
    where
      at : (proof : Option (List ℕ)) → IfSome proof (λ name. IfSome (after.folder.files name) (λ held. IsSomeAnd held (IsProof s seed m seeds)))
          → IfSome (option_and_then after.folder.files proof) (λ held. IsSomeAnd held (IsProof s seed m seeds))
      at None holds = tt
      at (Some name) holds = holds

  covers : makes_plan (mode_of s) ≡ true → (proof : Option (Option (List ℕ))) → IfSome proof (λ held. IsSomeAnd held (IsProof s seed m seeds)) → (s.form ≡ 1) ⊎ (s.form ≡ 2)
      → CoversOrRefutes m s.form proof (growth m pref seeds).rows
  covers plans None holds known =
      let plain = suites_cover m pref seeds runs.sound orders in
      record { valid = plain.valid; served = λ k d inside. elim (plain.served k d inside) [ inl some ↦ inl some | inr none ↦ inr (none, tt) ] }
  covers plans (Some None) holds known = absurd holds
  covers plans (Some (Some bytes)) holds known =
      let plain = suites_cover m pref seeds runs.sound orders in
      record { valid = plain.valid; served = suites_serve_or_refute m pref seeds s.effort s.form bytes (sound_proof plans known bytes holds) }

  -- the report was put
  put : prints_rows s ≡ true → (before : List ℕ) → start.out.written ≡ Some before → PutsBytes Done (Some before) after.out.written (report_text m (growth m pref seeds).rows)
  put is before out =
      subst (PutsBytes Done (Some before) after.out.written) (report_printed (mode_of s) s seed m (given_of s m source) is)
      (subst (λ o. PutsBytes Done o after.out.written (out_text s seed m (given_of s m source))) out runs.prints.puts)

  -- one with a proof file goes by a plan
  proof_plans : (makes_suite (mode_of s) ≡ false → s.proof ≡ None) → (proof : Option (List ℕ)) → told_proof s after.folder.files ≡ Some proof → makes_plan (mode_of s) ≡ true
  proof_plans unproved proof is = elim (cases_Bool (makes_suite (mode_of s))) [
    | inl suite ↦ suite_plans (mode_of s) suite
    | inr other ↦ absurd (none-some proof (sym (ap (option_and_then after.folder.files) (unproved other)) ∙ is))
  ]

  pub holds_whole_proof : (makes_suite (mode_of s) ≡ false → s.proof ≡ None) → (s.form ≡ 1) ⊎ (s.form ≡ 2) → (proof : Option (List ℕ)) → told_proof s after.folder.files ≡ Some proof
      → HoldsWholeProof s seed m seeds proof
  holds_whole_proof unproved known proof is_told = whole proof (subst (λ found. IfSome found (λ held. IsSomeAnd held (IsProof s seed m seeds))) is_told proof_told)
    where
      whole : (held : Option (List ℕ)) → IsSomeAnd held (IsProof s seed m seeds) → HoldsWholeProof s seed m seeds held
      whole None none = absurd none
      whole (Some bytes) is = (is, suite_proofs_list m pref seeds s.effort s.form bytes (sound_proof (proof_plans unproved proof is_told) known bytes is))

  -- the checker accepts what is printed with the proof
  accepts : (s.form ≡ 1) ⊎ (s.form ≡ 2) → makes_plan (mode_of s) ≡ true → (bytes : List ℕ) → IsProof s seed m seeds bytes
      → IsAcceptedWith m s.form bytes (report_text m (growth m pref seeds).rows)
  accepts known plans bytes is =
      let rows = (growth m pref seeds).rows in
      let read = read_suite m pref seeds runs.sound orders in
      let proof = sound_proof plans known bytes is in
      record {
        omissions = is.omissions;
        read = suite_proofs_read_back m pref seeds s.effort s.form bytes proof;
        within = within plans;
        as_read = λ few.
            subst (λ reading. IsOkAnd reading (λ found. verdict m found.rows bytes ≡ Accepted (length found.rows) (length is.omissions)))
            (sym (reports_are_read m rows runs.sound (are_rows m rows (suites_cover m pref seeds runs.sound orders).valid) (subst (λ found. length found ≤ most_counted Rows) read few)))
            (suite_proofs_are_accepted m pref seeds s.effort s.form bytes (enumerate_from 2 rows) proof (enumerated 2 rows));
        on_lines = λ lines same. suite_proofs_are_accepted m pref seeds s.effort s.form bytes lines proof (same ∙ read);
      }

  -- with a proof that is told
  accepts_told : (s.form ≡ 1) ⊎ (s.form ≡ 2) → makes_plan (mode_of s) ≡ true → (proof : Option (Option (List ℕ))) → IfSome proof (λ held. IsSomeAnd held (IsProof s seed m seeds))
      → IfSome proof (λ held. IsSomeAnd held (λ bytes. IsAcceptedWith m s.form bytes (report_text m (growth m pref seeds).rows)))
  accepts_told known plans None holds = tt
  accepts_told known plans (Some None) none = none
  accepts_told known plans (Some (Some bytes)) is = accepts known plans bytes is

  pub prints_suite : (s.form ≡ 1) ⊎ (s.form ≡ 2) → prints_rows s ≡ true → (before : List ℕ) → start.out.written ≡ Some before
      → IsSomeAnd after.out.written (PrintsSuite s m source (told_proof s after.folder.files) before)
  prints_suite known is before out =
      let plans = report_plans (mode_of s) is in
      let proof = told_proof s after.folder.files in
      let read = sym (read_suite m pref seeds runs.sound orders) in
      subst (λ found. IsSomeAnd found (PrintsSuite s m source proof before)) (sym (put is before out)) (record {
        added = report_text m (growth m pref seeds).rows;
        behind = refl;
        covers = subst (CoversOrRefutes m s.form proof) read (covers plans proof proof_told known);
        few = subst (HasFewRows m (length (seeds_kept s m source))) read (suites_have_few_rows m pref seeds runs.sound orders);
        seeds = subst (AreContained (seeds_kept s m source)) read (growth_covers m pref seeds runs.sound orders).kept;
        accepted = accepts_told known plans proof proof_told;
      })

-- the rows of a suite are rows
pub suite_rows : (m : ModelView) (shuffle : Option ℕ) (seeds : List (ℕ × List (Option ℕ))) → IsSound m → All (λ row. is_row m row ≡ true) (growth m (preference m shuffle) seeds).rows
suite_rows m shuffle seeds sound =
    are_rows m (growth m (preference m shuffle) seeds).rows (suites_cover m (preference m shuffle) seeds sound (OrdersValues-preference m shuffle)).valid
