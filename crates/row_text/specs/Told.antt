-- Numbers as the program holds them and as definitions name them.
use Rattle.definitions.specs.believed.Statistics.{Statistics}
use Rattle.definitions.specs.believed.Figures as defined
use Rattle.row_text.specs.declared.figures.Stats.{Stats}
use Rattle.row_text.specs.declared.figures.Figures.{Figures}

-- the statistics of a suite
abbrev pub statistics_seen : Stats → Statistics
statistics_seen s = record { sets = s.sets; tuples = s.tuples; omitted = s.omitted; kept = s.kept; tests = s.tests }

-- the figures of a given suite
abbrev pub figures_seen : Figures → defined.Figures
figures_seen f = record {
  tests = f.tests;
  incomplete = f.incomplete;
  invalid = f.invalid;
  sets = f.sets;
  tuples = f.tuples;
  servable = f.servable;
  covered = f.covered;
  complete = f.complete;
  at75 = f.at75;
  at50 = f.at50;
  at25 = f.at25;
}
