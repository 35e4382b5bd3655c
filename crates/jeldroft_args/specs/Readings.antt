-- What the values of options say. (PICT's guide for the delimiters and the prefix; the ranges and
-- names are this project's rules.)
use Rattle.std.specs.Prelude.{◌-◌, List}
use Rattle.clap.specs.Words.{Row, found_of, rows_of}
use Rattle.clap.specs.declared.parser.matches.ArgMatches.{ArgMatches}
use Rattle.jeldroft_args.specs.declared.argument.Argument.TheVariants as a

-- ---- what clap found

-- what a parse found for the arguments of a command
abbrev pub rows_given : ArgMatches → List Row
rows_given matches = rows_of (found_of matches)
