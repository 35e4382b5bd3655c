use Rattle.std.proofs.Common.{◌≡◌, ℕ, ◌<◌, [], false, is_none, get_or, take}
use Rattle.seq_cli.specs.Commands.{asked_seen}
use Rattle.seq_cli.specs.believed.Words.{set_by, setting_of}
use Rattle.command_line.specs.believed.Words.{texts}
use Rattle.seq_cli.proofs.command.read_options.Given as goal

abbrev pub invariant-loop-place : goal.invariant-loop-place
invariant-loop-place l =
    let words = texts l.options in
    record {
      read : (k : ℕ) → k < l.place → is_none (setting_of (get_or words k [])) ≡ false;
      set : asked_seen l.command ≡ set_by l.file (take l.place words);
    }
