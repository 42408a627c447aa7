-- The table of the program's commands and their arguments.
use Rattle.std.specs.Prelude.{List, [], ◌∷◌, codes}
use Rattle.arguments.specs.Entries.{Command}
pub use Rattle.arguments.specs.Options.{also, code, coordinates, count, first, generations, horizon, limit, number, period, progress}
pub use Rattle.arguments.specs.Options.{report_from, rule, seed, sizes, stride, worker, workers}

abbrev pub run_command : Command
run_command = record { name = codes "run"; parameters = generations ∷ rule ∷ coordinates ∷ sizes ∷ [] }

abbrev pub name_command : Command
name_command = record { name = codes "name"; parameters = period ∷ horizon ∷ stride ∷ limit ∷ rule ∷ [] }

abbrev pub show_command : Command
show_command = record { name = codes "show"; parameters = code ∷ coordinates ∷ [] }

abbrev pub soup_command : Command
soup_command = record { name = codes "soup"; parameters = number ∷ seed ∷ coordinates ∷ [] }

abbrev pub take_command : Command
take_command = record {
  name = codes "take";
  parameters = seed ∷ first ∷ count ∷ also ∷ period ∷ horizon ∷ stride ∷ limit ∷ rule ∷ workers ∷ progress ∷ report_from ∷ [];
}

abbrev pub work_command : Command
work_command = record {
  name = codes "work";
  parameters = seed ∷ first ∷ count ∷ also ∷ period ∷ horizon ∷ stride ∷ limit ∷ rule ∷ worker ∷ [];
}

abbrev pub gather_command : Command
gather_command = record {
  name = codes "gather";
  parameters = seed ∷ first ∷ count ∷ also ∷ period ∷ horizon ∷ stride ∷ limit ∷ rule ∷ workers ∷ [];
}

abbrev pub commands : List Command
commands =
    run_command ∷ name_command ∷ show_command ∷ soup_command ∷ take_command ∷ work_command ∷ gather_command ∷ []
