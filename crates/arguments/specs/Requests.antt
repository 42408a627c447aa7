-- The request that arguments make.
use Rattle.std.specs.Prelude.{◌||◌, Bool, false, List, [], ◌∷◌, Option, None, Some, codes, option_and_then, if◌then◌else◌}
use Rattle.std.specs.Str.{bytes_eq}
use Rattle.clap.specs.Words.{Kinds, Row, fault_of, subcommand_of}
pub use Rattle.clap.specs.Words.{Text}
use Rattle.arguments.specs.declared.request.Request.{Request}
use Rattle.arguments.specs.declared.request.Request.TheVariants.{Version}
use Rattle.arguments.specs.Application.{census_app}
pub use Rattle.arguments.specs.NumbersInRange.{AreInTheirRanges, AreProfileNumbers}
use Rattle.arguments.specs.Reading.{gather_request, name_request, run_request, show_request, soup_request, take_request, work_request}

-- the request of the command with the name `found.0`, from the values `found.1` that were found for its arguments
abbrev pub request_in : Text × List Row → Option Request
request_in found =
    if bytes_eq found.0 (codes "run") then run_request found.1
    else if bytes_eq found.0 (codes "name") then name_request found.1
    else if bytes_eq found.0 (codes "show") then show_request found.1
    else if bytes_eq found.0 (codes "soup") then soup_request found.1
    else if bytes_eq found.0 (codes "take") then take_request found.1
    else if bytes_eq found.0 (codes "work") then work_request found.1
    else if bytes_eq found.0 (codes "gather") then gather_request found.1
    else None

-- the request, or `None` if `clap` has found a fault; asking for help counts as a fault
abbrev pub unless_faulty : Kinds → Option Request → Option Request
unless_faulty [] request = request
unless_faulty (kind ∷ kinds) request = None

-- the argument asks for the version
abbrev pub is_version : Text → Bool
is_version argument = bytes_eq argument (codes "--version") || bytes_eq argument (codes "-V")

-- the arguments are only the program's name and `--version` or `-V`
abbrev pub asks_version : List Text → Bool
asks_version (program ∷ argument ∷ []) = is_version argument
asks_version _ = false

-- the request that `clap` reads from the arguments, or `None` if they have a fault, ask for help, or contradict each
-- other
abbrev pub called_by : List Text → Option Request
called_by arguments = unless_faulty (fault_of census_app arguments) (option_and_then request_in (subcommand_of census_app arguments))

-- what the arguments ask for: the version, what `clap` reads, or nothing (`None`); the first is the program's name
abbrev pub asked_by : List Text → Option Request
asked_by arguments = if asks_version arguments then Some Version else called_by arguments
