-- The rows of the table: the arguments of the program's commands.
use Rattle.std.specs.Prelude.{◌-◌, ◌^◌, ℕ, [], codes}
use Rattle.arguments.specs.declared.options.ValueKind.TheVariants as kind
use Rattle.arguments.specs.Entries.{Entry, flag, option, optional, position, required}

-- the most workers that a haul may have, and so the highest number that a worker may have
abbrev pub most_workers : ℕ
most_workers = 16

-- the highest value of `--first`; the number of every soup is below it
abbrev pub most_first : ℕ
most_first = 2 ^ 40

abbrev pub generations : Entry
generations = position (codes "N") (kind.Number 0 100000)

abbrev pub coordinates : Entry
coordinates = flag (codes "coordinates")

abbrev pub sizes : Entry
sizes = optional (codes "sizes") (kind.OptionalNumber 0 100000)

abbrev pub code : Entry
code = position (codes "CODE") kind.Text

abbrev pub number : Entry
number = position (codes "N") (kind.Number 0 (most_first - 1))

abbrev pub rule : Entry
rule = option (codes "rule") kind.Text (codes "b3s23")

abbrev pub seed : Entry
seed = option (codes "seed") kind.Text []

abbrev pub first : Entry
first = option (codes "first") (kind.Number 0 most_first) (codes "0")

abbrev pub count : Entry
count = required (codes "count") (kind.Number 0 16777216)

abbrev pub also : Entry
also = option (codes "also") kind.Text []

abbrev pub period : Entry
period = option (codes "period") (kind.Number 1 64) (codes "64")

abbrev pub horizon : Entry
horizon = option (codes "horizon") (kind.Number 0 4096) (codes "512")

abbrev pub stride : Entry
stride = option (codes "stride") (kind.Number 1 10000) (codes "101")

abbrev pub limit : Entry
limit = option (codes "limit") (kind.Number 0 100000) (codes "30300")

abbrev pub workers : Entry
workers = option (codes "workers") (kind.Number 1 most_workers) (codes "1")

abbrev pub worker : Entry
worker = required (codes "worker") (kind.Number 1 most_workers)

abbrev pub progress : Entry
progress = flag (codes "progress")

abbrev pub report_from : Entry
report_from = optional (codes "report-from") (kind.OptionalNumber 0 100001)
