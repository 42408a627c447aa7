-- The rate on the progress line.
use Rattle.std.specs.Prelude.{ℕ, Option, None, Some, ◌-◌, ◌*◌, ◌/◌, ◌==◌, if◌then◌else◌}
use Rattle.std.specs.Time.{instant_nanos}
use Rattle.std.specs.declared.time.Instant.{Instant}

-- the whole milliseconds from one instant to another
abbrev pub milliseconds_from : Instant → Instant → ℕ
milliseconds_from started now = (instant_nanos now - instant_nanos started) / 1000000

-- soups per second, rounded down, if `count` soups took this many milliseconds; `None` for 0 milliseconds
abbrev pub per_second : ℕ → ℕ → Option ℕ
per_second count milliseconds = if milliseconds == 0 then None else Some (count * 1000 / milliseconds)
