-- The limits of a link: "the type itself supplies that new link and its limits by name".
use Rattle.std.specs.Prelude.{ℕ, ◌*◌}
use Rattle.monitor.specs.declared.Limits.{Limits}
use Rattle.board.specs.declared.Settings.{Settings}

-- "K 1 to 16", "N, T, D, A each 1 to 1,024"
abbrev pub most_slots : ℕ
most_slots = 16

abbrev pub most_count : ℕ
most_count = 1024

-- the most line octets of a receive
abbrev pub most_line : ℕ
most_line = 1024

-- octets of a record; "at most three records come from one line octet"
abbrev pub record_octets : ℕ
record_octets = 16

abbrev pub records_each : ℕ
records_each = 3

-- octets of record area for each line octet: 48
abbrev pub record_room : ℕ
record_room = record_octets * records_each

-- T, D and A, as the monitor takes them
abbrev pub monitor_limits : Settings → Limits
monitor_limits s = record { t = s.t; d = s.d; a = s.a }
