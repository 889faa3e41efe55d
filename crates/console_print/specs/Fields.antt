-- "`show` prints the link's fields, `name value` a line in a fixed order, and `end`."
use Prim.Native.String.{String}
use Rattle.std.specs.Prelude.{ℕ, Bool, List, [], ◌∷◌, ◌++◌, take, codes, decimal}
use Rattle.std.specs.Int.{from_bool, div_ceil}
use Rattle.monitor.specs.declared.Mode.{Mode}
use Rattle.monitor.specs.declared.Mode.TheVariants.{Off, Failure, Alignment, Idle}
use Rattle.board.specs.declared.Settings.{Settings}
use Rattle.board.specs.declared.Gathering.{Gathering}
use Rattle.filter.specs.declared.Memory.{Memory}
use Rattle.board.specs.declared.Counts.{Counts}
use Rattle.board.specs.declared.UnitState.{UnitState}
use Rattle.board.specs.declared.Supervision.{Supervision}
use Rattle.board.specs.declared.Transmitter.{Transmitter}
use Rattle.board.specs.declared.Link.{Link}
use Rattle.text.specs.Hex.{hex_text}
use Rattle.console_print.specs.Lines.{lines, line}

-- a field that is a number, a switch (1 on, 0 off), or octets
abbrev pub number : String → ℕ → List (List ℕ)
number name value = codes name ∷ decimal value ∷ []

abbrev pub switch : String → Bool → List (List ℕ)
switch name on = number name (from_bool on)

abbrev pub octets : String → List ℕ → List (List ℕ)
octets name value = codes name ∷ hex_text value ∷ []

unfoldable pub settings_lines : Settings → List ℕ
settings_lines s =
    lines
    (number "k" s.k ∷ number "m" s.m ∷ number "n" s.n ∷ number "t" s.t ∷ number "d" s.d ∷ number "a" s.a
    ∷ octets "mask" s.mask ∷ switch "filter" s.filter ∷ switch "itu" s.itu ∷ switch "orn" s.orn ∷ [])

-- the octets of an area that hold its first bits
abbrev pub octets_of_bits : List ℕ → ℕ → List ℕ
octets_of_bits area bits = take (div_ceil bits 8) area

unfoldable pub receiver_lines : Gathering → List ℕ
receiver_lines g =
    lines
    (number "run" g.state.run ∷ switch "hunting" g.state.hunting ∷ number "bits" g.state.bits
    ∷ octets "area" (octets_of_bits g.area g.state.bits) ∷ [])

unfoldable pub memory_lines : Memory → List ℕ
memory_lines m =
    lines (number "memory-length" m.length ∷ octets "memory-octets" m.octets ∷ switch "memory-alike" m.alike ∷ [])

unfoldable pub count_lines : Counts → List ℕ
count_lines c = lines (number "good" c.good ∷ number "over" c.over ∷ number "dropped" c.dropped ∷ number "lost" c.lost ∷ [])

unfoldable pub unit_lines : UnitState → List ℕ
unit_lines u =
    lines (switch "counting" u.counting.on ∷ number "left" u.counting.left ∷ [])
    ++ (memory_lines u.memory ++ (line (number "next" u.slots.next) ++ count_lines u.counts))

abbrev pub mode_name : Mode → List ℕ
mode_name Off = codes "off"
mode_name Failure = codes "failure"
mode_name Alignment = codes "alignment"
mode_name Idle = codes "idle"

unfoldable pub monitor_lines : Supervision → List ℕ
monitor_lines s =
    lines
    ((codes "mode" ∷ mode_name s.monitor.mode ∷ []) ∷ number "monitor-count" s.monitor.count ∷ number "event-number" s.monitor.number
    ∷ number "events" s.events ∷ [])

unfoldable pub sender_lines : Transmitter → List ℕ
sender_lines t =
    lines
    (switch "flagged" t.flagged ∷ number "waiting" t.count ∷ octets "waiting-octet" (t.wait ∷ []) ∷ switch "sent" t.sent
    ∷ octets "last" t.last ∷ [])

-- what line octets change
unfoldable pub reception_lines : Link → List ℕ
reception_lines l = receiver_lines l.line ++ (unit_lines l.units ++ monitor_lines l.supervision)

-- the link's parts one after the other
unfoldable pub link_lines : Link → List ℕ
link_lines l =
    line (switch "opened" l.opened) ++ (settings_lines l.settings ++ (reception_lines l ++ (sender_lines l.transmitter ++ line (codes "end" ∷ []))))
