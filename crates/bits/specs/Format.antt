-- The format of a signal unit: what is basic, and what follows from it.
use Rattle.std.specs.Prelude.{ℕ, ◌+◌}

-- sequence: octets of sequence numbers with their indicator bits; indicator: octets of the length indicator;
-- slot: octets of a slot; output: least octets of an output area
pub record Format : Type 0 where
  pub sequence : ℕ
  pub indicator : ℕ
  pub slot : ℕ
  pub output : ℕ

-- the format of the scope
abbrev pub basic : Format
basic = record { sequence = 2; indicator = 1; slot = 280; output = 336 }

-- what a unit begins with: 3 octets
abbrev pub header : Format → ℕ
header F = F.sequence + F.indicator

-- a fill-in unit is a header and two check octets: 5. So many octets the filter compares.
abbrev pub fill_in_octets : Format → ℕ
fill_in_octets F = header F + 2

-- a link status unit has one or two octets of status between them: 6 or 7
abbrev pub status_octets : Format → ℕ
status_octets F = header F + 3

abbrev pub long_status_octets : Format → ℕ
long_status_octets F = header F + 4

-- "longest unit M 7 to 278 octets, check octets included": a message unit has up to 273 octets between header and check octets
abbrev pub least_longest : Format → ℕ
least_longest F = long_status_octets F

abbrev pub most_longest : Format → ℕ
most_longest F = header F + 275

-- "content not 3 to 276 octets": a unit without its check octets
abbrev pub least_content : Format → ℕ
least_content F = header F

abbrev pub most_content : Format → ℕ
most_content F = header F + 273
