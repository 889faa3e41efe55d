-- What is promised of the link's value. The proofs are in proofs/NewLink.antt, proofs/Ranges.antt and proofs/Past.antt.
use Rattle.std.specs.Prelude.{ℕ, ◌≡◌, Bool, true, false, ◌↔◌, List, length, take}
use Rattle.bits.specs.Octets.{line_bits, packed, Octets}
use Rattle.bits.specs.Format.{basic}
use Rattle.board.specs.declared.Settings.{Settings}
use Rattle.board.specs.declared.Link.{Link}
use Rattle.board.specs.Link.{new_link}
use Rattle.board.specs.Malformed.{zero_past, in_range, malformed}
use Rattle.board.specs.InnerRanges.{SettingsInRange, WellFormed}

-- the lengths that the types of a link's arrays fix
pub record Sized (l : Link) : Type 0 where
  pub mask : length l.settings.mask ≡ 5
  pub area : length l.line.area ≡ 279
  pub held : length l.units.memory.octets ≡ 5
  pub last : length l.transmitter.last ≡ 2

-- A closed link is malformed exactly if it isn't the new link.
abbrev pub NewExactly : Type 0
NewExactly = (l : Link) → Sized l → l.opened ≡ false → (malformed l ≡ false) ↔ (l ≡ new_link)

-- Settings are in range exactly if each of them is.
abbrev pub RangesExactly : Type 0
RangesExactly = (s : Settings) → (in_range basic s ≡ true) ↔ SettingsInRange s

-- An open link is not malformed exactly if it obeys all that the scope asks of it.
abbrev pub WellFormedExactly : Type 0
WellFormedExactly = (l : Link) → l.opened ≡ true → (malformed l ≡ false) ↔ WellFormed l

-- An area that is zero past its first n bits is the packing of those bits,
abbrev pub PastHolds : Type 0
PastHolds = (n : ℕ) (area : List ℕ) → Octets area → zero_past n area ≡ true → area ≡ packed (length area) (take n (line_bits area))

-- and a packing is zero past its bits.
abbrev pub PackedPast : Type 0
PackedPast = (n : ℕ) (bits : List Bool) → zero_past (length bits) (packed n bits) ≡ true
