-- What is promised of the way from a link to a host's fields and back.
use Rattle.std.specs.Prelude.{◌≡◌, true, false}
use Rattle.bits.specs.Format.{basic}
use Rattle.board.specs.declared.Link.{Link}
use Rattle.board.specs.Malformed.{in_range, malformed}
use Rattle.host_link.specs.declared.HostSettings.{HostSettings}
use Rattle.host_link.specs.declared.HostLink.{HostLink}
use Rattle.host_link.specs.Crossing.{are_switches, given_settings, readable, from_host, to_host}

-- Nothing of a link is lost on its way to a host and back.
abbrev pub LinkAndBack : Type 0
LinkAndBack = (l : Link) → from_host (to_host l) ≡ l

-- Nothing of a host's fields is lost on their way in and out, where they can be read.
abbrev pub FieldsAndBack : Type 0
FieldsAndBack = (h : HostLink) → readable h ≡ true → to_host (from_host h) ≡ h

-- Fields with a switch or a mode that is none are a malformed link.
abbrev pub UnreadIsMalformed : Type 0
UnreadIsMalformed = (h : HostLink) → readable h ≡ false → malformed (from_host h) ≡ true

-- Settings with a switch that is none are out of range.
abbrev pub NoSwitchNoRange : Type 0
NoSwitchNoRange = (s : HostSettings) → are_switches s ≡ false → in_range basic (given_settings s) ≡ false
