-- How a link crosses to a host in C or Rust and back: switches and the monitor's mode as numbers, all else as it is.
use Rattle.std.specs.Prelude.{ℕ, Bool, true, ◌&&◌, cond, eqb, leb, Option, Some, None}
use Rattle.monitor.specs.declared.Mode.{Mode}
use Rattle.monitor.specs.declared.Mode.TheVariants.{Off, Failure, Alignment, Idle}
use Rattle.board.specs.declared.Settings.{Settings}
use Rattle.board.specs.declared.Transmitter.{Transmitter}
use Rattle.board.specs.declared.Link.{Link}
use Rattle.board.specs.Link.{new_link, new_settings}
use Rattle.host_link.specs.declared.HostSettings.{HostSettings}
use Rattle.host_link.specs.declared.HostTransmitter.{HostTransmitter}
use Rattle.host_link.specs.declared.HostLink.{HostLink}

-- a switch is 0, off, or 1, on
abbrev pub is_switch : ℕ → Bool
is_switch n = leb n 1

abbrev pub switch_of : ℕ → Bool
switch_of n = eqb n 1

abbrev pub switch_read : ℕ → Option Bool
switch_read n = cond (is_switch n) (Some (switch_of n)) None

abbrev pub of_switch : Bool → ℕ
of_switch on = cond on 1 0

-- a mode is 0 off, 1 failure, 2 alignment, 3 idle
abbrev pub is_mode : ℕ → Bool
is_mode n = leb n 3

abbrev pub mode_of : ℕ → Mode
mode_of n = cond (eqb n 1) Failure (cond (eqb n 2) Alignment (cond (eqb n 3) Idle Off))

abbrev pub mode_read : ℕ → Option Mode
mode_read n = cond (is_mode n) (Some (mode_of n)) None

abbrev pub of_mode : Mode → ℕ
of_mode Off = 0
of_mode Failure = 1
of_mode Alignment = 2
of_mode Idle = 3

-- the three switches of settings are switches
abbrev pub are_switches : HostSettings → Bool
are_switches s = (is_switch s.filter && is_switch s.itu) && is_switch s.orn

abbrev pub settings_of : HostSettings → Settings
settings_of s =
    record {
      k = s.k;
      m = s.m;
      n = s.n;
      t = s.t;
      d = s.d;
      a = s.a;
      mask = s.mask;
      filter = switch_of s.filter;
      itu = switch_of s.itu;
      orn = switch_of s.orn;
    }

abbrev pub settings_read : HostSettings → Option Settings
settings_read s = cond (are_switches s) (Some (settings_of s)) None

-- Settings that a host gives. Where a switch is none, that setting is out of range: they are taken as all zero, which open refuses with 4.
unfoldable pub given_settings : HostSettings → Settings
given_settings s = cond (are_switches s) (settings_of s) new_settings

-- every switch of a link is a switch, and its mode a mode
unfoldable pub readable : HostLink → Bool
readable h =
    (((((((are_switches h.settings && is_switch h.memory.alike) && is_switch h.line.hunting) && is_switch h.transmitter.flagged)
    && is_switch h.transmitter.sent) && is_switch h.opened) && is_switch h.counting) && is_mode h.mode)

abbrev pub transmitter_of : HostTransmitter → Transmitter
transmitter_of t = record { flagged = switch_of t.flagged; count = t.count; wait = t.wait; sent = switch_of t.sent; last = t.last }

abbrev pub transmitter_read : HostTransmitter → Option Transmitter
transmitter_read t = cond (is_switch t.flagged && is_switch t.sent) (Some (transmitter_of t)) None

abbrev pub link_of_fields : HostLink → Link
link_of_fields h =
    record {
      opened = switch_of h.opened;
      settings = settings_of h.settings;
      line = record { state = record { run = h.line.run; hunting = switch_of h.line.hunting; bits = h.line.bits }; area = h.area };
      units =
          record {
            counting = record { on = switch_of h.counting; left = h.left };
            memory = record { length = h.memory.length; octets = h.memory.octets; alike = switch_of h.memory.alike };
            slots = record { next = h.next };
            counts = h.counts;
          };
      supervision =
          record { monitor = record { mode = mode_of h.mode; count = h.monitor.count; number = h.monitor.number }; events = h.events };
      transmitter = transmitter_of h.transmitter;
    }

abbrev pub link_read : HostLink → Option Link
link_read h = cond (readable h) (Some (link_of_fields h)) None

-- open with K = 0, so malformed
abbrev pub unread_link : Link
unread_link =
    record {
      opened = true;
      settings = new_settings;
      line = new_link.line;
      units = new_link.units;
      supervision = new_link.supervision;
      transmitter = new_link.transmitter;
    }

-- The link that a host's fields are. Where a switch or the mode is none, a malformed link stands for it, which every call but wipe refuses with 1.
unfoldable pub from_host : HostLink → Link
from_host h = cond (readable h) (link_of_fields h) unread_link

abbrev pub host_settings : Settings → HostSettings
host_settings s =
    record {
      k = s.k;
      m = s.m;
      n = s.n;
      t = s.t;
      d = s.d;
      a = s.a;
      mask = s.mask;
      filter = of_switch s.filter;
      itu = of_switch s.itu;
      orn = of_switch s.orn;
    }

abbrev pub host_transmitter : Transmitter → HostTransmitter
host_transmitter t = record { flagged = of_switch t.flagged; count = t.count; wait = t.wait; sent = of_switch t.sent; last = t.last }

abbrev pub to_host : Link → HostLink
to_host l =
    record {
      settings = host_settings l.settings;
      counts = l.units.counts;
      monitor = record { count = l.supervision.monitor.count; number = l.supervision.monitor.number };
      events = l.supervision.events;
      next = l.units.slots.next;
      left = l.units.counting.left;
      memory = record { length = l.units.memory.length; octets = l.units.memory.octets; alike = of_switch l.units.memory.alike };
      line = record { bits = l.line.state.bits; run = l.line.state.run; hunting = of_switch l.line.state.hunting };
      transmitter = host_transmitter l.transmitter;
      opened = of_switch l.opened;
      counting = of_switch l.units.counting.on;
      mode = of_mode l.supervision.monitor.mode;
      area = l.line.area;
    }

-- "A refusal returns [..] the link as given": the host's fields, whatever they are
unfoldable pub given_back : HostLink → ℕ → Link → HostLink
given_back h number l = cond (eqb number 0) (to_host l) h
