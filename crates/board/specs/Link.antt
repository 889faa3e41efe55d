-- "A new link is closed"; "a new link has R = 7 and hunts". Everything else of it is zero, empty or off.
use Rattle.std.specs.Prelude.{ℕ, true, false, List, [], ◌∷◌, replicate}
use Rattle.bits.specs.Format.{basic}
use Rattle.monitor.specs.declared.Mode.TheVariants.{Off}
use Rattle.monitor.specs.Monitor.{started}
use Rattle.filter.specs.Memory.{empty_memory}
use Rattle.framing.specs.Representation.{line_of}
use Rattle.board.specs.declared.Settings.{Settings}
use Rattle.board.specs.declared.Gathering.{Gathering}
use Rattle.board.specs.declared.UnitState.{UnitState}
use Rattle.board.specs.declared.Supervision.{Supervision}
use Rattle.board.specs.declared.Transmitter.{Transmitter}
use Rattle.board.specs.declared.Link.{Link}

abbrev pub new_settings : Settings
new_settings =
    record { k = 0; m = 0; n = 0; t = 0; d = 0; a = 0; mask = 0 ∷ 0 ∷ 0 ∷ 0 ∷ 0 ∷ []; filter = false; itu = false; orn = false }

-- a gathering area with no bits
unfoldable pub clear_area : List ℕ
clear_area = replicate 279 0

abbrev pub new_line : Gathering
new_line = record { state = line_of 7 true 0; area = clear_area }

abbrev pub new_units : UnitState
new_units =
    record {
      counting = record { on = false; left = 0 };
      memory = empty_memory basic;
      slots = record { next = 0 };
      counts = record { good = 0; over = 0; dropped = 0; lost = 0 };
    }

abbrev pub new_supervision : Supervision
new_supervision = record { monitor = started Off; events = 0 }

abbrev pub new_transmitter : Transmitter
new_transmitter = record { flagged = false; count = 0; wait = 0; sent = false; last = 0 ∷ 0 ∷ [] }

abbrev pub new_link : Link
new_link =
    record {
      opened = false;
      settings = new_settings;
      line = new_line;
      units = new_units;
      supervision = new_supervision;
      transmitter = new_transmitter;
    }
