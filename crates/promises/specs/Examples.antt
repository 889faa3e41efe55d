-- Examples of the history, by computation: what a reader has to believe of the definitions behind `Demand3`. The proofs are in proofs/Examples.antt.
use Rattle.std.specs.Prelude.{◌≡◌, Bool, true, false, List, [], ◌∷◌, replicate}
use Rattle.monitor.specs.ErrorMonitors.{suerm, aerm}
use Rattle.board.specs.declared.Settings.{Settings}
use Rattle.board.specs.declared.events.Event.TheVariants.{Suer}
use Rattle.calls.specs.Call.{Call, opens, receive, command, clear, fill, wipe, link_after}
use Rattle.promises.specs.History.{number_of, Since, stopped, started, past_after}
use Rattle.promises.specs.Demand3.{bit_set}

-- a booking of one slot in which the first errored event is the alarm
abbrev pub tight : Settings
tight =
    record { k = 1; m = 278; n = 16; t = 1; d = 256; a = 1; mask = 255 ∷ 255 ∷ 255 ∷ 255 ∷ 255 ∷ []; filter = false; itu = false; orn = false }

abbrev pub opening : Call
opening = opens tight (replicate 280 0) (0 ∷ 0 ∷ [])

-- five octets 00 between two flags are a unit whose check is wrong, three octets a short one
abbrev pub wrong_unit : Call
wrong_unit = receive (0x7e ∷ 0 ∷ 0 ∷ 0 ∷ 0 ∷ 0 ∷ 0x7e ∷ []) (replicate 280 0) (32768 ∷ 0 ∷ []) (replicate 336 0)

abbrev pub short_unit : Call
short_unit = receive (0x7e ∷ 0 ∷ 0 ∷ 0 ∷ 0x7e ∷ []) (replicate 280 0) (32768 ∷ 0 ∷ []) (replicate 240 0)

abbrev pub since : List Call → Since
since cs = (past_after cs).history.since

-- Command 2 is a start, command 3 is another monitor's.
abbrev pub CommandTwoStarts : Type 0
CommandTwoStarts = since (opening ∷ command 2 ∷ []) ≡ started suerm []

abbrev pub CommandThreeStarts : Type 0
CommandThreeStarts = since (opening ∷ command 2 ∷ command 3 ∷ []) ≡ started aerm []

-- A refused call is nothing: the command before opening (2), and a second open (3).
abbrev pub RefusedIsNothing : Type 0
RefusedIsNothing =
    (number_of (past_after []).front (command 2) ≡ 2) × (since (command 2 ∷ []) ≡ stopped)
    × (since (opening ∷ command 2 ∷ opening ∷ []) ≡ started suerm [])

-- A unit with a wrong check is an errored event; a short unit is no event.
abbrev pub WrongIsEvent : Type 0
WrongIsEvent = since (opening ∷ command 2 ∷ wrong_unit ∷ []) ≡ started suerm (true ∷ [])

abbrev pub ShortIsNone : Type 0
ShortIsNone = since (opening ∷ command 2 ∷ short_unit ∷ []) ≡ started suerm []

-- A second start begins anew; command 1 and a wipe are stops.
abbrev pub StartsAnew : Type 0
StartsAnew = since (opening ∷ command 2 ∷ wrong_unit ∷ command 2 ∷ []) ≡ started suerm []

abbrev pub Stopped : Type 0
Stopped =
    (since (opening ∷ command 2 ∷ wrong_unit ∷ command 1 ∷ []) ≡ stopped) × (since (opening ∷ command 2 ∷ wrong_unit ∷ wipe [] [] ∷ []) ≡ stopped)

-- An alarm, a clearing of another bit, a clearing of its bit, and the next call.
abbrev pub suer_set : List Call → Bool
suer_set cs = bit_set Suer (link_after (opening ∷ command 2 ∷ wrong_unit ∷ cs)).supervision.events

abbrev pub AlarmThenClear : Type 0
AlarmThenClear =
    (suer_set [] ≡ true) × (suer_set (clear 8 ∷ []) ≡ true) × (suer_set (clear 4 ∷ []) ≡ false) × (suer_set (clear 4 ∷ fill (replicate 336 0) ∷ []) ≡ false)
