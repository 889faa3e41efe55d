-- An indication as the code has it: with the record area and the number of records written.
use Rattle.std.specs.Prelude.{ℕ, ◌+◌, ◌*◌, ◌≤◌, ◌≡◌, Bool, true, false, List, [], length, take, Option, None, Some}
use Rattle.std.proofs.lemmas.List.Edits.{sets}
use Rattle.board.specs.InnerRanges.{SettingsInRange, MonitorInRange}
use Rattle.board.specs.Limits.{record_octets, monitor_limits}
use Rattle.board.specs.declared.Supervision.{Supervision}
use Rattle.records.specs.Record.{supervised, recorded, supervision_after, records_of}
use Rattle.framing.specs.Delimitation.{Finding}
use Rattle.bits.specs.Octets.{line_bits, packed}
use Rattle.framing.specs.declared.Found.{Found}
use Rattle.framing.specs.declared.Found.TheVariants.{Closed, Abort, Long}
use Rattle.framing.specs.InnerReading.{shows, unit_in}
use Rattle.board.specs.declared.Settings.{Settings}
use Rattle.units.specs.declared.Taken.{Taken}
use Rattle.units.specs.InnerFit.{Fits}
use Rattle.units.specs.Indications.{Indication}
use Rattle.units.specs.Units.{UnitMemory, unit_memory, tick_of, unit_memory_after, happenings}
use Rattle.board.specs.declared.UnitState.{UnitState}
use Rattle.indications.specs.declared.Progress.{Progress}

pub record CallState : Type 0 where
  pub unit_memory : UnitMemory
  pub supervision : Supervision
  pub out : List ℕ
  pub count : ℕ

-- what the code holds between two indications
abbrev pub holding : Progress → List ℕ → List ℕ → List ℕ → CallState
holding p pool descriptors out = record { unit_memory = unit_memory p.units pool descriptors; supervision = p.supervision; out = out; count = p.count }

-- after indications: the records stand one after the other
unfoldable pub indications_done : Settings → CallState → List Indication → CallState
indications_done s w ms =
    let hs = happenings s w.unit_memory ms in
    record {
      unit_memory = unit_memory_after s w.unit_memory ms;
      supervision = supervision_after (monitor_limits s) w.supervision hs;
      out = sets w.out (record_octets * w.count) (records_of (monitor_limits s) w.supervision hs);
      count = w.count + length hs;
    }

-- one happening noted and recorded
pub record NotedAndRecorded (s : Settings) (taken : Taken) (w : Supervision) (count : ℕ) (out : List ℕ) (r : Progress) (out' : List ℕ) : Type 0 where
  pub progress : r ≡ record { units = taken.units; supervision = supervised (monitor_limits s) w taken.happening; count = count + 1 }
  pub area : out' ≡ sets out (record_octets * count) (recorded (monitor_limits s) w taken.happening)

-- what the code needs to record one happening: limits and monitor in range, and room for one record
pub record CanRecord (s : Settings) (p : Progress) (out : List ℕ) : Type 0 where
  pub settings : SettingsInRange s
  pub monitor : MonitorInRange s p.supervision.monitor
  pub room : record_octets * p.count + record_octets ≤ length out

-- what the code needs between two indications: limits and monitor in range, memory that fits, and room for one record
pub record Able (s : Settings) (p : Progress) (pool descriptors out : List ℕ) : Type 0 where
  pub settings : SettingsInRange s
  pub monitor : MonitorInRange s p.supervision.monitor
  pub fits : Fits s p.units pool descriptors
  pub room : record_octets * p.count + record_octets ≤ length out

-- the unit state with N's counter elsewhere
abbrev pub with_left : UnitState → ℕ → UnitState
with_left d left = record { counting = record { on = d.counting.on; left = left }; memory = d.memory; slots = d.slots; counts = d.counts }

-- N's counter moved: with a tick, which is noted and recorded, or with none
abbrev pub CounterMoved : Settings → Progress → ℕ → Bool → List ℕ → Progress → List ℕ → Type 0
CounterMoved s p left true out r out' =
    NotedAndRecorded s (record { units = with_left p.units left; happening = tick_of p.units.counts.good }) p.supervision p.count out r out'
CounterMoved s p left false out r out' =
    (r ≡ record { units = with_left p.units left; supervision = p.supervision; count = p.count }) × (out' ≡ out)

-- a closed unit stands in the area, with the seven bits of its flag behind it and zero past them
abbrev pub StandsIn : Option Found → List ℕ → Type 0
StandsIn None area = Unit {0}
StandsIn (Some (Closed n)) area = (n ≤ 2224) × (area ≡ packed 279 (take (n + 7) (line_bits area)))
StandsIn (Some Abort) area = Unit {0}
StandsIn (Some Long) area = Unit {0}

-- a finding as the code shows it, a closed unit's bits being at the front of the area
pub record Shown (fs : List Finding) (f : Option Found) (area : List ℕ) : Type 0 where
  pub is : f ≡ shows fs
  pub single : length fs ≤ 1
  pub unit : take (length (unit_in fs)) (line_bits area) ≡ unit_in fs

-- the area once a finding is dealt with: only a closed unit stood in it
abbrev pub area_after : Option Found → List ℕ → List ℕ
area_after None area = area
area_after (Some (Closed n)) area = packed 279 []
area_after (Some Abort) area = area
area_after (Some Long) area = area
