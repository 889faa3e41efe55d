-- What a link that is not malformed obeys, as facts for proofs.
use Rattle.std.specs.Prelude.{ℕ, ◌+◌, ◌*◌, ◌≤◌, ◌<◌, ◌≡◌, true, false, [], ◌∷◌}
use Rattle.bits.specs.Format.{basic, least_longest, most_longest}
use Rattle.monitor.specs.declared.Mode.{Mode}
use Rattle.monitor.specs.declared.Mode.TheVariants.{Off, Failure, Alignment, Idle}
use Rattle.monitor.specs.declared.Monitor.{Monitor}
use Rattle.board.specs.declared.Settings.{Settings}
use Rattle.board.specs.declared.Link.{Link}
use Rattle.board.specs.Limits.{most_slots, most_count}
use Rattle.board.specs.Malformed.{zero_past}

pub record SettingsInRange (s : Settings) : Type 0 where
  pub k : (1 ≤ s.k) × (s.k ≤ most_slots)
  pub m : (least_longest basic ≤ s.m) × (s.m ≤ most_longest basic)
  pub n : (1 ≤ s.n) × (s.n ≤ most_count)
  pub t : (1 ≤ s.t) × (s.t ≤ most_count)
  pub d : (1 ≤ s.d) × (s.d ≤ most_count)
  pub a : (1 ≤ s.a) × (s.a ≤ most_count)

abbrev pub CountInRange : Settings → Mode → ℕ → Type 0
CountInRange s Failure c = c < s.t
CountInRange s Alignment c = c < s.a
CountInRange s Idle c = c ≤ most_count
CountInRange s Off c = c ≤ most_count

pub record MonitorInRange (s : Settings) (m : Monitor) : Type 0 where
  pub number : m.number < s.d
  pub count : CountInRange s m.mode m.count

pub record WellFormed (l : Link) : Type 0 where
  pub area : zero_past l.line.state.bits l.line.area ≡ true
  pub settings : SettingsInRange l.settings
  pub run : l.line.state.run ≤ 7
  pub bits : l.line.state.bits ≤ 8 * l.settings.m + 7
  pub idle : l.line.state.hunting ≡ true → l.line.state.bits ≡ 0
  pub counter : (1 ≤ l.units.counting.left) × (l.units.counting.left ≤ l.settings.n)
  pub monitor : MonitorInRange l.settings l.supervision.monitor
  pub next : l.units.slots.next < l.settings.k
  pub waiting : l.transmitter.count ≤ 7
  pub unflagged : l.transmitter.flagged ≡ false → l.transmitter.count ≡ 0
  pub wait : zero_past l.transmitter.count (l.transmitter.wait ∷ []) ≡ true
