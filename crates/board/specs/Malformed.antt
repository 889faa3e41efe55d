-- When a link is malformed, in the scope's words and order.
use Rattle.std.specs.Prelude.{ℕ, ◌+◌, ◌*◌, Bool, true, false, not, ◌&&◌, ◌||◌, cond, List, [], ◌∷◌, eqb, leb, ltb, drop}
use Rattle.bits.specs.Octets.{line_bits}
use Rattle.bits.specs.Format.{Format, basic, least_longest, most_longest}
use Rattle.memory.specs.Lent.{zeros}
use Rattle.monitor.specs.declared.Mode.{Mode}
use Rattle.monitor.specs.declared.Mode.TheVariants.{Off, Failure, Alignment, Idle}
use Rattle.monitor.specs.declared.Monitor.{Monitor}
use Rattle.framing.specs.declared.Line.{Line}
use Rattle.board.specs.declared.Settings.{Settings}
use Rattle.board.specs.declared.Counting.{Counting}
use Rattle.board.specs.declared.Transmitter.{Transmitter}
use Rattle.board.specs.declared.Link.{Link}
use Rattle.board.specs.Limits.{most_slots, most_count}

-- no bit is a one
unfoldable pub no_ones : List Bool → Bool
no_ones [] = true
no_ones (b ∷ bs) = not b && no_ones bs

-- octets are zero past their first n bits
unfoldable pub zero_past : ℕ → List ℕ → Bool
zero_past n octets = no_ones (drop n (line_bits octets))

-- a number is one of a range
abbrev pub within : ℕ → ℕ → ℕ → Bool
within least most n = leb least n && leb n most

-- "K 1 to 16; longest unit M 7 to 278 octets [..]; N, T, D, A each 1 to 1,024"
unfoldable pub in_range : Format → Settings → Bool
in_range F s =
    ((((within 1 most_slots s.k && within (least_longest F) (most_longest F) s.m) && within 1 most_count s.n) && within 1 most_count s.t)
    && within 1 most_count s.d) && within 1 most_count s.a

-- "run above 7; gathered bits above 8M + 7, or any while hunting"
unfoldable pub line_out : ℕ → Line → Bool
line_out m l = (ltb 7 l.run || ltb (8 * m + 7) l.bits) || (l.hunting && ltb 0 l.bits)

-- "N's counter outside 1 to N"
unfoldable pub counter_out : ℕ → Counting → Bool
counter_out n c = ltb c.left 1 || ltb n c.left

-- "monitor count T or more in failure mode, A or more in alignment mode, above 1,024 when idle or off"
abbrev pub count_out : Mode → Settings → ℕ → Bool
count_out Failure s count = leb s.t count
count_out Alignment s count = leb s.a count
count_out Idle s count = ltb most_count count
count_out Off s count = ltb most_count count

-- "event number D or more", and the count
unfoldable pub monitor_out : Settings → Monitor → Bool
monitor_out s m = leb s.d m.number || count_out m.mode s m.count

-- "over seven waiting bits, any before the first flag, or a waiting octet not zero past them"
unfoldable pub transmitter_out : Transmitter → Bool
transmitter_out t = (ltb 7 t.count || (not t.flagged && ltb 0 t.count)) || not (zero_past t.count (t.wait ∷ []))

-- an open link: "if its gathering area isn't zero past the gathered bits, or if a number is out of range: a setting; [..] next slot K or more; [..]"
unfoldable pub open_malformed : Link → Bool
open_malformed l =
    (((((not (zero_past l.line.state.bits l.line.area) || not (in_range basic l.settings)) || line_out l.settings.m l.line.state)
    || counter_out l.settings.n l.units.counting) || monitor_out l.settings l.supervision.monitor) || leb l.settings.k l.units.slots.next)
    || transmitter_out l.transmitter

abbrev pub is_off : Mode → Bool
is_off Off = true
is_off Failure = false
is_off Alignment = false
is_off Idle = false

-- every number of a link but the run of ones and the octets of its arrays
abbrev pub numbers : Link → List ℕ
numbers l =
    l.settings.k ∷ l.settings.m ∷ l.settings.n ∷ l.settings.t ∷ l.settings.d ∷ l.settings.a ∷ l.line.state.bits
    ∷ l.units.counting.left ∷ l.supervision.monitor.count ∷ l.supervision.monitor.number ∷ l.units.memory.length ∷ l.units.slots.next ∷ l.units.counts.good ∷ l.units.counts.over
    ∷ l.units.counts.dropped ∷ l.units.counts.lost ∷ l.supervision.events ∷ l.transmitter.count ∷ l.transmitter.wait ∷ []

abbrev pub arrays_zero : Link → Bool
arrays_zero l = ((zeros l.settings.mask && zeros l.line.area) && zeros l.units.memory.octets) && zeros l.transmitter.last

-- the test that a closed link is the new link (proofs/NewLink.antt: it holds of no other)
unfoldable pub is_new : Link → Bool
is_new l =
    ((((((((((zeros (numbers l) && arrays_zero l) && eqb l.line.state.run 7) && l.line.state.hunting) && is_off l.supervision.monitor.mode)
    && not l.settings.filter) && not l.settings.itu) && not l.settings.orn) && not l.units.counting.on) && not l.units.memory.alike)
    && not l.transmitter.flagged) && not l.transmitter.sent

-- "A closed link is malformed exactly if it isn't that new link; an open one if [..]"
unfoldable pub malformed : Link → Bool
malformed l = cond l.opened (open_malformed l) (not (is_new l))
