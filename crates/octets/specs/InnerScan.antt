-- What the loops over octets leave.
use Rattle.std.specs.Prelude.{ℕ, ◌≤◌, ◌≡◌, Bool, true, false, List, [], ◌++◌, length, take}
use Rattle.bits.specs.Octets.{line_bits, packed}
use Rattle.framing.specs.declared.Line.{Line}
use Rattle.framing.specs.Delimitation.{receiver_after, findings}
use Rattle.framing.specs.Representation.{line_of, decode}
use Rattle.framing.specs.InnerReading.{IsWellFormed}
use Rattle.octets.specs.declared.Scan.{Scan}
use Rattle.octets.specs.Rows.{run_over, kept, plain}

-- octets gathered by their rows, from the bits g that stood in the area
pub record Gathered (octets : List ℕ) (run : ℕ) (g : List Bool) (r : Scan) (area : List ℕ) : Type 0 where
  pub few : r.taken ≤ length octets
  pub is_plain : plain run (line_bits (take r.taken octets)) ≡ true
  pub line : r.line ≡ line_of (run_over run (line_bits (take r.taken octets))) false (length (g ++ kept run (line_bits (take r.taken octets))))
  pub stands : area ≡ packed 279 (g ++ kept run (line_bits (take r.taken octets)))

-- octets passed while hunting
pub record Hunted (octets : List ℕ) (run : ℕ) (r : Scan) : Type 0 where
  pub few : r.taken ≤ length octets
  pub is_plain : plain run (line_bits (take r.taken octets)) ≡ true
  pub line : r.line ≡ line_of (run_over run (line_bits (take r.taken octets))) true 0

-- either: the receiver of the definition, which has found nothing in the octets taken
pub record Passes (M : ℕ) (l : Line) (octets area : List ℕ) (r : Scan) (area' : List ℕ) : Type 0 where
  pub few : r.taken ≤ length octets
  pub receiver : decode r.line area' ≡ receiver_after M (decode l area) (line_bits (take r.taken octets))
  pub nothing : findings M (decode l area) (line_bits (take r.taken octets)) ≡ []
  pub held : IsWellFormed M r.line area'
