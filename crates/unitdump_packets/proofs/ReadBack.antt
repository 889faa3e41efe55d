-- Each packet is read back.
use Prim.Native.Nat.{ℕ, ◌+◌, ◌*◌, ◌/◌, ◌%◌}
use mathlib.Core.Path.{◌≡◌, ap₂, ◌∙◌}
use mathlib.Core.List.{◌∷◌}
use Rattle.std.proofs.Math.Seq.{take-append_seam, drop-append_seam}
use native.Mathlib.Omega.{arith}
use Rattle.std.proofs.lemmas.Nat.{from_le_bytes-to_le_bytes_4}
use Rattle.unitdump_packets.specs.Promises as promises
use Rattle.unitdump_packets.specs.Promises.{Reads}

-- whole seconds and the microseconds over them make up the time
time-of : (n : ℕ) → 1000000 * (n / 8000) + n % 8000 * 125 ≡ 125 * n
time-of n = omega arith

pub read-back : promises.ReadBack
read-back n x xs rest early short = record {
  time = ap₂ (λ (s u : ℕ). 1000000 * s + u) (from_le_bytes-to_le_bytes_4 (n / 8000) (omega arith)) (from_le_bytes-to_le_bytes_4 (n % 8000 * 125) (omega arith)) ∙ time-of n;
  kept = from_le_bytes-to_le_bytes_4 _ short;
  came = from_le_bytes-to_le_bytes_4 _ short;
  octets = take-append_seam (x ∷ xs) rest;
  behind = drop-append_seam (x ∷ xs) rest;
}
