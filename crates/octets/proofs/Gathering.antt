-- Octets gathered by their rows: what the loop keeps.
use Prim.Native.Nat.{ℕ, ◌+◌, ◌-◌, ◌*◌, ◌/◌, ◌%◌, ◌^◌, ◌≤◌, ◌<◌}
use mathlib.Core.Path.{◌≡◌, sym, ap, ap₂, subst, ◌∙◌}
use mathlib.Core.Bool.{Bool, false}
use mathlib.Core.List.{List, ◌++◌, append_assoc, append-nil}
use native.Mathlib.Omega.{arith}
use lib.ListN.{length, get_or, take, set}
use Rattle.bits.specs.Octets.{bits_of, line_bits, octet_of, packed}
use Rattle.bits.proofs.Packing.{held-length}
use Rattle.framing.specs.declared.Line.{Line}
use Rattle.framing.specs.Representation.{line_of}
use Rattle.octets.specs.Rows.{run_over, kept}
use Rattle.octets.specs.InnerScan.{Gathered}
use Rattle.octets.proofs.Passing.{Passing, Read, Says, kept-room, none_passed, run-of-base, row-says, one_more, kept_more}
use Rattle.octets.proofs.Joining.{Joining, joining-starts, joining-ends, moved, waits-on, writes}

-- the bits gathered when the octets before `at` are passed, and those kept of the octet x at `at`
abbrev gathered_at : List ℕ → ℕ → List Bool → ℕ → List Bool
gathered_at octets run g at = g ++ kept run (line_bits (take at octets))

abbrev kept_of_next : List ℕ → ℕ → ℕ → ℕ → List Bool
kept_of_next octets run at x = kept (run_over run (line_bits (take at octets))) (bits_of 8 x)

-- a row's kept bits above those that wait, in the code's operations
abbrev joined : ℕ → ℕ → ℕ → ℕ
joined wait have row = wait + row % 256 * 2 ^ have % 4294967296

-- the octets before `at` are passed, and their kept bits joined to g
pub record Gathering (octets : List ℕ) (run : ℕ) (g : List Bool) (area : List ℕ) (base n have wait at : ℕ) : Type 0 where
  pub passing : Passing octets run base at
  pub joining : Joining area n have wait (gathered_at octets run g at)

-- the bits that stand in the area at the start: as many as are said, and with all octets no more than it holds
pub at-start : (octets area : List ℕ) (bits : ℕ) → bits + 8 * length octets ≤ 2231 → area ≡ packed 279 (take bits (line_bits area))
    → (length (take bits (line_bits area)) ≡ bits) × (length (take bits (line_bits area)) + 8 * length octets ≤ 2231) × (bits ≤ 2231)
at-start octets area bits h e =
    let l : length (take bits (line_bits area)) ≡ bits = held-length 279 bits area (omega arith) e in (l, omega arith, omega arith)

module _ (octets : List ℕ) (run : ℕ) (g : List Bool) where
  pub none-gathered : (area : List ℕ) (bits : ℕ) → bits ≤ 2231 → run ≤ 7 → length g ≡ bits → area ≡ packed 279 g
      → Gathering octets run g area (run * 256) (bits / 8) (bits % 8) (get_or area (bits / 8) 0) 0
  unfolding line_bits
  none-gathered area bits b h l e =
      record {
        passing = none_passed octets run h;
        joining =
            subst (λ (x : List Bool). Joining area (bits / 8) (bits % 8) (get_or area (bits / 8) 0) x) (sym (append-nil g))
            (joining-starts area bits g l b e);
      }

  module _ (area : List ℕ) (base n have wait at : ℕ) (s : Gathering octets run g area base n have wait at) where
    pub gathering-ends : Gathered octets run g (record { taken = at; line = line_of (base / 256) false (8 * n + have) }) (set area n wait)
    gathering-ends =
        let j = joining-ends area n have wait (gathered_at octets run g at) s.joining in
        record {
          few = s.passing.few;
          is_plain = s.passing.is_plain;
          line = ap₂ {C = Line} (λ r k. line_of r false k) (run-of-base octets run base at s.passing) j;
          stands = s.joining.stands;
        }

    module _ (room : length g + 8 * length octets ≤ 2231) (x row first : ℕ) (w : Read octets base at x row first) where
      says : Says (run_over run (line_bits (take at octets))) x row
      says = row-says octets run base at s.passing x row first w

      all : gathered_at octets run g at ++ kept_of_next octets run at x ≡ gathered_at octets run g (at + 1)
      all =
          append_assoc g (kept run (line_bits (take at octets))) (kept_of_next octets run at x)
          ∙ ap (λ (y : List Bool). g ++ y) (sym (kept_more octets run base at s.passing x row first w))

      fits : length (gathered_at octets run g at ++ kept_of_next octets run at x) ≤ 2231
      fits =
          let k : at + 1 ≤ length octets = omega (arith, w.more) in
          omega (arith, ap length all, kept-room octets run (at + 1) g k)

      -- the kept bits of the octet, moved past those that wait
      number : joined wait have row ≡ wait + octet_of (kept_of_next octets run at x) * 2 ^ have
      number =
          ap (λ (k : ℕ). wait + k)
          (moved area n have wait (gathered_at octets run g at) s.joining (row % 256) (omega arith)
          ∙ ap (λ (k : ℕ). k * 2 ^ have) says.number)

      module _ (area' : List ℕ) (n' have' wait' : ℕ) where
        goes_on : Joining area' n' have' wait' (gathered_at octets run g at ++ kept_of_next octets run at x)
            → Gathering octets run g area' (first / 256 % 8 * 256) n' have' wait' (at + 1)
        goes_on j =
            record {
              passing = one_more octets run base at s.passing x row first w;
              joining = subst (λ (y : List Bool). Joining area' n' have' wait' y) all j;
            }

        pub waiting : have + row / 65536 < 8 → area' ≡ area → n' ≡ n → have' ≡ have + row / 65536 → wait' ≡ joined wait have row
            → Gathering octets run g area' (first / 256 % 8 * 256) n' have' wait' (at + 1)
        waiting f ea en eh ew =
            goes_on
            (rw (ea, en, eh, ew)
            (waits-on area n have wait (gathered_at octets run g at) s.joining
            (kept_of_next octets run at x) fits (row / 65536) says.many (joined wait have row) number f))

        pub filled : 8 ≤ have + row / 65536 → area' ≡ set area n (joined wait have row % 256) → n' ≡ n + 1
            → have' ≡ have + row / 65536 - 8 → wait' ≡ joined wait have row / 256
            → Gathering octets run g area' (first / 256 % 8 * 256) n' have' wait' (at + 1)
        filled f ea en eh ew =
            goes_on
            (rw (ea, en, eh, ew)
            (writes area n have wait (gathered_at octets run g at) s.joining
            (kept_of_next octets run at x) fits (row / 65536) says.many (joined wait have row) number f says.few))
