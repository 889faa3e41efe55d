-- A piece of eight to ten bits put behind those that wait: one octet goes out, or two.
use Prim.Native.Nat.{ℕ, ◌+◌, ◌-◌, ◌*◌, ◌/◌, ◌%◌, ◌^◌, ◌≤◌, ◌<◌}
use mathlib.Core.Path.{◌≡◌, refl, sym, ap, ap₂, ◌∙◌}
use mathlib.Core.Bool.{Bool}
use mathlib.Core.List.{List, [], ◌∷◌, ◌++◌}
use native.Mathlib.Nat.{lt_of_lt_of_le}
use native.Mathlib.Numerals.{add-one}
use native.Mathlib.Omega.{arith}
use lib.ListN.{length, drop, set, length-append}
use lib.Seq.{sets}
use lib.Pow.{pow_mono, shl_exact}
use Rattle.bits.specs.Octets.{bits_of, octet_of}
use Rattle.bits.proofs.Digits.{length-bits_of, value-back, octet_of-lt}
use Rattle.bits.proofs.Joined.{octet_of-append, past-eight, rest-length, whole-first, after_first, whole-one, after_one}
use Rattle.sending.specs.declared.Tx.{Tx}
use Rattle.sending.specs.Packing.{waiting, octets_out, still_waiting}
use Rattle.sending.specs.Sender.{TxInRange}
use Rattle.sending.specs.InnerPutting.{Puts, Room}
use Rattle.sending.proofs.Puttings.{length-waiting}

-- the piece moved past what waits, in the code's operations
abbrev pub joined : Tx → ℕ → ℕ
joined t piece = t.wait + piece * 2 ^ t.count % 4294967296

module _ (t : Tx) (g : TxInRange t) (piece many : ℕ) (small : piece < 2 ^ many) (least : 8 ≤ many) (most : many ≤ 10) where
  -- the bits that wait, and those of the piece
  abbrev all : List Bool
  all = waiting t ++ bits_of many piece

  all-length : length all ≡ t.count + many
  all-length = omega (arith, length-append (waiting t) (bits_of many piece), length-waiting t, length-bits_of many piece)

  all-value : octet_of all ≡ t.wait + piece * 2 ^ t.count
  all-value =
      octet_of-append (waiting t) (bits_of many piece)
      ∙ ap₂ (λ (v n : ℕ). v + octet_of (bits_of many piece) * 2 ^ n) (value-back t.count t.wait g.low) (length-waiting t)
      ∙ ap (λ (v : ℕ). t.wait + v * 2 ^ t.count) (value-back many piece small)

  moved : piece * 2 ^ t.count % 4294967296 ≡ piece * 2 ^ t.count
  moved = shl_exact 10 t.count 32 (lt_of_lt_of_le small (pow_mono most)) (omega (arith, g.few))

  value : joined t piece ≡ octet_of all
  value = ap (λ (k : ℕ). t.wait + k) moved ∙ sym all-value

  below : (n : ℕ) → t.count + many ≤ n → joined t piece < 2 ^ n
  below n h =
      let l : length all ≤ n = omega (arith, all-length) in
      omega (arith, value, lt_of_lt_of_le (octet_of-lt all) (pow_mono l))

  -- what the casts need
  pub joined-lt : joined t piece < 131072
  joined-lt = below 17 (omega (arith, g.few))

  pub joined-short : t.count + many < 16 → joined t piece < 32768
  joined-short f = below 15 (omega arith)

  -- room for the octets that go out
  module _ (out : List ℕ) (room : Room t (bits_of many piece) out) where
    pub first_fits : t.at < length out
    first_fits = omega (arith, room, length-bits_of many piece)

    pub second_fits : 16 ≤ t.count + many → t.at + 1 < length out
    second_fits f = omega (arith, room, length-bits_of many piece)

  eight : 8 ≤ length all
  eight = omega (arith, all-length)

  rest-value : octet_of (drop 8 all) ≡ joined t piece / 256
  rest-value = sym (ap (λ (k : ℕ). k / 256) value ∙ past-eight all eight)

  abbrev at_place : ℕ → ℕ → ℕ → ℕ → Tx
  at_place at count wait ones = record { at = at; count = count; wait = wait; ones = ones }

  module _ (out : List ℕ) (ones : ℕ) where
    -- the octets that go out and the bits that wait then, given
    puts : (octets : List ℕ) (rest : List Bool) → octets_out t (bits_of many piece) ≡ octets → still_waiting t (bits_of many piece) ≡ rest
        → (at count wait : ℕ) → at ≡ t.at + length octets → count ≡ length rest → wait ≡ octet_of rest
        → Puts out t (bits_of many piece) ones (at_place at count wait ones) (sets out t.at octets)
    puts octets rest o s at count wait a n v =
        let a' : at ≡ t.at + length (octets_out t (bits_of many piece)) = a ∙ ap (λ (x : List ℕ). t.at + length x) (sym o) in
        let n' : count ≡ length (still_waiting t (bits_of many piece)) = n ∙ ap length (sym s) in
        let v' : wait ≡ octet_of (still_waiting t (bits_of many piece)) = v ∙ ap octet_of (sym s) in
        record { tx = λ i. at_place (a' i) (n' i) (v' i) ones; area = ap (sets out t.at) (sym o) }

    -- fewer than sixteen bits: one octet goes out
    pub one_out : t.count + many < 16
        → Puts out t (bits_of many piece) ones (at_place (t.at + 1) (t.count + many - 8) (joined t piece / 256) ones)
        (set out t.at (joined t piece % 256))
    unfolding octets_out still_waiting
    one_out f =
        let l : length all < 16 = omega (arith, all-length) in
        puts (joined t piece % 256 ∷ []) (drop 8 all) (whole-one all eight l ∙ ap {B = List ℕ} (λ (k : ℕ). k % 256 ∷ []) (sym value))
        (after_one all eight l) _ _ _ refl (omega (arith, rest-length all eight, all-length)) (sym rest-value)

    -- sixteen and more: two octets go out
    pub two_out : 16 ≤ t.count + many
        → Puts out t (bits_of many piece) ones (at_place (t.at + 2) (t.count + many - 16) (joined t piece / 65536) ones)
        (set (set out t.at (joined t piece % 256)) (t.at + 1) (joined t piece / 256 % 256))
    unfolding octets_out still_waiting
    two_out f =
        let rest : List Bool = drop 8 all in
        let e : 8 ≤ length rest = omega (arith, rest-length all eight, all-length) in
        let l : length rest < 16 = omega (arith, rest-length all eight, all-length, g.few) in
        let v : octet_of (drop 8 rest) ≡ joined t piece / 65536 = omega (arith, past-eight rest e, rest-value) in
        let first : octet_of all % 256 ≡ joined t piece % 256 = ap (λ (k : ℕ). k % 256) (sym value) in
        let second : octet_of rest % 256 ≡ joined t piece / 256 % 256 = ap (λ (k : ℕ). k % 256) rest-value in
        rw (add-one t.at)
        (puts (joined t piece % 256 ∷ joined t piece / 256 % 256 ∷ []) (drop 8 rest)
        (whole-first all eight ∙ ap₂ {C = List ℕ} (λ (k : ℕ) (x : List ℕ). k ∷ x) first (whole-one rest e l ∙ ap {B = List ℕ} (λ (k : ℕ). k ∷ []) second))
        (after_first all eight ∙ after_one rest e l) _ _ _ refl (omega (arith, rest-length all eight, rest-length rest e, all-length)) (sym v))
