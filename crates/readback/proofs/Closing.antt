-- The line octet that holds the last bit of a unit's closing flag: it finds that unit, and no other is closed after it.
use Prim.Native.Nat.{ℕ, ◌+◌, ◌≤◌}
use mathlib.Core.Path.{◌≡◌, sym, ap, ap₂, ◌∙◌}
use mathlib.Core.Bool.{Bool, false}
use mathlib.Core.List.{List, [], ◌∷◌, ◌++◌, append_assoc, append-nil, append-eq-nil_iff}
use native.Mathlib.Omega.{arith}
use lib.ListN.{length, length-append}
use Rattle.bits.specs.Octets.{bits_of, line_bits}
use Rattle.bits.proofs.Machines.{run-append, outs-append}
use Rattle.bits.proofs.Digits.{length-bits_of}
use Rattle.bits.proofs.Lines.{line-append, line-cons}
use Rattle.framing.specs.Delimitation.{Receiver, Finding, closed, flagged, step_bit, next, finds, receiver_after, findings}
use Rattle.sending.specs.Stuffing.{stuffed, flag, on_line, unit_bits, unit_line}
use Rattle.sending.proofs.Stuffs.{unit-bits}
use Rattle.sending.proofs.ReadBack.{ClosesLast, closes-last}
use Rattle.units.specs.Indications.{line_receiver}
use Rattle.reception.proofs.Lines.{by_bits}
use Rattle.readback.proofs.Lists.{Seam, seam}

-- ---- the last octet
-- nothing is found in `quiet`, of which the octet holds the end q₂, and the bit after it closes u
close-found : (M : ℕ) (u quiet q₁ q₂ behind : List Bool) → quiet ≡ q₁ ++ q₂ → findings M flagged quiet ≡ []
    → step_bit M (receiver_after M flagged quiet) false ≡ (flagged, closed u ∷ [])
    → findings M (receiver_after M flagged q₁) (q₂ ++ (false ∷ behind)) ≡ closed u ∷ findings M flagged behind
close-found M u quiet q₁ q₂ behind e none last =
    let none₂ : findings M (receiver_after M flagged q₁) q₂ ≡ [] =
    (append-eq-nil_iff.0
    (sym (outs-append (next M) (finds M) q₁ q₂ flagged) ∙ ap (findings M flagged) (sym e) ∙ none)).1 in
    let there : receiver_after M (receiver_after M flagged q₁) q₂ ≡ receiver_after M flagged quiet =
    sym (run-append (next M) q₁ q₂ flagged) ∙ ap (receiver_after M flagged) (sym e) in
    outs-append (next M) (finds M) q₂ (false ∷ behind) (receiver_after M flagged q₁)
    ∙ ap₂ (λ (xs : List Finding) (s : Receiver). xs ++ findings M s (false ∷ behind)) none₂ there
    ∙ ap (λ (st : Receiver × List Finding). st.1 ++ findings M st.0 behind) last

-- a unit's bits are at least the eight of its flag
line-eight : (u : List Bool) → 8 ≤ length (on_line u)
line-eight u = omega (arith, length-append (stuffed 0 u) flag)

module _ (M : ℕ) (r : Receiver) (early : List ℕ) (last : ℕ) (before behind : List Bool) (content : List ℕ)
    (line : line_bits (early ++ (last ∷ [])) ≡ before ++ (unit_line content ++ behind)) (few : length behind ≤ 7)
    (opens : receiver_after M r before ≡ flagged) (room : length content + 2 ≤ M) where
  c : ClosesLast M (unit_bits content)
  c = closes-last M (unit_bits content) (omega (arith, unit-bits content)) (omega (arith, unit-bits content))

  abbrev E : List Bool
  E = line_bits early

  abbrev L : List Bool
  L = bits_of 8 last

  whole : E ++ L ≡ before ++ (c.quiet ++ (false ∷ behind))
  unfolding unit_line line_bits
  whole =
      ap (λ (x : List Bool). E ++ x) (sym (append-nil L) ∙ sym (line-cons last [])) ∙ sym (line-append early (last ∷ [])) ∙ line
      ∙ ap (λ (x : List Bool). before ++ x) (ap (λ (x : List Bool). x ++ behind) c.is ∙ append_assoc c.quiet (false ∷ []) behind)

  pub last-finds : findings M (line_receiver M r early) L ≡ closed (unit_bits content) ∷ findings M flagged behind
  last-finds =
      ap (λ (s : Receiver). findings M s L) start ∙ ap (findings M (receiver_after M flagged q₁)) (sym second.rest)
      ∙ close-found M (unit_bits content) c.quiet q₁ second.between behind second.first c.nothing c.last
    where
      quiet_long : 7 ≤ length c.quiet
      quiet_long = omega (arith, line-eight (unit_bits content), ap length c.is, length-append c.quiet (false ∷ []))

      eight : length E + 8 ≡ length before + (length c.quiet + (1 + length behind))
      eight =
          omega (
            arith,
            length-append E L,
            length-bits_of 8 last,
            ap length whole,
            length-append before (c.quiet ++ (false ∷ behind)),
            length-append c.quiet (false ∷ behind),
          )

      first : Seam E L before (c.quiet ++ (false ∷ behind))
      first = seam E L before (c.quiet ++ (false ∷ behind)) whole (omega (arith, eight, quiet_long))

      q₁ : List Bool
      q₁ = first.between

      early-long : length E ≡ length before + length q₁
      early-long = ap length first.first ∙ length-append before q₁

      second : Seam c.quiet (false ∷ behind) q₁ L
      second = seam c.quiet (false ∷ behind) q₁ L (sym first.rest) (omega (arith, eight, early-long))

      start : line_receiver M r early ≡ receiver_after M flagged q₁
      start =
          by_bits M early r ∙ ap (receiver_after M r) first.first ∙ run-append (next M) before q₁ r ∙ ap (λ (s : Receiver). receiver_after M s q₁) opens
