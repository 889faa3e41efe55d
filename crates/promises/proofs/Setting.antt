-- An alarm's event bit over what a call brings: nothing but the alarm sets it.
use Prim.Native.Nat.{ℕ, zero, suc}
use mathlib.Core.Path.{◌≡◌, refl, sym, ap, ◌∙◌}
use mathlib.Core.Logic.{◌↔◌, ◌⊎◌, inl, inr, ⊎_elim}
use mathlib.Core.Bool.{Bool, true, false, cond, ◌||◌}
use mathlib.Core.List.{List, [], ◌∷◌, ◌++◌}
use lib.Bits.{bit_or}
use lib.Dec.{eqb}
use Rattle.std.specs.Prelude.{Option, Some, None}
use Rattle.std.proofs.lemmas.Option.{none-some}
use Rattle.std.proofs.Math.Bool.{or-false}
use Rattle.std.proofs.lemmas.Bool.{or_cases, or_left, or_right}
use Rattle.bits.specs.Octets.{whole_octets}
use Rattle.framing.specs.Delimitation.{closed, abort, long}
use Rattle.monitor.specs.declared.Alarm.{Alarm}
use Rattle.monitor.specs.declared.Alarm.TheVariants.{Suer, Aerm}
use Rattle.monitor.specs.declared.Limits.{Limits}
use Rattle.monitor.specs.Monitor.{step}
use Rattle.monitor.specs.ErrorMonitors.{ErrorMonitor, suerm, aerm, alarm_of}
use Rattle.board.specs.declared.Settings.{Settings}
use Rattle.board.specs.declared.Supervision.{Supervision}
use Rattle.board.specs.declared.events.Event.TheVariants.{Suer as suer-bit, Aerm as aerm-bit}
use Rattle.records.specs.declared.Happening.{Happening}
use Rattle.records.specs.declared.Noted.{Noted}
use Rattle.records.specs.Happening.{alarm_bit}
use Rattle.records.specs.Record.{supervised, supervision_after}
use Rattle.records.proofs.Noting.{noted-event, noted-none}
use Rattle.units.specs.Indications.{Indication, found, octet_end}
use Rattle.units.specs.Units.{UnitMemory, Effect, octet_effect, effect_of, happens, happenings, next_unit_memory}
use Rattle.units.proofs.UnitStates.{each-tick, each-closed, each-errored, each-good}
use Rattle.promises.specs.Demand3.{bit_set, bit_of}
use Rattle.promises.proofs.EventBits.{bit-or}
use Rattle.promises.proofs.Alarming.{alarm_at}

-- ---- what happens sets other bits by itself
pub record Plain (bits : ℕ) : Type 0 where
  pub suer : bit_set suer-bit bits ≡ false
  pub aerm : bit_set aerm-bit bits ≡ false

plain-bit : (x : ErrorMonitor) (bits : ℕ) → Plain bits → bit_set (bit_of x) bits ≡ false
plain-bit suerm bits p = p.suer
plain-bit aerm bits p = p.aerm

pub data AllPlain : List Happening → Type 0 where
  none : AllPlain []
  more : {h : Happening} {hs : List Happening} → Plain h.bits → AllPlain hs → AllPlain (h ∷ hs)

plain-append : (xs ys : List Happening) → AllPlain xs → AllPlain ys → AllPlain (xs ++ ys)
plain-append [] ys none q = q
plain-append (x ∷ xs) ys (more p ps) q = more p (plain-append xs ys ps q)

abbrev PlainEffect : Effect → Type 0
PlainEffect x = AllPlain x.happenings

abbrev one_plain : {h : Happening} → bit_set suer-bit h.bits ≡ false → bit_set aerm-bit h.bits ≡ false → AllPlain (h ∷ [])
one_plain p q = more (record { suer = p; aerm = q }) none

plain-happens : (s : Settings) (o : UnitMemory) (m : Indication) → AllPlain (happens s o m)
unfolding effect_of octet_effect
plain-happens s o (found (closed u)) =
    let os = whole_octets u in
    each-closed PlainEffect s o u (one_plain refl refl) (λ status kind. each-errored PlainEffect s o os status kind (one_plain refl refl) (one_plain refl refl))
    (each-good PlainEffect s o os (λ m. one_plain refl refl) (λ m. one_plain refl refl) (λ m. one_plain refl refl))
plain-happens s o (found abort) = one_plain refl refl
plain-happens s o (found long) = one_plain refl refl
plain-happens s o octet_end = each-tick AllPlain (eqb o.units.counting.left 1) o.units.counting.on (one_plain refl refl) none

pub plain-happenings : (s : Settings) (ms : List Indication) (o : UnitMemory) → AllPlain (happenings s o ms)
unfolding happenings
plain-happenings s [] o = none
plain-happenings s (m ∷ ms) o = plain-append (happens s o m) (happenings s (next_unit_memory s o m) ms) (plain-happens s o m) (plain-happenings s ms (next_unit_memory s o m))

-- ---- the alarm's bit
abbrev rings : ErrorMonitor → Option Alarm → Bool
rings suerm (Some Suer) = true
rings suerm (Some Aerm) = false
rings suerm None = false
rings aerm (Some Suer) = false
rings aerm (Some Aerm) = true
rings aerm None = false

rings-bit : (x : ErrorMonitor) (a : Option Alarm) → bit_set (bit_of x) (alarm_bit a) ≡ rings x a
rings-bit suerm (Some Suer) = refl
rings-bit suerm (Some Aerm) = refl
rings-bit suerm None = refl
rings-bit aerm (Some Suer) = refl
rings-bit aerm (Some Aerm) = refl
rings-bit aerm None = refl

rings-is : (x : ErrorMonitor) (a : Option Alarm) → rings x a ≡ true → a ≡ Some (alarm_of x)
rings-is suerm (Some Suer) e = refl
rings-is suerm (Some Aerm) e = cc
rings-is suerm None e = cc
rings-is aerm (Some Suer) e = cc
rings-is aerm (Some Aerm) e = refl
rings-is aerm None e = cc

rings-own : (x : ErrorMonitor) → rings x (Some (alarm_of x)) ≡ true
rings-own suerm = refl
rings-own aerm = refl

module _ (x : ErrorMonitor) (l : Limits) where
  abbrev bit : Supervision → Bool
  bit w = bit_set (bit_of x) w.events

  one_bit : (w : Supervision) (h : Happening) → Plain h.bits → bit (supervised l w h) ≡ bit w || rings x (alarm_at l w (h ∷ []) 0)
  one_bit w h p = go h.event refl
    where
      own : bit_set (bit_of x) (bit_or w.events h.bits) ≡ bit w
      own = rw (bit-or (bit_of x) w.events h.bits, plain-bit x h.bits p) (or-false (bit w))

      go : (b : Bool) → h.event ≡ b → bit (supervised l w h) ≡ bit w || rings x (cond b (step l w.monitor h.errored).alarm None)
      go true e =
          let a = (step l w.monitor h.errored).alarm in
          ap (λ (n : Noted). bit n.supervision) (noted-event l w h e)
          ∙ bit-or (bit_of x) (bit_or w.events h.bits) (alarm_bit a)
          ∙ ap (λ (b : Bool). b || bit_set (bit_of x) (alarm_bit a)) own ∙ ap (λ (b : Bool). bit w || b) (rings-bit x a)
      go false e =
          ap (λ (n : Noted). bit n.supervision) (noted-none l w h e) ∙ own ∙ sym (rw (silent x) (or-false (bit w)))
        where
          silent : (y : ErrorMonitor) → rings y None ≡ false
          silent suerm = refl
          silent aerm = refl

  pub bit-after : (hs : List Happening) (w : Supervision) → AllPlain hs
      → (bit (supervision_after l w hs) ≡ true) ↔ ((bit w ≡ true) ⊎ ((k : ℕ) × (alarm_at l w hs k ≡ Some (alarm_of x))))
  unfolding supervision_after
  bit-after [] w none = (inl, ⊎_elim (λ e. e) (λ n. absurd (none-some (alarm_of x) n.1)))
  bit-after (h ∷ hs) w (more p ps) =
      let ih = bit-after hs (supervised l w h) ps in
      let one = one_bit w h p in (
        λ q. ⊎_elim
            (λ e. ⊎_elim inl (λ r. inr (0, rings-is x _ r)) (or_cases (bit w) (rings x (alarm_at l w (h ∷ []) 0)) (sym one ∙ e)))
            (λ n. inr (suc n.0, n.1)) (ih.0 q),
        ⊎_elim (λ e. ih.1 (inl (one ∙ or_left _ _ e))) (λ n. later one ih n.0 n.1),
      )
    where
      later : bit (supervised l w h) ≡ bit w || rings x (alarm_at l w (h ∷ []) 0)
          → ((bit (supervision_after l (supervised l w h) hs) ≡ true) ↔ ((bit (supervised l w h) ≡ true) ⊎ ((k : ℕ) × (alarm_at l (supervised l w h) hs k ≡ Some (alarm_of x)))))
          → (k : ℕ) → alarm_at l w (h ∷ hs) k ≡ Some (alarm_of x) → bit (supervision_after l (supervised l w h) hs) ≡ true
      later one ih zero e = ih.1 (inl (one ∙ or_right (bit w) (rings x (alarm_at l w (h ∷ []) 0)) (ap (rings x) e ∙ rings-own x)))
      later one ih (suc k) e = ih.1 (inr (k, e))
