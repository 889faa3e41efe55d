-- What a booking found between two flags: the law of delimitation, at the whole line of the booking.
use Prim.Native.Nat.{ℕ}
use mathlib.Core.Path.{◌≡◌, sym, ap, ap₂, ◌∙◌}
use mathlib.Core.Bool.{Bool, true}
use mathlib.Core.List.{List, ◌++◌, append_assoc}
use Rattle.bits.proofs.Machines.{outs-append}
use Rattle.framing.specs.Delimitation.{Receiver, Finding, new_receiver, flagged, next, finds, receiver_after, findings}
use Rattle.sending.specs.Stuffing.{flag}
use Rattle.delimitation.specs.BetweenFlags.{no_six, between, found_of}
use Rattle.delimitation.proofs.BetweenFlags.{between-flags}
use Rattle.calls.specs.Call.{link_after}
use Rattle.bookings.specs.BetweenFlags.{FoundBetweenFlags}
use Rattle.bookings.proofs.History.{histories}

in-line : (M : ℕ) (s : Receiver) (before bs after : List Bool) → no_six 0 bs ≡ true
    → findings M s (before ++ (flag ++ (bs ++ (flag ++ after)))) ≡ findings M s (before ++ flag) ++ (found_of M (between bs) ++ findings M flagged after)
in-line M s before bs after six =
    outs-append (next M) (finds M) before (flag ++ (bs ++ (flag ++ after))) s
    ∙ ap (λ (x : List Bool). findings M s before ++ findings M r x) regroup
    ∙ ap (λ (x : List Finding). findings M s before ++ x)
    (outs-append (next M) (finds M) (flag ++ (bs ++ flag)) after r
    ∙ ap₂ (λ (x : List Finding) (y : Receiver). x ++ findings M y after) law.0 law.1 ∙ append_assoc (findings M r flag) (found_of M (between bs)) (findings M flagged after))
    ∙ sym (append_assoc (findings M s before) (findings M r flag) (found_of M (between bs) ++ findings M flagged after))
    ∙ ap (λ (x : List Finding). x ++ (found_of M (between bs) ++ findings M flagged after)) (sym (outs-append (next M) (finds M) before flag s))
  where
    r : Receiver
    r = receiver_after M s before

    law : (findings M r (flag ++ (bs ++ flag)) ≡ findings M r flag ++ found_of M (between bs)) × (receiver_after M r (flag ++ (bs ++ flag)) ≡ flagged)
    law = between-flags M r bs six

    regroup : flag ++ (bs ++ (flag ++ after)) ≡ (flag ++ (bs ++ flag)) ++ after
    regroup = ap (λ (x : List Bool). flag ++ x) (sym (append_assoc bs flag after)) ∙ sym (append_assoc flag (bs ++ flag) after)

pub found-between-flags : FoundBetweenFlags
found-between-flags cs before bs after e six =
    let m = (link_after cs).settings.m in (histories cs).found ∙ ap (findings m new_receiver) e ∙ in-line m new_receiver before bs after six
