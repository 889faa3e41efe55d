-- A link in use accepts every send and fill of the sizes allowed, and stays in use.
use Prim.Native.Nat.{◌≤◌}
use mathlib.Core.Path.{◌≡◌, sym, ap, subst, ◌∙◌}
use mathlib.Core.Bool.{Bool, true, false, false≢true}
use mathlib.Core.List.{List, [], ◌∷◌}
use native.Mathlib.Omega.{arith}
use lib.ListN.{length}
use lib.Seq.{take_all}
use borrow.Author.Tests.{le-ltb}
use Rattle.bits.specs.Octets.{octet_of, packed}
use Rattle.sending.specs.Packing.{still_waiting}
use Rattle.sending.proofs.Puttings.{nothing-lost}
use Rattle.board.specs.declared.Link.{Link}
use Rattle.board.specs.Malformed.{zero_past, malformed}
use Rattle.board.proofs.Ranges.{well-formed, not-malformed}
use Rattle.board.specs.InnerRanges.{WellFormed}
use Rattle.link.specs.Refusals.{first}
use Rattle.output.specs.Refusals.{send_number, fill_number}
use Rattle.output.specs.Output.{OutputOutcome, sender}
use Rattle.transmission.specs.Transmission.{Sending, send, fill, answer, sent_on, link_after, none as no-calls, more as one-call}
use Rattle.transmission.proofs.Calls.{bits_out, number_of, put, accepted, is-done}
use Rattle.transmission.proofs.Line.{few-two, two-kept}
use Rattle.link.specs.Held.{Held}
use Rattle.readback.specs.Using.{InUse, Fitting, none, more, SendsInUse}
use Rattle.board.proofs.Past.{packed-past}

-- the waiting octet is zero past the bits that wait
wait-past : (g : List Bool) → length g ≤ 7 → zero_past (length g) (octet_of g ∷ []) ≡ true
unfolding packed
wait-past g few = ap (λ (bs : List Bool). zero_past (length g) (octet_of bs ∷ [])) (sym (take_all 8 g (omega arith))) ∙ packed-past 1 g

no-fault-of : (l : Link) (s : Sending) → malformed l ≡ false → l.opened ≡ true → Fitting s → number_of l s ≡ 0
unfolding send_number fill_number first
no-fault-of l (send content output) formed opened fits =
    rw (formed, opened, le-ltb (length output) 336 fits.2, le-ltb (length content) 3 fits.0, le-ltb 276 (length content) fits.1)
no-fault-of l (fill output) formed opened fits = rw (formed, opened, le-ltb (length output) 336 fits)

module _ (h : Held) (s : Sending) (u : InUse h) (fits : Fitting s) where
  no-fault : number_of h.link s ≡ 0
  no-fault = no-fault-of h.link s u.formed u.opened fits

  formed-after : WellFormed (put h.link s).link
  formed-after =
      let o = well-formed h.link u.opened u.formed in
      let still = still_waiting (sender h.link.transmitter) (bits_out h.link s) in
      let few = (nothing-lost (sender h.link.transmitter) (bits_out h.link s)).1 in
      record {
        area = o.area;
        settings = o.settings;
        run = o.run;
        bits = o.bits;
        idle = o.idle;
        counter = o.counter;
        monitor = o.monitor;
        next = o.next;
        waiting = few;
        unflagged = λ e. absurd (false≢true (sym e));
        wait = wait-past still few;
      }

  taken : (answer h.link s).number ≡ 0
  taken = ap (λ (x : OutputOutcome). x.number) (is-done h.link s no-fault)

  still-used : InUse (record { link = sent_on h.link s; pool = h.pool; descriptors = h.descriptors })
  still-used =
      subst (λ (x : OutputOutcome). InUse (record { link = x.link; pool = h.pool; descriptors = h.descriptors })) (sym (is-done h.link s no-fault))
      (record {
        opened = u.opened;
        formed = not-malformed (put h.link s).link u.opened formed-after;
        fits = u.fits;
      })

pub sends-in-use : SendsInUse
unfolding link_after
sends-in-use h [] two u none = (no-calls, u)
sends-in-use h (s ∷ ss) two u (more fits rest) =
    let z = taken h s u fits in
    let two' = two-kept h.link s two (accepted h.link s (few-two h.link s two) z) in
    let r = sends-in-use (record { link = sent_on h.link s; pool = h.pool; descriptors = h.descriptors }) ss two' (still-used h s u fits) rest in
    (one-call z r.0, r.1)
