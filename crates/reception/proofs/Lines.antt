-- Line octets in a row: what two parts do, one after the other, is what they do together.
use Prim.Native.Nat.{ℕ, suc, ◌+◌, ◌*◌, ◌≤◌, ◌<◌}
use mathlib.Core.Path.{◌≡◌, refl, sym, ap, ap₂, subst, ◌∙◌}
use mathlib.Core.List.{List, [], ◌∷◌, ◌++◌}
use native.Mathlib.Omega.{arith}
use lib.ListN.{length, take, get_or, length-append}
use lib.Seq.{take-suc}
use Rattle.board.specs.InnerRanges.{SettingsInRange}
use Rattle.board.specs.Limits.{record_octets, record_room}
use Rattle.bits.specs.Octets.{bits_of, line_bits}
use Rattle.bits.proofs.Machines.{run-append, outs-append}
use Rattle.framing.specs.declared.Line.{Line}
use Rattle.framing.specs.Delimitation.{Receiver, next, receiver_after}
use Rattle.framing.specs.Representation.{decode}
use Rattle.framing.specs.InnerReading.{IsWellFormed}
use Rattle.board.specs.declared.Settings.{Settings}
use Rattle.units.specs.Indications.{octet_receiver, octet_indications, line_receiver, line_indications}
use Rattle.indications.specs.declared.Progress.{Progress}
use Rattle.reception.specs.declared.Passed.{Passed}
use Rattle.indications.specs.InnerWriting.{CallState, holding, indications_done, Able}
use Rattle.reception.specs.InnerWriting.{StateInRange, LineTaken}
use Rattle.indications.proofs.Recording.{indications-none, indications-append}
use Rattle.reception.proofs.Octets.{happenings-five, indications-length}

-- the receiver of line octets is that of their bits
pub by_bits : (M : ℕ) (octets : List ℕ) (st : Receiver) → line_receiver M st octets ≡ receiver_after M st (line_bits octets)
unfolding line_receiver line_bits
by_bits M [] st = refl
by_bits M (x ∷ octets) st = by_bits M octets (octet_receiver M st x) ∙ sym (run-append (next M) (bits_of 8 x) (line_bits octets) st)

pub receiver-append : (M : ℕ) (xs ys : List ℕ) (st : Receiver) → line_receiver M st (xs ++ ys) ≡ line_receiver M (line_receiver M st xs) ys
unfolding line_receiver
receiver-append M = run-append (octet_receiver M)

pub indications-of-both : (M : ℕ) (xs ys : List ℕ) (st : Receiver) → line_indications M st (xs ++ ys) ≡ line_indications M st xs ++ line_indications M (line_receiver M st xs) ys
unfolding line_receiver line_indications
indications-of-both M = outs-append (octet_receiver M) (octet_indications M)

module _ (s : Settings) (line : Line) (area : List ℕ) (w : CallState) where
  pub taken_none : (p : Progress) (pool descriptors out : List ℕ) → w ≡ holding p pool descriptors out → IsWellFormed s.m line area → StateInRange s w
      → LineTaken s line area [] w (record { line = line; progress = p }) area (holding p pool descriptors out)
  unfolding line_receiver line_indications
  taken_none p pool descriptors out e h r =
      record {
        receiver = refl;
        held = h;
        done = sym e ∙ sym (indications-none s w);
        ready = subst (StateInRange s) e r;
        few = let c : p.count ≡ w.count = ap (λ (x : CallState). x.count) (sym e) in omega arith;
      }

  pub taken-append : (xs ys : List ℕ) (r : Passed) (area' : List ℕ) (w' : CallState) (r'' : Passed) (area'' : List ℕ) (w'' : CallState)
      → LineTaken s line area xs w r area' w' → LineTaken s r.line area' ys w' r'' area'' w'' → LineTaken s line area (xs ++ ys) w r'' area'' w''
  taken-append xs ys r area' w' r'' area'' w'' a b =
      record {
        receiver = b.receiver ∙ ap (λ (st : Receiver). line_receiver s.m st ys) a.receiver ∙ sym (receiver-append s.m xs ys (decode line area));
        held = b.held;
        done =
            b.done
            ∙ ap₂ (λ (x : CallState) (st : Receiver). indications_done s x (line_indications s.m st ys)) a.done a.receiver
            ∙ sym (indications-append s w (line_indications s.m (decode line area) xs) (line_indications s.m (line_receiver s.m (decode line area) xs) ys)
            (happenings-five s (line_indications s.m (decode line area) xs) w.unit_memory))
            ∙ ap (indications_done s w) (sym (indications-of-both s.m xs ys (decode line area)));
        ready = b.ready;
        few = omega (arith, a.few, b.few, length-append xs ys);
      }

  -- the next octet of a list
  pub taken_next : (octets : List ℕ) (at : ℕ) → at < length octets → (r : Passed) (area' : List ℕ) (w' : CallState) (r'' : Passed) (area'' : List ℕ) (w'' : CallState)
      → LineTaken s line area (take at octets) w r area' w' → LineTaken s r.line area' (get_or octets at 0 ∷ []) w' r'' area'' w''
      → LineTaken s line area (take (at + 1) octets) w r'' area'' w''
  taken_next octets at h r area' w' r'' area'' w'' a b =
      subst (λ (xs : List ℕ). LineTaken s line area xs w r'' area'' w'')
      (sym (ap (λ (n : ℕ). take n octets) (let e : at + 1 ≡ suc at = omega arith in e) ∙ take-suc octets at 0 h))
      (taken-append (take at octets) (get_or octets at 0 ∷ []) r area' w' r'' area'' w'' a b)

  pub same_out : (xs : List ℕ) (r : Passed) (area' : List ℕ) (w' : CallState) → LineTaken s line area xs w r area' w' → length w'.out ≡ length w.out
  same_out xs r area' w' a = ap (λ (x : CallState). length x.out) a.done ∙ indications-length s w (line_indications s.m (decode line area) xs)

pub next-able : (s : Settings) (p : Progress) (pool descriptors out : List ℕ) → SettingsInRange s
    → StateInRange s (holding p pool descriptors out) → record_octets * p.count + record_room ≤ length out → Able s p pool descriptors out
next-able s p pool descriptors out l r k = record { settings = l; monitor = r.monitor; fits = r.fits; room = omega arith }
