-- A run of writes: where it is, and that what is left to put from there gives the whole.
use Prim.Native.Nat.{ℕ, ◌≤◌}
use mathlib.Core.Path.{◌≡◌, refl, sym, ap, subst, ◌∙◌}
use mathlib.Core.Bool.{Bool}
use mathlib.Core.List.{List, [], ◌++◌}
use native.Mathlib.Omega.{arith}
use lib.ListN.{length, length-append}
use lib.Seq.{length-sets}
use Rattle.sending.specs.declared.Tx.{Tx}
use Rattle.sending.specs.Stuffing.{stuffed, ones_over}
use Rattle.sending.specs.Packing.{octets_out}
use Rattle.sending.specs.Sender.{TxInRange}
use Rattle.sending.specs.InnerPutting.{after_bits, area_put, Puts, Room}
use Rattle.sending.proofs.Stuffs.{stuffed-append, ones-append, over-le}
use Rattle.sending.proofs.Puttings.{ready-after, place_after, puts-append, puts_none, written-append, written_none}

-- `all` is to be put from t into out₀, with `end` ones in a row at its end; so far the area is out and the sender s, with `rest` still to put
pub record Rest (out₀ : List ℕ) (t : Tx) (all : List Bool) (end : ℕ) (out : List ℕ) (s : Tx) (rest : List Bool) : Type 0 where
  pub ready : TxInRange s
  pub room : Room s rest out
  pub same : length out ≡ length out₀
  pub tx : after_bits s rest end ≡ after_bits t all end
  pub area : area_put out s rest ≡ area_put out₀ t all

pub begins : (out : List ℕ) (t : Tx) (all : List Bool) (end : ℕ) → TxInRange t → Room t all out → Rest out t all end out t all
begins out t all end g r = record { ready = g; room = r; same = refl; tx = refl; area = refl }

module _ (out₀ : List ℕ) (t : Tx) (all : List Bool) (end : ℕ) (out : List ℕ) (s : Tx) where
  -- there is room for what comes first
  pub first-room : (xs ys : List Bool) → Rest out₀ t all end out s (xs ++ ys) → Room s xs out
  first-room xs ys h = omega (arith, h.room, length-append xs ys)

  -- a part of the rest is put
  pub goes : (xs ys : List Bool) (ones : ℕ) → ones ≤ 4 → Rest out₀ t all end out s (xs ++ ys) → (s' : Tx) (out' : List ℕ) → Puts out s xs ones s' out'
      → Rest out₀ t all end out' s' ys
  goes xs ys ones o h s' out' p =
      rw (p.tx, p.area)
      (record {
        ready = ready-after s xs ones o;
        room = omega (arith, h.room, length-append xs ys, place_after s xs ones, length-sets out s.at (octets_out s xs));
        same = length-sets out s.at (octets_out s xs) ∙ h.same;
        tx = puts-append s xs ys ones end ∙ h.tx;
        area = written-append out s xs ys ones ∙ h.area;
      })

  -- all is put
  pub ends : Rest out₀ t all end out s [] → Puts out₀ t all end (record { at = s.at; count = s.count; wait = s.wait; ones = end }) out
  ends h = record { tx = puts_none s h.ready end ∙ h.tx; area = written_none s h.ready out ∙ h.area }

-- ---- bits of a unit, which are stuffed: `all` from t on, with `bits` still to put
pub record Going (out₀ : List ℕ) (t : Tx) (all : List Bool) (out : List ℕ) (s : Tx) (bits : List Bool) : Type 0 where
  pub rest : Rest out₀ t (stuffed t.ones all) (ones_over t.ones all) out s (stuffed s.ones bits)
  pub ones : ones_over s.ones bits ≡ ones_over t.ones all

pub sets-out : (out : List ℕ) (t : Tx) (all : List Bool) → TxInRange t → Room t (stuffed t.ones all) out → Going out t all out t all
sets-out out t all g r = record { rest = begins out t (stuffed t.ones all) (ones_over t.ones all) g r; ones = refl }

module _ (out₀ : List ℕ) (t : Tx) (all : List Bool) (out : List ℕ) (s : Tx) where
  split : (xs ys : List Bool) → Going out₀ t all out s (xs ++ ys)
      → Rest out₀ t (stuffed t.ones all) (ones_over t.ones all) out s (stuffed s.ones xs ++ stuffed (ones_over s.ones xs) ys)
  split xs ys h =
      subst (λ (x : List Bool). Rest out₀ t (stuffed t.ones all) (ones_over t.ones all) out s x) (stuffed-append xs ys s.ones) h.rest

  pub going-room : (xs ys : List Bool) → Going out₀ t all out s (xs ++ ys) → Room s (stuffed s.ones xs) out
  going-room xs ys h =
      first-room out₀ t (stuffed t.ones all) (ones_over t.ones all) out s (stuffed s.ones xs) (stuffed (ones_over s.ones xs) ys) (split xs ys h)

  pub goes_on : (xs ys : List Bool) → Going out₀ t all out s (xs ++ ys) → (s' : Tx) (out' : List ℕ)
      → Puts out s (stuffed s.ones xs) (ones_over s.ones xs) s' out' → Going out₀ t all out' s' ys
  goes_on xs ys h s' out' p =
      let o : ones_over s.ones xs ≡ s'.ones = sym (ap (λ (x : Tx). x.ones) p.tx) in
      let r : Rest out₀ t (stuffed t.ones all) (ones_over t.ones all) out' s' (stuffed (ones_over s.ones xs) ys) =
      goes out₀ t (stuffed t.ones all) (ones_over t.ones all) out s (stuffed s.ones xs) (stuffed (ones_over s.ones xs) ys)
      (ones_over s.ones xs) (over-le s.ones xs h.rest.ready.short) (split xs ys h) s' out' p in
      record {
        rest = subst (λ (n : ℕ). Rest out₀ t (stuffed t.ones all) (ones_over t.ones all) out' s' (stuffed n ys)) o r;
        ones = ap (λ (n : ℕ). ones_over n ys) (sym o) ∙ sym (ones-append xs ys s.ones) ∙ h.ones;
      }

  pub going-ends : Going out₀ t all out s [] → Puts out₀ t (stuffed t.ones all) (ones_over t.ones all) s out
  going-ends h =
      subst (λ (n : ℕ). Puts out₀ t (stuffed t.ones all) (ones_over t.ones all) (record { at = s.at; count = s.count; wait = s.wait; ones = n }) out)
      (sym h.ones) (ends out₀ t (stuffed t.ones all) (ones_over t.ones all) out s h.rest)

-- a sender with another count of ones in a row
abbrev pub marked : Tx → ℕ → Tx
marked s ones = record { at = s.at; count = s.count; wait = s.wait; ones = ones }
