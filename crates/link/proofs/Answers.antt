-- How a call's answer is met: refused, and done; and what no fault says.
use Prim.Native.Nat.{ℕ, ◌+◌, ◌-◌, ◌*◌, ◌≤◌, ◌<◌}
use mathlib.Core.Path.{◌≡◌, sym, ap, ap₂, ◌∙◌}
use mathlib.Core.Bool.{true, false, not, cond}
use mathlib.Core.List.{List}
use native.Mathlib.Omega.{arith}
use lib.Dec.{eqb, ltb}
use lib.ListN.{length, take, drop}
use lib.Seq.{take-take}
use borrow.Author.Tests.{eq-eqb, ne_eqb, eqb-true, leb-false, ltb-false, not-false}
use Rattle.std.proofs.lemmas.Bool.{cond-true, cond-false, and_parts, or_parts}
use Rattle.bits.specs.Format.{basic}
use Rattle.memory.specs.Lent.{zeros, status_of, length_of}
use Rattle.board.specs.declared.Settings.{Settings}
use Rattle.board.specs.declared.Link.{Link}
use Rattle.board.specs.Malformed.{in_range, malformed}
use Rattle.link.specs.Refusals.{is_filled, fits_memory, open_number, read_number}
use Rattle.link.specs.Calls.{read_part}
use Rattle.link.proofs.Faults.{none}

-- an answer by its number
pub done : {A : Type 0} (n : ℕ) (yes-done no-done : A) → n ≡ 0 → cond (eqb n 0) yes-done no-done ≡ yes-done
done n a b z = cond-true _ a b (eq-eqb n 0 z)

pub refused : {A : Type 0} (n : ℕ) (yes-done no-done : A) → (n ≡ 0 → ⊥) → cond (eqb n 0) yes-done no-done ≡ no-done
refused n a b z = cond-false _ a b (ne_eqb n 0 z)

-- the memory that a call asks for
pub fit_memory : (k : ℕ) (pool descriptors : List ℕ) → fits_memory basic k pool descriptors ≡ true
    → (length pool ≡ 280 * k) × (length descriptors ≡ 2 * k)
unfolding fits_memory
fit_memory k pool descriptors e = let fits = and_parts _ _ e in (eqb-true _ _ fits.0, eqb-true _ _ fits.1)

-- ---- open
pub record Openable (l : Link) (s : Settings) (pool descriptors : List ℕ) : Type 0 where
  pub good : malformed l ≡ false
  pub closed : l.opened ≡ false
  pub range : in_range basic s ≡ true
  pub fits : fits_memory basic s.k pool descriptors ≡ true
  pub octets : length pool ≡ 280 * s.k
  pub words : length descriptors ≡ 2 * s.k
  pub clean-pool : zeros pool ≡ true
  pub clean-words : zeros descriptors ≡ true

module _ (l : Link) (s : Settings) (pool descriptors : List ℕ) where
  pub openable : open_number l s pool descriptors ≡ 0 → Openable l s pool descriptors
  unfolding open_number
  openable e =
      let n1 = none _ _ _ (λ z. omega arith) e in
      let n3 = none _ _ _ (λ z. omega arith) n1.1 in
      let n4 = none _ _ _ (λ z. omega arith) n3.1 in
      let n5 = none _ _ _ (λ z. omega arith) n4.1 in
      let n6 = none _ _ _ (λ z. omega arith) n5.1 in
      let fits = fit_memory _ _ _ (not-false _ n5.0) in
      let clean = and_parts _ _ (not-false _ n6.0) in
      record {
        good = n1.0;
        closed = n3.0;
        range = not-false _ n4.0;
        fits = not-false _ n5.0;
        octets = fits.0;
        words = fits.1;
        clean-pool = clean.0;
        clean-words = clean.1;
      }

  pub open_words : 0 ≡ open_number l s pool descriptors → length descriptors ≡ 2 * s.k
  open_words n = (openable (sym n)).words

-- ---- read and hand back
pub record Readable (l : Link) (pool descriptors : List ℕ) (slot : ℕ) : Type 0 where
  pub good : malformed l ≡ false
  pub opened : l.opened ≡ true
  pub fits : fits_memory basic l.settings.k pool descriptors ≡ true
  pub octets : length pool ≡ 280 * l.settings.k
  pub words : length descriptors ≡ 2 * l.settings.k
  pub below : slot < l.settings.k
  pub short : length_of descriptors slot ≤ 278

module _ (l : Link) (pool descriptors : List ℕ) (slot : ℕ) where
  pub readable : read_number l pool descriptors slot ≡ 0 → Readable l pool descriptors slot
  unfolding read_number
  readable e =
      let n1 = none _ _ _ (λ z. omega arith) e in
      let n2 = none _ _ _ (λ z. omega arith) n1.1 in
      let n5 = none _ _ _ (λ z. omega arith) n2.1 in
      let n12 = none _ _ _ (λ z. omega arith) n5.1 in
      let n13 = none _ _ _ (λ z. omega arith) n12.1 in
      let fits = fit_memory _ _ _ (not-false _ n5.0) in
      record {
        good = n1.0;
        opened = not-false _ n2.0;
        fits = not-false _ n5.0;
        octets = fits.0;
        words = fits.1;
        below = leb-false _ _ n12.0;
        short = ltb-false 278 (length_of descriptors slot) (or_parts (not (is_filled (status_of descriptors slot))) (ltb 278 (length_of descriptors slot)) n13.0).1;
      }

  pub slot_bounds : 0 ≡ read_number l pool descriptors slot
      → (280 * slot + 280 ≤ length pool) × (2 * slot + 2 ≤ length descriptors) × (length_of descriptors slot ≤ 278)
  slot_bounds n = let ok = readable (sym n) in (omega (arith, ok.octets, ok.below), omega (arith, ok.words, ok.below), ok.short)

  pub read_done : (from count : ℕ) → from ≡ 280 * slot → count ≡ length_of descriptors slot → 0 ≡ read_number l pool descriptors slot
      → take (from + count - from) (drop from pool) ≡ read_part l pool descriptors slot
  unfolding read_part
  read_done from count ef ec n =
      let ok = readable (sym n) in
      let k : from + count - from ≡ count = omega arith in
      ap (λ (x : ℕ). take x (drop from pool)) k
      ∙ ap₂ (λ (x y : ℕ). take x (drop y pool)) ec ef
      ∙ sym (take-take (length_of descriptors slot) 280 (drop (280 * slot) pool) (omega (arith, ok.short)))
      ∙ sym (done _ _ _ (sym n))
