-- Kept bits joined to those in the area: a waiting octet is written when it is full.
use Prim.Native.Nat.{ℕ, suc, ◌+◌, ◌-◌, ◌*◌, ◌/◌, ◌%◌, ◌^◌, ◌≤◌, ◌<◌}
use mathlib.Core.Path.{◌≡◌, sym, ap, ap₂, ◌∙◌}
use mathlib.Core.Bool.{Bool}
use mathlib.Core.List.{List, [], ◌∷◌, ◌++◌, append_assoc, append-nil}
use native.Mathlib.Omega.{arith}
use lib.ListN.{length, get_or, drop, set, replicate, length-append, length-drop, drop_of_length-le}
use lib.Seq.{take_all, set-set, set-get_or, set_at, get_or_at}
use lib.Pow.{pow_mono, shl_lt, shl_exact}
use Rattle.bits.specs.Octets.{octet_of, packed, whole_octets, bits_after}
use Rattle.bits.proofs.Digits.{octet_of-lt}
use Rattle.bits.proofs.Packing.{packed-add, packed-nil}
use Rattle.bits.proofs.Joined.{octet_of-append, past-eight, whole-one, after_one}
use Rattle.bits.proofs.Whole.{length_whole, length-after, whole-few, after-few, whole_append, after-append}

-- an area of bits: whole octets, the octet that is not full, and zeros
packed-parts : (k m : ℕ) (g : List Bool) → k ≡ length g / 8 + suc m → packed k g ≡ whole_octets g ++ (octet_of (bits_after g) ∷ replicate m 0)
unfolding whole_octets bits_after packed
packed-parts k m g e =
    let h : List Bool = drop (length g / 8 * 8) g in
    let l : length h ≤ 8 = omega (arith, length-drop (length g / 8 * 8) g) in
    ap (λ (i : ℕ). packed i g) e ∙ packed-add (length g / 8) (suc m) g
    ∙ ap (λ (r : List ℕ). packed (length g / 8) g ++ r)
    (ap₂ {C = List ℕ} (λ a b. a ∷ b) (ap octet_of (take_all 8 h l)) (ap (packed m) (drop_of_length-le h l) ∙ packed-nil m))

-- ---- the area while bits are joined: n octets are written, and `wait` holds the bits after them, which are fewer than eight
pub record Joining (area : List ℕ) (n have wait : ℕ) (g : List Bool) : Type 0 where
  pub room : length g ≤ 2231
  pub whole : n ≡ length g / 8
  pub part : have ≡ length g % 8
  pub waits : wait ≡ octet_of (bits_after g)
  pub stands : set area n wait ≡ packed 279 g

pub joining-starts : (area : List ℕ) (bits : ℕ) (g : List Bool) → length g ≡ bits → bits ≤ 2231 → area ≡ packed 279 g
    → Joining area (bits / 8) (bits % 8) (get_or area (bits / 8) 0) g
joining-starts area bits g l h e =
    let q : length g / 8 ≡ bits / 8 = ap (λ (k : ℕ). k / 8) l in
    let p : area ≡ whole_octets g ++ (octet_of (bits_after g) ∷ replicate (278 - length g / 8) 0) = e ∙ packed-parts 279 (278 - length g / 8) g (omega arith) in
    record {
      room = omega arith;
      whole = sym q;
      part = omega arith;
      waits = ap (λ (a : List ℕ). get_or a (bits / 8) 0) p ∙ get_or_at (whole_octets g) (octet_of (bits_after g)) (replicate (278 - length g / 8) 0) 0 (bits / 8) (length_whole g ∙ q);
      stands = set-get_or area (bits / 8) 0 ∙ e;
    }

module _ (area : List ℕ) (n have wait : ℕ) (g : List Bool) (J : Joining area n have wait g) where
  -- what waits is a number of `have` bits
  wait-lt : wait < 2 ^ have
  wait-lt =
      let p : 2 ^ length (bits_after g) ≡ 2 ^ have = ap (λ (k : ℕ). 2 ^ k) (length-after g ∙ sym J.part) in
      omega (arith, octet_of-lt (bits_after g), J.waits)

  pub wait-small : wait < 128
  wait-small =
      let l : have ≤ 7 = omega (arith, J.part) in
      let p : 2 ^ have ≤ 2 ^ 7 = pow_mono l in
      omega (arith, wait-lt)

  pub joining-ends : 8 * n + have ≡ length g
  joining-ends = omega (arith, J.whole, J.part)

  -- a row's octet, moved past what waits, in the code's operations
  pub moved : (x : ℕ) → x < 256 → x * 2 ^ have % 4294967296 ≡ x * 2 ^ have
  moved x h = shl_exact 8 have 32 h (omega (arith, J.part))

  moved-small : (x : ℕ) → x < 256 → x * 2 ^ have < 32768
  moved-small x h =
      let l : 8 + have ≤ 15 = omega (arith, J.part) in
      let p : 2 ^ (8 + have) ≤ 2 ^ 15 = pow_mono l in
      omega (arith, shl_lt 8 have h)

  pub joined_small : (x : ℕ) → x < 256 → wait + x * 2 ^ have % 4294967296 < 65536
  joined_small x h = omega (arith, moved x h, moved-small x h, wait-small)

  -- bits ks, `many` of them, are joined to those that wait
  module _ (ks : List Bool) (room : length (g ++ ks) ≤ 2231) (many : ℕ) (m : many ≡ length ks) (joined : ℕ) (e : joined ≡ wait + octet_of ks * 2 ^ have) where
    length-j : length (bits_after g ++ ks) ≡ have + many
    length-j = omega (arith, length-append (bits_after g) ks, length-after g, J.part)

    number : joined ≡ octet_of (bits_after g ++ ks)
    number =
        e ∙ ap₂ (λ (w k : ℕ). w + octet_of ks * 2 ^ k) J.waits (J.part ∙ sym (length-after g)) ∙ sym (octet_of-append (bits_after g) ks)

    -- the area, cut where bits are joined
    cut : (k : ℕ) → 279 ≡ n + suc k → (x : ℕ) → set area n x ≡ whole_octets g ++ (x ∷ replicate k 0)
    cut k q x =
        sym (set-set area n wait x) ∙ ap (λ (a : List ℕ). set a n x) (J.stands ∙ packed-parts 279 k g (q ∙ ap (λ (i : ℕ). i + suc k) J.whole))
        ∙ set_at (whole_octets g) (octet_of (bits_after g)) (replicate k 0) x n (length_whole g ∙ sym J.whole)

    -- they do not fill the waiting octet
    pub waits-on : have + many < 8 → Joining area n (have + many) joined (g ++ ks)
    waits-on f =
        let l = length-append g ks in
        let w : whole_octets (g ++ ks) ≡ whole_octets g =
        whole_append g ks ∙ ap (λ (x : List ℕ). whole_octets g ++ x) (whole-few (bits_after g ++ ks) (omega (arith, length-j))) ∙ append-nil (whole_octets g) in
        let a : bits_after (g ++ ks) ≡ bits_after g ++ ks = after-append g ks ∙ after-few (bits_after g ++ ks) (omega (arith, length-j)) in
        let q : n ≡ length (g ++ ks) / 8 = omega (arith, J.whole, J.part) in
        let v : joined ≡ octet_of (bits_after (g ++ ks)) = number ∙ ap octet_of (sym a) in
        record {
          room = room;
          whole = q;
          part = omega (arith, J.whole, J.part);
          waits = v;
          stands =
              cut (278 - n) (omega arith) joined ∙ ap₂ (λ (x : List ℕ) (y : ℕ). x ++ (y ∷ replicate (278 - n) 0)) (sym w) v
              ∙ sym (packed-parts 279 (278 - n) (g ++ ks) (omega arith));
        }

    -- they fill it
    module _ (f : 8 ≤ have + many) (u : many ≤ 8) where
      eight : 8 ≤ length (bits_after g ++ ks)
      eight = omega (arith, length-j)

      below-sixteen : length (bits_after g ++ ks) < 16
      below-sixteen = omega (arith, length-j, J.part)

      full : octet_of (bits_after g ++ ks) % 256 ≡ joined % 256
      full = sym (ap (λ (x : ℕ). x % 256) number)

      whole-more : whole_octets (g ++ ks) ≡ whole_octets g ++ (joined % 256 ∷ [])
      whole-more =
          whole_append g ks
          ∙ ap (λ (x : List ℕ). whole_octets g ++ x) (whole-one (bits_after g ++ ks) eight below-sixteen ∙ ap {B = List ℕ} (λ x. x ∷ []) full)

      rest : joined / 256 ≡ octet_of (bits_after (g ++ ks))
      rest =
          ap (λ (x : ℕ). x / 256) number ∙ past-eight (bits_after g ++ ks) eight
          ∙ ap octet_of (sym (after-append g ks ∙ after_one (bits_after g ++ ks) eight below-sixteen))

      written : (k : ℕ) → 279 ≡ n + suc (suc k)
          → set (set area n (joined % 256)) (n + 1) (joined / 256) ≡ (whole_octets g ++ (joined % 256 ∷ [])) ++ (joined / 256 ∷ replicate k 0)
      written k q =
          ap (λ (x : List ℕ). set x (n + 1) (joined / 256))
          (cut (suc k) q (joined % 256) ∙ sym (append_assoc (whole_octets g) (joined % 256 ∷ []) (0 ∷ replicate k 0)))
          ∙ set_at (whole_octets g ++ (joined % 256 ∷ [])) 0 (replicate k 0) (joined / 256) (n + 1)
          (length-append (whole_octets g) (joined % 256 ∷ []) ∙ ap (λ (i : ℕ). i + 1) (length_whole g ∙ sym J.whole))

      pub writes : Joining (set area n (joined % 256)) (n + 1) (have + many - 8) (joined / 256) (g ++ ks)
      writes =
          let l = length-append g ks in
          let q : n + 1 ≡ length (g ++ ks) / 8 = omega (arith, J.whole, J.part) in
          record {
            room = room;
            whole = q;
            part = omega (arith, J.whole, J.part);
            waits = rest;
            stands =
                written (277 - n) (omega arith) ∙ ap₂ (λ (x : List ℕ) (y : ℕ). x ++ (y ∷ replicate (277 - n) 0)) (sym whole-more) rest
                ∙ sym (packed-parts 279 (277 - n) (g ++ ks) (omega arith));
          }
