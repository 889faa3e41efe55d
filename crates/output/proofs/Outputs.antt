-- How send and fill meet their answers: what no fault says, room in the output area, and the bits put one after the other.
use Prim.Native.Nat.{ℕ, ◌+◌, ◌/◌, ◌^◌, ◌≤◌, ◌<◌}
use mathlib.Core.Path.{◌≡◌, refl, sym, ap, ap₂, subst, ◌∙◌}
use mathlib.Core.Bool.{Bool, true, false}
use mathlib.Core.List.{List, [], ◌∷◌, ◌++◌, append-nil}
use native.Mathlib.Nat.{zero-add, div-lt_iff_lt-mul}
use native.Mathlib.Omega.{arith}
use lib.Dec.{ltb}
use lib.ListN.{length, get_or, take, drop, length-append}
use lib.Seq.{length-sets}
use lib.Pow.{pow_pos}
use borrow.Author.Tests.{eqb-true, ltb-false, not-false}
use Rattle.bits.specs.Format.{basic}
use Rattle.bits.specs.Octets.{bits_of, line_bits}
use Rattle.sending.specs.declared.Tx.{Tx}
use Rattle.sending.specs.Stuffing.{flag, unit_line}
use Rattle.sending.specs.Packing.{octets_out}
use Rattle.sending.specs.Sender.{TxInRange}
use Rattle.sending.specs.InnerPutting.{after_bits, area_put, Puts, Room}
use Rattle.sending.proofs.Puttings.{place_after, puts-append, written-append}
use Rattle.sending.proofs.Stuffs.{unit-length}
use Rattle.board.specs.declared.Transmitter.{Transmitter}
use Rattle.board.specs.declared.Link.{Link}
use Rattle.board.specs.Malformed.{zero_past, no_ones}
use Rattle.board.proofs.Ranges.{well-formed}
use Rattle.std.proofs.lemmas.Bool.{or_parts}
use Rattle.board.specs.InnerRanges.{WellFormed}
use Rattle.board.proofs.Past.{part-above}
use Rattle.std.specs.Prelude.{Ok}
use Rattle.link.proofs.Faults.{none}
use Rattle.link.proofs.Answers.{done}
use Rattle.link.specs.declared.Counted.{Counted}
use Rattle.output.specs.Refusals.{send_number, fill_number}
use Rattle.output.specs.Output.{sender, first_flag, unit_out, fill_content, fill_out, fill_event, link_sent, put_out, output_of, send_answer, fill_answer}

-- ---- what no fault says
pub record ReadyToPut (l : Link) (output : List ℕ) : Type 0 where
  pub formed : WellFormed l
  pub room : 336 ≤ length output

pub fillable : (l : Link) (output : List ℕ) → fill_number l output ≡ 0 → ReadyToPut l output
unfolding fill_number
fillable l output e =
    let n1 = none _ _ _ (λ z. omega arith) e in
    let n2 = none _ _ _ (λ z. omega arith) n1.1 in
    let n9 = none _ _ _ (λ z. omega arith) n2.1 in
    record { formed = well-formed l (not-false _ n2.0) n1.0; room = ltb-false (length output) 336 n9.0 }

pub sendable : (l : Link) (content output : List ℕ) → send_number l content output ≡ 0
    → ReadyToPut l output × (3 ≤ length content) × (length content ≤ 276)
unfolding send_number
sendable l content output e =
    let n1 = none _ _ _ (λ z. omega arith) e in
    let n2 = none _ _ _ (λ z. omega arith) n1.1 in
    let n9 = none _ _ _ (λ z. omega arith) n2.1 in
    let n10 = none _ _ _ (λ z. omega arith) n9.1 in
    let sizes = or_parts (ltb (length content) 3) (ltb 276 (length content)) n10.0 in (
      record { formed = well-formed l (not-false _ n2.0) n1.0; room = ltb-false (length output) 336 n9.0 },
      ltb-false (length content) 3 sizes.0,
      ltb-false 276 (length content) sizes.1,
    )

-- ---- the sender of a link in order
-- an octet that is zero past its first n bits
below : (n x : ℕ) → n ≤ 7 → x < 256 → zero_past n (x ∷ []) ≡ true → x < 2 ^ n
unfolding zero_past line_bits
below n x few typed e =
    let z : x / 2 ^ n ≡ 0 = eqb-true _ 0 (sym (part-above x n typed (omega arith)) ∙ ap (λ (bs : List Bool). no_ones (drop n bs)) bits ∙ e) in
    let h : x / 2 ^ n < 1 = omega arith in
    omega (arith, (div-lt_iff_lt-mul (pow_pos n)).0 h)
  where
    bits : bits_of 8 x ≡ line_bits (x ∷ [])
    bits = sym (append-nil (bits_of 8 x))

pub ready : (l : Link) → WellFormed l → l.transmitter.wait < 256 → TxInRange (sender l.transmitter)
ready l o typed =
    record { few = o.waiting; low = below l.transmitter.count l.transmitter.wait o.waiting typed o.wait; short = omega arith }

-- ---- room
pub first_short : (b : Bool) (n : ℕ) → n ≤ 7 → (b ≡ false → n ≡ 0) → n + length (first_flag b) ≤ 8
first_short true n few none_yet = omega arith
first_short false n few none_yet = omega (arith, none_yet refl)

pub unit-room : (l : Link) (content output : List ℕ) → ReadyToPut l output → length content ≤ 276
    → Room (sender l.transmitter) (unit_out l.transmitter content) output
unfolding unit_out
unit-room l content output r h =
    omega (
      arith,
      r.room,
      unit-length content h,
      length-append (first_flag l.transmitter.flagged) (unit_line content),
      first_short l.transmitter.flagged l.transmitter.count r.formed.waiting r.formed.unflagged,
    )

pub flag-room : (l : Link) (output : List ℕ) → ReadyToPut l output → Room (sender l.transmitter) flag output
flag-room l output r = omega (arith, r.room, r.formed.waiting)

-- ---- a unit with or without a flag before it
module _ (s : Tx) (t : Transmitter) (content output : List ℕ) where
  module _ (e : t.flagged ≡ true) where
    flagged-bits : unit_out t content ≡ unit_line content
    unfolding unit_out
    flagged-bits = ap (λ (b : Bool). first_flag b ++ unit_line content) e

    pub flagged-room : Room s (unit_out t content) output → Room s (unit_line content) output
    flagged-room r = subst (λ (bs : List Bool). Room s bs output) flagged-bits r

    pub flagged-puts : (r : Tx) (out' : List ℕ) → Puts output s (unit_line content) 0 r out' → Puts output s (unit_out t content) 0 r out'
    flagged-puts r out' p = subst (λ (bs : List Bool). Puts output s bs 0 r out') (sym flagged-bits) p

  module _ (e : t.flagged ≡ false) where
    first-bits : unit_out t content ≡ flag ++ unit_line content
    unfolding unit_out
    first-bits = ap (λ (b : Bool). first_flag b ++ unit_line content) e

    pub first-room : Room s (unit_out t content) output → Room s flag output
    first-room r = omega (arith, subst (λ (bs : List Bool). Room s bs output) first-bits r, length-append flag (unit_line content))

    -- behind the flag
    module _ (room : Room s (unit_out t content) output) (f : Tx) (out₁ : List ℕ) (p : Puts output s flag 0 f out₁) where
      same : length out₁ ≡ length output
      same = ap length p.area ∙ length-sets output s.at (octets_out s flag)

      pub then-room : Room f (unit_line content) out₁
      then-room =
          subst (λ (x : Tx). Room x (unit_line content) out₁) (sym p.tx)
          (omega (arith, same, place_after s flag 0, length-append flag (unit_line content), subst (λ (bs : List Bool). Room s bs output) first-bits room))

      pub then-puts : (r : Tx) (out₂ : List ℕ) → Puts out₁ f (unit_line content) 0 r out₂ → Puts output s (unit_out t content) 0 r out₂
      then-puts r out₂ q =
          record {
            tx =
                q.tx ∙ ap (λ (x : Tx). after_bits x (unit_line content) 0) p.tx ∙ puts-append s flag (unit_line content) 0 0
                ∙ ap (λ (bs : List Bool). after_bits s bs 0) (sym first-bits);
            area =
                q.area ∙ ap₂ (λ (o : List ℕ) (x : Tx). area_put o x (unit_line content)) p.area p.tx
                ∙ written-append output s flag (unit_line content) 0 ∙ ap (area_put output s) (sym first-bits);
          }

-- ---- the answers
pub take-two : (content : List ℕ) → 3 ≤ length content → get_or content 0 0 ∷ get_or content 1 0 ∷ [] ≡ take 2 content
take-two [] h = absurd (omega arith)
take-two (a ∷ []) h = absurd (omega arith)
take-two (a ∷ b ∷ cs) h = refl

pub fill-content : (last : List ℕ) → length last ≡ 2 → get_or last 0 0 ∷ get_or last 1 0 ∷ 0 ∷ [] ≡ fill_content basic last
fill-content [] h = absurd (omega arith)
fill-content (a ∷ []) h = absurd (omega arith)
fill-content (a ∷ b ∷ []) h = refl
fill-content (a ∷ b ∷ c ∷ cs) h = absurd (omega arith)

-- ---- a fill: a flag before any content, then the unit of the last content
module _ (s : Tx) (t : Transmitter) (output : List ℕ) where
  fill-flag : t.sent ≡ false → fill_out t ≡ flag
  unfolding fill_out
  fill-flag e = rw e

  fill-unit : t.sent ≡ true → fill_out t ≡ unit_out t (fill_content basic t.last)
  unfolding fill_out
  fill-unit e = rw e

  pub fill-flag-room : t.sent ≡ false → Room s (fill_out t) output → Room s flag output
  fill-flag-room e r = subst (λ (bs : List Bool). Room s bs output) (fill-flag e) r

  pub fill-flag-puts : t.sent ≡ false → (r : Tx) (out' : List ℕ) → Puts output s flag 0 r out' → Puts output s (fill_out t) 0 r out'
  fill-flag-puts e r out' p = subst (λ (bs : List Bool). Puts output s bs 0 r out') (sym (fill-flag e)) p

  module _ (e : t.sent ≡ true) (h : length t.last ≡ 2) where
    abbrev content : List ℕ
    content = get_or t.last 0 0 ∷ get_or t.last 1 0 ∷ 0 ∷ []

    unit-is : fill_out t ≡ unit_out t content
    unit-is = fill-unit e ∙ ap (unit_out t) (sym (fill-content t.last h))

    pub fill-unit-room : Room s (fill_out t) output → Room s (unit_out t content) output
    fill-unit-room r = subst (λ (bs : List Bool). Room s bs output) unit-is r

    pub fill-unit-puts : (r : Tx) (out' : List ℕ) → Puts output s (unit_out t content) 0 r out' → Puts output s (fill_out t) 0 r out'
    fill-unit-puts r out' p = subst (λ (bs : List Bool). Puts output s bs 0 r out') (sym unit-is) p

pub fill-room : (l : Link) (output : List ℕ) → ReadyToPut l output → length l.transmitter.last ≡ 2
    → Room (sender l.transmitter) (fill_out l.transmitter) output
fill-room l output r h = go l.transmitter.sent refl
  where
    go : (b : Bool) → l.transmitter.sent ≡ b → Room (sender l.transmitter) (fill_out l.transmitter) output
    go false e = subst (λ (bs : List Bool). Room (sender l.transmitter) bs output) (sym (fill-flag (sender l.transmitter) l.transmitter output e)) (flag-room l output r)
    go true e =
        subst (λ (bs : List Bool). Room (sender l.transmitter) bs output) (sym (unit-is (sender l.transmitter) l.transmitter output e h))
        (unit-room l (content (sender l.transmitter) l.transmitter output e h) output r (omega arith))

-- ---- the answers
put-done : (l : Link) (bits : List Bool) (sent : Bool) (last : List ℕ) (event : ℕ) (output out' : List ℕ) (s : Tx) → Puts output (sender l.transmitter) bits 0 s out'
    → record { number = 0; link = link_sent l s.count s.wait sent last event; count = s.at; output = out' } ≡ put_out l bits sent last event output
put-done l bits sent last event output out' s p =
    let t = sender l.transmitter in
    let at : s.at ≡ length (octets_out t bits) = ap (λ (x : Tx). x.at) p.tx ∙ zero-add (length (octets_out t bits)) in
    λ i. record { number = 0; link = link_sent l (p.tx i).count (p.tx i).wait sent last event; count = at i; output = p.area i }

module _ (l : Link) (content output : List ℕ) where
  pub may_send : 0 ≡ send_number l content output → l.transmitter.wait < 256
      → TxInRange (sender l.transmitter) × Room (sender l.transmitter) (unit_out l.transmitter content) output
  may_send n typed = let ok = sendable l content output (sym n) in (ready l ok.0.formed typed, unit-room l content output ok.0 ok.2)

  pub two_octets : 0 ≡ send_number l content output → 2 < length content
  two_octets n = omega (arith, (sendable l content output (sym n)).1)

  pub send_done : (s : Tx) (made : Counted) (out' : List ℕ)
      → made ≡ record { link = link_sent l s.count s.wait true (get_or content 0 0 ∷ get_or content 1 0 ∷ []) 128; count = s.at }
      → 0 ≡ send_number l content output → Puts output (sender l.transmitter) (unit_out l.transmitter content) 0 s out'
      → output_of l (Ok made) out' ≡ send_answer l content output
  unfolding send_answer
  send_done s made out' e n p =
      ap (λ (x : Counted). output_of l (Ok x) out') e
      ∙ ap (λ (last : List ℕ). output_of l (Ok (record { link = link_sent l s.count s.wait true last 128; count = s.at })) out')
      (take-two content (sendable l content output (sym n)).1)
      ∙ put-done l _ _ _ _ output out' s p ∙ sym (done _ _ _ (sym n))

module _ (l : Link) (output : List ℕ) where
  pub may_fill : 0 ≡ fill_number l output → l.transmitter.wait < 256 → length l.transmitter.last ≡ 2
      → TxInRange (sender l.transmitter) × Room (sender l.transmitter) (fill_out l.transmitter) output
  may_fill n typed two = let ok = fillable l output (sym n) in (ready l ok.formed typed, fill-room l output ok two)

  pub fill_done : (s : Tx) (made : Counted) (event : ℕ) (out' : List ℕ)
      → made ≡ record { link = link_sent l s.count s.wait l.transmitter.sent l.transmitter.last event; count = s.at }
      → event ≡ fill_event l.transmitter.sent
      → 0 ≡ fill_number l output → Puts output (sender l.transmitter) (fill_out l.transmitter) 0 s out'
      → output_of l (Ok made) out' ≡ fill_answer l output
  unfolding fill_answer
  fill_done s made event out' e v n p =
      ap (λ (x : Counted). output_of l (Ok x) out') e
      ∙ ap (λ (x : ℕ). output_of l (Ok (record { link = link_sent l s.count s.wait l.transmitter.sent l.transmitter.last x; count = s.at })) out') v
      ∙ put-done l _ _ _ _ output out' s p ∙ sym (done _ _ _ (sym n))
