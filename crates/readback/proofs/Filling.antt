-- What a fill puts out, after any sends and fills of the sizes allowed.
use Prim.Native.Nat.{ℕ, ◌*◌, ◌≤◌}
use mathlib.Core.Path.{◌≡◌, refl, ap, subst, ◌∙◌}
use mathlib.Core.Bool.{Bool, true, false}
use mathlib.Core.List.{List, [], ◌∷◌, ◌++◌}
use native.Mathlib.Omega.{arith}
use lib.ListN.{length, take, replicate, length-replicate}
use Rattle.sending.specs.Stuffing.{flag, unit_line}
use Rattle.board.specs.declared.Transmitter.{Transmitter}
use Rattle.board.specs.declared.Link.{Link}
use Rattle.link.specs.Calls.{opened_link}
use Rattle.output.specs.Output.{unit_out, fill_out}
use Rattle.output.proofs.Outputs.{sendable}
use Rattle.transmission.specs.Transmission.{Sending, send, fill, answer, sent_on, link_after, waiting_bits, Accepted, none, more}
use Rattle.transmission.proofs.Calls.{Put, accepted, one-call, then_is}
use Rattle.transmission.proofs.Line.{Two, few-two, two-kept}
use Rattle.readback.specs.Using.{none as no_more, more as one_more, sent_held}
use Rattle.readback.specs.Promises.{last_sent, FillSends}
use Rattle.readback.proofs.Stream.{fresh}
use Rattle.readback.proofs.Using.{fresh-in-use}
use Rattle.readback.proofs.Sends.{sends-in-use}

-- a transmitter after these first octets of content, or before any
abbrev Keeps : List ℕ → Transmitter → Type 0
Keeps [] t = t.sent ≡ false
Keeps (x ∷ last) t = (t.sent ≡ true) × (t.flagged ≡ true) × (t.last ≡ x ∷ last)

sent-keeps : (content : List ℕ) (t : Transmitter) → 3 ≤ length content → t.sent ≡ true → t.flagged ≡ true → t.last ≡ take 2 content → Keeps (take 2 content) t
sent-keeps [] t h s f e = absurd (omega arith)
sent-keeps (x ∷ content) t h s f e = (s, f, e)

fill-keeps : (last : List ℕ) (t t' : Transmitter) → t'.sent ≡ t.sent → t'.flagged ≡ true → t'.last ≡ t.last → Keeps last t → Keeps last t'
fill-keeps [] t t' s f e k = s ∙ k
fill-keeps (x ∷ last) t t' s f e k = (s ∙ k.0, f, e ∙ k.2)

one-keeps : (l : Link) (s : Sending) (last : List ℕ) → Put l s → Keeps last l.transmitter → Keeps (last_sent last (s ∷ [])) (sent_on l s).transmitter
unfolding last_sent
one-keeps l (send content output) last p k =
    let e = then_is l (send content output) p in
    sent-keeps content (sent_on l (send content output)).transmitter (sendable l content output p.number).1
    (ap (λ (t : Transmitter). t.sent) e) (ap (λ (t : Transmitter). t.flagged) e) (ap (λ (t : Transmitter). t.last) e)
one-keeps l (fill output) last p k =
    let e = then_is l (fill output) p in
    fill-keeps last l.transmitter (sent_on l (fill output)).transmitter
    (ap (λ (t : Transmitter). t.sent) e) (ap (λ (t : Transmitter). t.flagged) e) (ap (λ (t : Transmitter). t.last) e) k

last-after : (last : List ℕ) (s : Sending) (ss : List Sending) → last_sent (last_sent last (s ∷ [])) ss ≡ last_sent last (s ∷ ss)
unfolding last_sent
last-after last (send content output) ss = refl
last-after last (fill output) ss = refl

all_keep : (l : Link) (ss : List Sending) (last : List ℕ) → Two l → Accepted l ss → Keeps last l.transmitter
    → Two (link_after l ss) × Keeps (last_sent last ss) (link_after l ss).transmitter
unfolding link_after last_sent
all_keep l [] last two none k = (two, k)
all_keep l (s ∷ ss) last two (more z a) k =
    let p = accepted l s (few-two l s two) z in
    let r = all_keep (sent_on l s) ss (last_sent last (s ∷ [])) (two-kept l s two p) a (one-keeps l s last p k) in
    (r.0, subst (λ (xs : List ℕ). Keeps xs (link_after l (s ∷ ss)).transmitter) (last-after last s ss) r.1)

-- ---- what a fill puts out
fill-unit : (t : Transmitter) (x y : ℕ) (last : List ℕ) → last ≡ x ∷ y ∷ [] → Keeps last t → fill_out t ≡ unit_line (x ∷ y ∷ 0 ∷ [])
unfolding fill_out unit_out
fill-unit t x y last e k = let now : Keeps (x ∷ y ∷ []) t = subst (λ (xs : List ℕ). Keeps xs t) e k in rw (now.0, now.1, now.2)

fill-flag : (t : Transmitter) (last : List ℕ) → last ≡ [] → Keeps last t → fill_out t ≡ flag
unfolding fill_out
fill-flag t last e k = let now : Keeps [] t = subst (λ (xs : List ℕ). Keeps xs t) e k in rw now

pub first-answered : {l : Link} {s : Sending} {ss : List Sending} → Accepted l (s ∷ ss) → (answer l s).number ≡ 0
first-answered (more z a) = z

pub fill-sends : FillSends
fill-sends s ss output range sized room =
    let h = fresh s (replicate (280 * s.k) 0) in
    let a = sends-in-use h ss refl (fresh-in-use s (replicate (280 * s.k) 0) range (length-replicate {A = ℕ} (280 * s.k) 0)) sized in
    let l = link_after (opened_link s) ss in
    let known = all_keep (opened_link s) ss [] refl a.0 refl in
    let z = first-answered (sends-in-use (sent_held h ss) (fill output ∷ []) known.0 a.1 (one_more room no_more)).0 in
    let out = one-call l (fill output) (accepted l (fill output) known.0 z) in (
      z,
      λ x y e. out ∙ ap (λ (bs : List Bool). waiting_bits l ++ bs) (fill-unit l.transmitter x y (last_sent [] ss) e known.1),
      λ e. out ∙ ap (λ (bs : List Bool). waiting_bits l ++ bs) (fill-flag l.transmitter (last_sent [] ss) e known.1),
    )
