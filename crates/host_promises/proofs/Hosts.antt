-- A host that makes any calls is answered what their definitions give.
use Prim.Native.Nat.{ℕ, zero, suc, ◌*◌}
use mathlib.Core.Path.{◌≡◌, refl, sym, ap, ◌∙◌}
use mathlib.Core.Bool.{Bool, true, false, cond, false≢true}
use mathlib.Core.List.{List, [], ◌∷◌}
use lib.Dec.{eqb}
use lib.ListN.{length, take, drop}
use borrow.Author.Tests.{eqb-true, eqb-false}
use Rattle.bits.specs.Format.{basic}
use Rattle.bits.specs.Machine.{run}
use Rattle.memory.specs.Lent.{length_of, slot_of}
use Rattle.board.specs.declared.Link.{Link}
use Rattle.board.specs.Link.{new_link}
use Rattle.board.specs.Malformed.{malformed}
use Rattle.link.specs.Refusals.{first, read_number}
use Rattle.link.specs.Calls.{read_part}
use Rattle.calls.specs.Call.{Call, Answer, answer, faults, link_after, opens, receive, command, clear, send, fill, read, reads_number, hand_back, wipe}
use Rattle.promises.proofs.Answering.{number_is, link-refused}
use Rattle.host_link.specs.declared.HostLink.{HostLink}
use Rattle.host_link.specs.Crossing.{readable, from_host, to_host, given_back}
use Rattle.host_calls.specs.Answers.{Answered, host_answer, offset_of}
use Rattle.host_promises.specs.Hosts.{shown, host_after, asks_link, HostHolds, HostIsAnswered, UnreadIsRefused, PartInPool}
use Rattle.host_promises.proofs.Crossing.{link-and-back, unread-is-malformed}

-- ---- one call
-- what is given back to a host that holds l is the link of the answer: where the call is refused that is l
back_is : (l : Link) (c : Call) → given_back (to_host l) (answer l c).number (answer l c).link ≡ to_host (answer l c).link
unfolding given_back
back_is l c = go (eqb (answer l c).number 0) refl
  where
    go : (b : Bool) → eqb (answer l c).number 0 ≡ b → cond b (to_host (answer l c).link) (to_host l) ≡ to_host (answer l c).link
    go true e = refl
    go false e = ap to_host (sym (link-refused l c (λ z. eqb-false (answer l c).number 0 e (number_is l c ∙ z))))

answered : (l : Link) (c : Call) → host_answer (to_host l) c ≡ shown (answer l c)
answered l c =
    ap (λ (x : Link). let o = answer x c in record { number = o.number; link = given_back (to_host l) o.number o.link; count = o.count; part = o.part; lent = o.lent }) (link-and-back l)
    ∙ ap (λ (h : HostLink). let o = answer l c in record { number = o.number; link = h; count = o.count; part = o.part; lent = o.lent }) (back_is l c)

-- ---- lists of calls
holds-from : (l : Link) (cs : List Call) → run (λ (h : HostLink) (c : Call). (host_answer h c).link) (to_host l) cs ≡ to_host (run (λ (x : Link) (c : Call). (answer x c).link) l cs)
holds-from l [] = refl
holds-from l (c ∷ cs) =
    ap (λ (h : HostLink). run (λ (h : HostLink) (c : Call). (host_answer h c).link) h cs) (ap (λ (a : Answered). a.link) (answered l c)) ∙ holds-from (answer l c).link cs

pub host-holds : HostHolds
unfolding host_after link_after
host-holds cs = holds-from new_link cs

pub host-is-answered : HostIsAnswered
host-is-answered cs c = ap (λ (h : HostLink). host_answer h c) (host-holds cs) ∙ answered (link_after cs) c

-- ---- links that can't be read
first-fault : (l : Link) (c : Call) → malformed l ≡ true → asks_link c ≡ true → first (faults l c) ≡ 1
unfolding first
first-fault l (opens s pool descriptors) m a = rw m
first-fault l (receive octets pool descriptors records) m a = rw m
first-fault l (command n) m a = rw m
first-fault l (clear chosen) m a = rw m
first-fault l (send content output) m a = rw m
first-fault l (fill output) m a = rw m
first-fault l (read pool descriptors slot) m a = rw m
first-fault l (reads_number pool descriptors slot) m a = rw m
first-fault l (hand_back pool descriptors slot) m a = rw m
first-fault l (wipe octets words) m a = absurd (false≢true a)

pub unread-is-refused : UnreadIsRefused
unfolding given_back
unread-is-refused h c e a =
    let n = number_is (from_host h) c ∙ first-fault (from_host h) c (unread-is-malformed h e) a in
    (n, ap (λ (k : ℕ). cond (eqb k 0) (to_host (answer (from_host h) c).link) h) n)

-- ---- the part that read returns
prefix : (m n : ℕ) (xs : List ℕ) → take (length (take m (take n xs))) xs ≡ take m (take n xs)
prefix zero n xs = refl
prefix (suc m) zero xs = refl
prefix (suc m) (suc n) [] = refl
prefix (suc m) (suc n) (x ∷ xs) = ap (◌∷◌ x) (prefix m n xs)

pub part-in-pool : PartInPool
unfolding read_part
part-in-pool h pool descriptors slot = go (eqb (read_number (from_host h) pool descriptors slot) 0)
  where
    part : Bool → List ℕ
    part b = cond b (take (length_of descriptors slot) (slot_of basic pool slot)) []

    go : (b : Bool) → take (length (part b)) (drop (cond b (basic.slot * slot) 0) pool) ≡ part b
    go true = prefix (length_of descriptors slot) basic.slot (drop (basic.slot * slot) pool)
    go false = refl
