-- A booking with no wipe among its calls: its link stays open with its settings, and no call but send and fill touches the transmitter.
use Prim.Native.Nat.{ℕ}
use mathlib.Core.Path.{◌≡◌, refl, sym, ap, subst, ◌∙◌}
use mathlib.Core.Bool.{Bool, true, false, cond, false≢true}
use mathlib.Core.List.{List, [], ◌∷◌}
use native.Mathlib.Omega.{arith}
use borrow.Author.Tests.{eqb-true, eqb-false}
use lib.Dec.{eqb}
use Rattle.std.specs.Prelude.{Option, Some, None}
use Rattle.bits.specs.Format.{basic}
use Rattle.bits.specs.Machine.{run}
use Rattle.board.specs.declared.Settings.{Settings}
use Rattle.board.specs.declared.Link.{Link}
use Rattle.board.specs.Malformed.{in_range}
use Rattle.link.specs.declared.Command.{Command}
use Rattle.link.specs.declared.Command.TheVariants.{MonitorOff, StartFailure, StartAlignment, MustHandOver, CountOctets}
use Rattle.link.specs.Commands.{command_of, obeyed, obeying}
use Rattle.link.specs.Refusals.{first}
use Rattle.link.proofs.Faults.{none}
use Rattle.calls.specs.Call.{Call, opens, receive, command, clear, send, fill, read, reads_number, hand_back, wipe, answer, link_after, faults}
use Rattle.calls.specs.Lending.{opening}
use Rattle.promises.specs.History.{Past, past_after, past_next}
use Rattle.promises.proofs.Answering.{link_done, link-done, link-refused}
use Rattle.promises.proofs.Opening.{opened-first}
use Rattle.promises.proofs.Holding.{Holds, holds-next, holds_after}
use Rattle.readback_calls.specs.Sender.{is_wipe, one_booking}

-- ---- one call
-- a call that is no send and no fill
abbrev pub is_quiet : Call → Bool
is_quiet (opens s pool descriptors) = true
is_quiet (receive octets pool descriptors records) = true
is_quiet (command n) = true
is_quiet (clear chosen) = true
is_quiet (send content output) = false
is_quiet (fill output) = false
is_quiet (read pool descriptors slot) = true
is_quiet (reads_number pool descriptors slot) = true
is_quiet (hand_back pool descriptors slot) = true
is_quiet (wipe octets words) = true

-- what a call keeps of link l in the link k that it leaves
pub record Keeps (l : Link) (c : Call) (k : Link) : Type 0 where
  pub opened : k.opened ≡ l.opened
  pub settings : k.settings ≡ l.settings
  pub transmitter : is_quiet c ≡ true → k.transmitter ≡ l.transmitter

same_kept : (l : Link) (c : Call) → Keeps l c l
same_kept l c = record { opened = refl; settings = refl; transmitter = λ _. refl }

obeyed-keeps : (l : Link) (n : ℕ) (c : Option Command) → Keeps l (command n) (obeying c l)
unfolding obeyed
obeyed-keeps l n (Some MonitorOff) = record { opened = refl; settings = refl; transmitter = λ _. refl }
obeyed-keeps l n (Some StartFailure) = record { opened = refl; settings = refl; transmitter = λ _. refl }
obeyed-keeps l n (Some StartAlignment) = record { opened = refl; settings = refl; transmitter = λ _. refl }
obeyed-keeps l n (Some MustHandOver) = record { opened = refl; settings = refl; transmitter = λ _. refl }
obeyed-keeps l n (Some CountOctets) = record { opened = refl; settings = refl; transmitter = λ _. refl }
obeyed-keeps l n None = record { opened = refl; settings = refl; transmitter = λ _. refl }

module _ (l : Link) (o : l.opened ≡ true) where
  -- an open link refuses to be opened
  refuses-open : (s : Settings) (pool descriptors : List ℕ) → first (faults l (opens s pool descriptors)) ≡ 0 → ⊥
  refuses-open s pool descriptors n =
      let n1 = none _ _ _ (λ z. omega arith) n in
      let n3 = none _ _ _ (λ z. omega arith) n1.1 in
      false≢true (sym n3.0 ∙ o)

  done-keeps : (c : Call) → is_wipe c ≡ false → first (faults l c) ≡ 0 → Keeps l c (link_done l c)
  done-keeps (opens s pool descriptors) w n = absurd (refuses-open s pool descriptors n)
  done-keeps (receive octets pool descriptors records) w n = record { opened = refl; settings = refl; transmitter = λ _. refl }
  done-keeps (command k) w n = obeyed-keeps l k (command_of k)
  done-keeps (clear chosen) w n = record { opened = refl; settings = refl; transmitter = λ _. refl }
  done-keeps (send content output) w n = record { opened = refl; settings = refl; transmitter = λ e. cc }
  done-keeps (fill output) w n = record { opened = refl; settings = refl; transmitter = λ e. cc }
  done-keeps (read pool descriptors slot) w n = same_kept l (read pool descriptors slot)
  done-keeps (reads_number pool descriptors slot) w n = same_kept l (reads_number pool descriptors slot)
  done-keeps (hand_back pool descriptors slot) w n = same_kept l (hand_back pool descriptors slot)
  done-keeps (wipe octets words) w n = absurd (false≢true (sym w))

  pub keeps : (c : Call) → is_wipe c ≡ false → Keeps l c (answer l c).link
  keeps c w = go (eqb (first (faults l c)) 0) refl
    where
      go : (b : Bool) → eqb (first (faults l c)) 0 ≡ b → Keeps l c (answer l c).link
      go true e = let z = eqb-true _ 0 e in subst (Keeps l c) (sym (link-done l c z)) (done-keeps c w z)
      go false e = subst (Keeps l c) (sym (link-refused l c (eqb-false _ 0 e))) (same_kept l c)

-- ---- an open link that calls have left: never malformed
pub record Live (l : Link) : Type 0 where
  pub past : Past
  pub holds : Holds l past
  pub opened : l.opened ≡ true

pub live-next : (l : Link) (c : Call) → Live l → is_wipe c ≡ false → Live (answer l c).link
live-next l c v w =
    record { past = past_next v.past c; holds = holds-next l v.past c v.holds; opened = (keeps l v.opened c w).opened ∙ v.opened }

-- ---- the first call of one booking, and the rest
pub first-no-wipe : (c : Call) (cs : List Call) → one_booking (c ∷ cs) ≡ true → (is_wipe c ≡ false) × (one_booking cs ≡ true)
unfolding one_booking
first-no-wipe c cs e = go (is_wipe c) refl
  where
    go : (b : Bool) → is_wipe c ≡ b → (is_wipe c ≡ false) × (one_booking cs ≡ true)
    go true w = absurd (false≢true (sym (ap (λ (x : Bool). cond x false (one_booking cs)) w) ∙ e))
    go false w = (w, sym (ap (λ (x : Bool). cond x false (one_booking cs)) w) ∙ e)

abbrev pub next : Link → Call → Link
next l c = (answer l c).link

settings-kept : (cs : List Call) (l : Link) → l.opened ≡ true → one_booking cs ≡ true
    → ((run next l cs).opened ≡ true) × ((run next l cs).settings ≡ l.settings)
settings-kept [] l o e = (o, refl)
settings-kept (c ∷ cs) l o e =
    let one = first-no-wipe c cs e in
    let k = keeps l o c one.0 in
    let rest = settings-kept cs (next l c) (k.opened ∙ o) one.1 in
    (rest.0, rest.1 ∙ k.settings)

-- ---- the opening
module _ (s : Settings) (range : in_range basic s ≡ true) where
  pub live-opened : Live (link_after (opening s ∷ []))
  live-opened =
      record {
        past = past_after (opening s ∷ []);
        holds = holds_after (opening s ∷ []);
        opened = ap (λ (l : Link). l.opened) (opened-first s range);
      }

  -- open with these settings from then on
  pub stays : (cs : List Call) → one_booking cs ≡ true → ((link_after (opening s ∷ cs)).opened ≡ true) × ((link_after (opening s ∷ cs)).settings ≡ s)
  unfolding link_after
  stays cs one =
      let k = settings-kept cs (link_after (opening s ∷ [])) live-opened.opened one in
      (k.0, k.1 ∙ ap (λ (l : Link). l.settings) (opened-first s range))
