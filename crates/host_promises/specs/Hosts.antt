-- What is promised to a host that makes any calls.
use Rattle.std.specs.Prelude.{ℕ, ◌≡◌, Bool, true, false, List, take, drop}
use Rattle.bits.specs.Machine.{run}
use Rattle.board.specs.Link.{new_link}
use Rattle.calls.specs.Call.{Call, Answer, answer, link_after, opens, receive, command, clear, send, fill, read, reads_number, hand_back, wipe}
use Rattle.host_link.specs.declared.HostLink.{HostLink}
use Rattle.host_link.specs.Crossing.{readable, to_host}
use Rattle.host_calls.specs.Answers.{Answered, host_answer, host_part}

-- a call's answer, with its link as a host holds it
abbrev pub shown : Answer → Answered
shown a = record { number = a.number; link = to_host a.link; count = a.count; part = a.part; lent = a.lent }

-- a list of calls from the new closed link, each of which gets the host's link as the last one left it
unfoldable pub host_after : List Call → HostLink
host_after cs = run (λ h c. (host_answer h c).link) (to_host new_link) cs

-- A host that makes any list of calls holds the link that the calls' definitions give.
abbrev pub HostHolds : Type 0
HostHolds = (cs : List Call) → host_after cs ≡ to_host (link_after cs)

-- Whatever calls it made, it is answered what they give: so all that is promised over lists of calls is promised to it.
abbrev pub HostIsAnswered : Type 0
HostIsAnswered = (cs : List Call) (c : Call) → host_answer (host_after cs) c ≡ shown (answer (link_after cs) c)

-- every call but wipe looks at the link
abbrev pub asks_link : Call → Bool
asks_link (opens s pool descriptors) = true
asks_link (receive octets pool descriptors records) = true
asks_link (command n) = true
asks_link (clear chosen) = true
asks_link (send content output) = true
asks_link (fill output) = true
asks_link (read pool descriptors slot) = true
asks_link (reads_number pool descriptors slot) = true
asks_link (hand_back pool descriptors slot) = true
asks_link (wipe octets words) = false

-- A link with a switch or a mode that is none is refused with 1, and given back as it is.
abbrev pub UnreadIsRefused : Type 0
UnreadIsRefused =
    (h : HostLink) (c : Call) → readable h ≡ false → asks_link c ≡ true → ((host_answer h c).number ≡ 1) × ((host_answer h c).link ≡ h)

-- The place and the length that read gives are those of the part that it returns.
abbrev pub PartInPool : Type 0
PartInPool =
    (h : HostLink) (pool descriptors : List ℕ) (slot : ℕ)
    → take (host_part h pool descriptors slot).length (drop (host_part h pool descriptors slot).offset pool)
    ≡ (host_answer h (read pool descriptors slot)).part
