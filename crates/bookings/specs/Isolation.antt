-- What any list of calls after a wipe answers and leaves is the same whatever calls, line and lent memory came before the wipe. The proofs are in
-- proofs/Isolation.antt.
use Rattle.std.specs.Prelude.{ℕ, ◌≡◌, List, [], ◌∷◌, ◌++◌, length, get_or}
use Rattle.bits.specs.Machine.{run, outs}
use Rattle.board.specs.declared.Link.{Link}
use Rattle.link.specs.Held.{Held}
use Rattle.calls.specs.Call.{Call, opens, receive, command, clear, send, fill, read, reads_number, hand_back, wipe, Answer, answer, link_after}

-- what calls answer, each with all that it gives back and leaves, from a link on
unfoldable pub answers_from : Link → List Call → List Answer
answers_from = outs (λ l c. (answer l c).link) (λ l c. answer l c ∷ [])

-- ---- a link with its pool and descriptors, as the last call left them
-- list i of those that a call was lent
abbrev pub lent_back : Answer → ℕ → List ℕ
lent_back a i = get_or a.lent i []

-- the pool and the descriptors after a call that was lent them; wipe is given all of both
abbrev pub left : Held → Call → Answer → Held
left r (opens s pool descriptors) a = record { link = a.link; pool = lent_back a 0; descriptors = lent_back a 1 }
left r (receive octets pool descriptors records) a = record { link = a.link; pool = lent_back a 1; descriptors = lent_back a 2 }
left r (command n) a = record { link = a.link; pool = r.pool; descriptors = r.descriptors }
left r (clear chosen) a = record { link = a.link; pool = r.pool; descriptors = r.descriptors }
left r (send content output) a = record { link = a.link; pool = r.pool; descriptors = r.descriptors }
left r (fill output) a = record { link = a.link; pool = r.pool; descriptors = r.descriptors }
left r (read pool descriptors slot) a = record { link = a.link; pool = r.pool; descriptors = r.descriptors }
left r (reads_number pool descriptors slot) a = record { link = a.link; pool = r.pool; descriptors = r.descriptors }
left r (hand_back pool descriptors slot) a = record { link = a.link; pool = lent_back a 0; descriptors = lent_back a 1 }
left r (wipe octets words) a = record { link = a.link; pool = lent_back a 0; descriptors = lent_back a 1 }

-- A user makes each call by what stands there: the link, the pool and the descriptors, all of which may be looked at and lent.
abbrev pub made : Held → (Held → Call) → Held
made r host = left r (host r) (answer r.link (host r))

-- the answers to a user, and what is left
unfoldable pub answers_to : Held → List (Held → Call) → List Answer
answers_to = outs made (λ r host. answer r.link (host r) ∷ [])

unfoldable pub left_by : Held → List (Held → Call) → Held
left_by = run made

-- the wipe between two bookings: all of the pool and all of the descriptors
abbrev pub wipe_all : Held → Call
wipe_all r = wipe r.pool r.descriptors

-- ---- the statement
pub record Isolation : Type 0 where
  -- After a wipe any calls, whatever they are lent, are answered alike whatever came before.
  pub alike : (cs ds : List Call) (octets words octets' words' : List ℕ) (later : List Call)
      → answers_from (link_after (cs ++ (wipe octets words ∷ []))) later ≡ answers_from (link_after (ds ++ (wipe octets' words' ∷ []))) later
  -- The next user of a wiped board, whatever is done by what stands in link and memory, gets the same answers and leaves the same board and memory
  -- whatever link and memory the last user left, if these are of the same sizes.
  pub same-user : (r r' : Held) (hosts : List (Held → Call)) → length r.pool ≡ length r'.pool → length r.descriptors ≡ length r'.descriptors
      → (answers_to (made r wipe_all) hosts ≡ answers_to (made r' wipe_all) hosts) × (left_by (made r wipe_all) hosts ≡ left_by (made r' wipe_all) hosts)
