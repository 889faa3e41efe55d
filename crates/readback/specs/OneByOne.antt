-- A host that needs no thought about slots: one octet at a time, and every slot handed back after each. The proofs are in proofs/OneByOne.antt.
use Rattle.std.specs.Prelude.{ℕ, zero, suc, ◌≡◌, false, List, [], ◌∷◌, replicate}
use Rattle.board.specs.Limits.{record_room}
use Rattle.board.specs.declared.Settings.{Settings}
use Rattle.board.specs.declared.Link.{Link}
use Rattle.link.specs.Calls.{open_answer}
use Rattle.transmission.specs.Transmission.{contents}
use Rattle.readback.specs.Streams.{AllAllowed, closed_out, just_opened}
use Rattle.readback.specs.Rounds.{Round, HandsOver}
use Rattle.readback.specs.Promises.{Booking, Sends, line, waits}

-- all slots of k, the last first
unfoldable pub slots_of : ℕ → List ℕ
slots_of zero = []
slots_of (suc k) = k ∷ slots_of k

unfoldable pub one_by_one : ℕ → List ℕ → List Round
one_by_one k [] = []
one_by_one k (x ∷ xs) = record { feed = record { octets = x ∷ []; records = replicate record_room 0 }; back = slots_of k } ∷ one_by_one k xs

-- A fresh booking with its filter off that allows the lengths, whatever its number of slots, so hands over exactly the units whose closing flag
-- is out, in order, and nothing else.
abbrev pub AllReadOneByOne : Type 0
AllReadOneByOne =
    (b : Booking) (l : Link) (s : Settings) (pool descriptors : List ℕ)
    → Sends b → (open_answer l s pool descriptors).number ≡ 0 → s.filter ≡ false → AllAllowed s.m (contents b.sendings)
    → HandsOver (just_opened l s pool descriptors) (one_by_one s.k (line b)) (closed_out (waits b) (contents b.sendings))
