-- Sends and fills of one booking, each of which takes the link that the last one gave back.
use Rattle.std.specs.Prelude.{ℕ, suc, ◌≡◌, Bool, List, [], ◌∷◌, take}
use Rattle.bits.specs.Format.{basic}
use Rattle.bits.specs.Machine.{run, outs}
use Rattle.sending.specs.Packing.{waiting}
use Rattle.board.specs.declared.Link.{Link}
use Rattle.output.specs.Output.{OutputOutcome, sender, fill_content, send_answer, fill_answer}

-- a call, with the output area lent to it
pub data Sending : Type 0 where
  send : List ℕ → List ℕ → Sending
  fill : List ℕ → Sending

abbrev pub area_of : Sending → List ℕ
area_of (send content output) = output
area_of (fill output) = output

abbrev pub answer : Link → Sending → OutputOutcome
answer l (send content output) = send_answer l content output
answer l (fill output) = fill_answer l output

-- the link after one call, and the octets that it put out
abbrev pub sent_on : Link → Sending → Link
sent_on l s = (answer l s).link

abbrev pub went_out : Link → Sending → List ℕ
went_out l s = take (answer l s).count (answer l s).output

-- the same of all of them
unfoldable pub link_after : Link → List Sending → Link
link_after = run sent_on

unfoldable pub octets_sent : Link → List Sending → List ℕ
octets_sent = outs sent_on went_out

-- every call is answered 0
pub data Accepted : Link → List Sending → Type 0 where
  none : {l : Link} → Accepted l []
  more : {l : Link} {s : Sending} {ss : List Sending} → (answer l s).number ≡ 0 → Accepted (sent_on l s) ss → Accepted l (s ∷ ss)

-- "up to seven bits wait in the link"
abbrev pub waiting_bits : Link → List Bool
waiting_bits l = waiting (sender l.transmitter)

-- how many fills come before any content
unfoldable pub fills_first : List Sending → ℕ
fills_first [] = 0
fills_first (send content output ∷ ss) = 0
fills_first (fill output ∷ ss) = suc (fills_first ss)

-- the contents of the units that are sent, where the last content began with these two octets, or none was sent
unfoldable pub contents_from : List ℕ → List Sending → List (List ℕ)
contents_from last [] = []
contents_from last (send content output ∷ ss) = content ∷ contents_from (take basic.sequence content) ss
contents_from [] (fill output ∷ ss) = contents_from [] ss
contents_from (x ∷ last) (fill output ∷ ss) = fill_content basic (x ∷ last) ∷ contents_from (x ∷ last) ss

abbrev pub contents : List Sending → List (List ℕ)
contents = contents_from []
