-- What send and fill put behind the bits that wait, and what they answer.
use Rattle.std.specs.Prelude.{ℕ, Bool, true, false, cond, List, [], ◌++◌, eqb, length, take, replicate, Result}
use Rattle.std.specs.Int.Bits.{bit_or}
use Rattle.std.proofs.lemmas.List.Edits.{sets}
use Rattle.board.specs.declared.events.Event.TheVariants as events
use Rattle.board.specs.Events.{event_bit}
use Rattle.bits.specs.Format.{Format, basic}
use Rattle.bits.specs.Octets.{octet_of}
use Rattle.sending.specs.declared.Tx.{Tx}
use Rattle.sending.specs.Stuffing.{flag, unit_line}
use Rattle.sending.specs.Packing.{octets_out, still_waiting}
use Rattle.board.specs.declared.Transmitter.{Transmitter}
use Rattle.board.specs.declared.Link.{Link}
use Rattle.board.specs.With.{with_sender}
use Rattle.link.specs.declared.Refusal.{Refusal}
use Rattle.link.specs.Answer.{number_of, counted_link, count_of}
use Rattle.link.specs.declared.Counted.{Counted}
use Rattle.output.specs.Refusals.{send_number, fill_number}

pub record OutputOutcome : Type 0 where
  pub number : ℕ
  pub link : Link
  pub count : ℕ
  pub output : List ℕ

-- the sender at the start of an output area: "up to seven bits wait in the link"
abbrev pub sender : Transmitter → Tx
sender t = record { at = 0; count = t.count; wait = t.wait; ones = 0 }

-- "The first output of a booking begins with a flag."
abbrev pub first_flag : Bool → List Bool
first_flag true = []
first_flag false = flag

unfoldable pub unit_out : Transmitter → List ℕ → List Bool
unit_out t content = first_flag t.flagged ++ unit_line content

-- "Fill sends the first two octets of the last content sent, then an octet 0. Before any content it puts out one flag only, [..] whether or
-- not a flag has gone before"
abbrev pub fill_content : Format → List ℕ → List ℕ
fill_content F last = last ++ replicate F.indicator 0

unfoldable pub fill_out : Transmitter → List Bool
fill_out t = cond t.sent (unit_out t (fill_content basic t.last)) flag

-- "8 fill-in sent", "and no event bit is set" for a flag alone
abbrev pub fill_event : Bool → ℕ
fill_event true = event_bit events.FillSent
fill_event false = 0

-- the link with so many bits waiting in its waiting octet, and an event bit more
abbrev pub link_sent : Link → ℕ → ℕ → Bool → List ℕ → ℕ → Link
link_sent l count wait sent last event =
    with_sender l (record { flagged = true; count = count; wait = wait; sent = sent; last = last })
    (record { monitor = l.supervision.monitor; events = bit_or l.supervision.events event })

-- "Whole octets go out and their number is returned; the rest of the area is unchanged"
abbrev pub put_out : Link → List Bool → Bool → List ℕ → ℕ → List ℕ → OutputOutcome
put_out l bits sent last event output =
    let t = sender l.transmitter in
    record {
      number = 0;
      link = link_sent l (length (still_waiting t bits)) (octet_of (still_waiting t bits)) sent last event;
      count = length (octets_out t bits);
      output = sets output 0 (octets_out t bits);
    }

abbrev pub not_sent : ℕ → Link → List ℕ → OutputOutcome
not_sent n l output = record { number = n; link = l; count = 0; output = output }

-- what the code gives on link l, and the output area as it stands then
abbrev pub output_of : Link → Result Counted Refusal → List ℕ → OutputOutcome
output_of l r output = record { number = number_of r; link = counted_link l r; count = count_of r; output = output }

-- "7 sent"
unfoldable pub send_answer : Link → List ℕ → List ℕ → OutputOutcome
send_answer l content output =
    cond (eqb (send_number l content output) 0) (put_out l (unit_out l.transmitter content) true (take basic.sequence content) (event_bit events.Sent) output)
    (not_sent (send_number l content output) l output)

unfoldable pub fill_answer : Link → List ℕ → OutputOutcome
fill_answer l output =
    cond (eqb (fill_number l output) 0)
    (put_out l (fill_out l.transmitter) l.transmitter.sent l.transmitter.last (fill_event l.transmitter.sent) output)
    (not_sent (fill_number l output) l output)
