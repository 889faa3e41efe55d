-- What each call answers, and what stands in the lent memory then. "A refusal returns its number, the link as given and zero for
-- every other number of the answer; a refused read returns an empty part. No lent octet or word changes."
use Rattle.std.specs.Prelude.{ℕ, true, false, cond, List, [], eqb, take, Result}
use Rattle.std.specs.Result.{result_unwrap_or}
use Rattle.std.specs.Int.Bits.{bit_and, bit_xor}
use Rattle.bits.specs.Format.{basic}
use Rattle.memory.specs.declared.Status.TheVariants as statuses
use Rattle.memory.specs.Lent.{wiped, empty_descriptors, length_of, slot_of, with_slot, with_descriptor, empty_slot, status_word}
use Rattle.board.specs.declared.Settings.{Settings}
use Rattle.board.specs.declared.Link.{Link}
use Rattle.board.specs.Link.{new_link, new_units}
use Rattle.board.specs.With.{with_supervision}
use Rattle.link.specs.declared.Refusal.{Refusal}
use Rattle.link.specs.Answer.{Answer, number_of}
use Rattle.link.specs.Commands.{command_of, obeying}
use Rattle.link.specs.Refusals.{open_number, command_number, clear_number, read_number}

-- the answer of a call that is lent pool and descriptors
pub record Outcome : Type 0 where
  pub number : ℕ
  pub link : Link
  pub pool : List ℕ
  pub descriptors : List ℕ

abbrev pub outcome : ℕ → Link → List ℕ → List ℕ → Outcome
outcome n l pool descriptors = record { number = n; link = l; pool = pool; descriptors = descriptors }

-- what the code gives on link l, and pool and descriptors as they stand then
abbrev pub outcome_of : Link → Result Link Refusal → List ℕ → List ℕ → Outcome
outcome_of l r pool descriptors = outcome (number_of r) (result_unwrap_or r l) pool descriptors

-- "monitor off, all counts zero; N's counter is N, the next slot 0, the settings those given, no event bit set, octet counting off,
-- the link open, the rest as in the new link"
abbrev pub opened_link : Settings → Link
opened_link s =
    record {
      opened = true;
      settings = s;
      line = new_link.line;
      units = record { counting = record { on = false; left = s.n }; memory = new_units.memory; slots = new_units.slots; counts = new_units.counts };
      supervision = new_link.supervision;
      transmitter = new_link.transmitter;
    }

-- "Open marks all slots empty with length 0"
unfoldable pub open_answer : Link → Settings → List ℕ → List ℕ → Outcome
open_answer l s pool descriptors =
    cond (eqb (open_number l s pool descriptors) 0)
    (outcome 0 (opened_link s) pool (empty_descriptors s.k))
    (outcome (open_number l s pool descriptors) l pool descriptors)

-- "Wipe takes an octet area and a word area of any length, zeroes all of both and returns the new closed link."
pub record Wiped : Type 0 where
  pub link : Link
  pub octets : List ℕ
  pub words : List ℕ

abbrev pub wipe_answer : List ℕ → List ℕ → Wiped
wipe_answer octets words = record { link = new_link; octets = wiped octets; words = wiped words }

unfoldable pub command_answer : Link → ℕ → Answer
command_answer l command =
    cond (eqb (command_number l command) 0)
    (record { number = 0; link = obeying (command_of command) l })
    (record { number = command_number l command; link = l })

-- "A further call clears chosen event bits and never gives another refusal than 1 and 2."
abbrev pub without_bits : ℕ → ℕ → ℕ
without_bits events chosen = bit_xor events (bit_and events chosen)

unfoldable pub clear_answer : Link → ℕ → Answer
clear_answer l chosen =
    cond (eqb (clear_number l) 0)
    (record {
      number = 0;
      link = with_supervision l (record { monitor = l.supervision.monitor; events = without_bits l.supervision.events chosen });
    })
    (record { number = clear_number l; link = l })

-- "Read returns the first length octets of the slot, as a part of the pool"
unfoldable pub read_part : Link → List ℕ → List ℕ → ℕ → List ℕ
read_part l pool descriptors slot =
    cond (eqb (read_number l pool descriptors slot) 0) (take (length_of descriptors slot) (slot_of basic pool slot)) []

-- "Hand back zeroes the slot and its length and marks it empty."
unfoldable pub hand_answer : Link → List ℕ → List ℕ → ℕ → Outcome
hand_answer l pool descriptors slot =
    cond (eqb (read_number l pool descriptors slot) 0)
    (outcome 0 l (with_slot basic pool slot (empty_slot basic)) (with_descriptor descriptors slot (status_word statuses.Empty) 0))
    (outcome (read_number l pool descriptors slot) l pool descriptors)
