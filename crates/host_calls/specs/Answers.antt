-- What an exported call answers: exactly what the call's definition gives of the link that the host's fields are.
use Rattle.std.specs.Prelude.{ℕ, ◌*◌, cond, List, eqb, length}
use Rattle.bits.specs.Format.{basic}
use Rattle.link.specs.Refusals.{read_number}
use Rattle.link.specs.Calls.{read_part}
use Rattle.calls.specs.Call.{Call, answer}
use Rattle.host_link.specs.declared.HostLink.{HostLink}
use Rattle.host_link.specs.Crossing.{from_host, given_back}
use Rattle.host_link.specs.declared.answers.HostPart.{HostPart}

-- A call's answer with the link as the host's fields.
pub record Answered : Type 0 where
  pub number : ℕ
  pub link : HostLink
  pub count : ℕ
  pub part : List ℕ
  pub lent : List (List ℕ)

abbrev pub host_answer : HostLink → Call → Answered
host_answer h c =
    let o = answer (from_host h) c in
    record { number = o.number; link = given_back h o.number o.link; count = o.count; part = o.part; lent = o.lent }

-- where in the pool the part that read returns begins; 0 where it is refused
abbrev pub offset_of : ℕ → ℕ → ℕ
offset_of number slot = cond (eqb number 0) (basic.slot * slot) 0

-- read's number, and its part as a place and a length
abbrev pub host_part : HostLink → List ℕ → List ℕ → ℕ → HostPart
host_part h pool descriptors slot =
    let number = read_number (from_host h) pool descriptors slot in
    record { offset = offset_of number slot; length = length (read_part (from_host h) pool descriptors slot); number = number }
