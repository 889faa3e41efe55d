-- What is promised of the calls on one link and its memory. The proofs are in proofs/Faults.antt and proofs/Kept.antt.
use Rattle.std.specs.Prelude.{ℕ, ◌≡◌, Bool, true, false, List, [], ◌∷◌, ◌++◌, ◌↔◌}
use Rattle.bits.specs.Format.{basic}
use Rattle.memory.specs.Lent.{zeros}
use Rattle.board.specs.declared.Settings.{Settings}
use Rattle.board.specs.declared.Link.{Link}
use Rattle.board.specs.Link.{new_link}
use Rattle.board.specs.Malformed.{in_range, malformed}
use Rattle.link.specs.Refusals.{Fault, fault, first, fits_memory, open_faults, command_faults, read_faults, open_number, command_number, read_number, clear_faults, clear_number}
use Rattle.link.specs.Tables.{none_found, rising}
use Rattle.link.specs.Calls.{outcome, open_answer, wipe_answer, command_answer, read_part, hand_answer, clear_answer}

-- In a table of rising numbers a fault's number is given exactly if that fault is found and none before it,
abbrev pub FirstFault : Type 0
FirstFault =
    (before after : List Fault) (found : Bool) (n : ℕ) → rising 0 (before ++ (fault found n ∷ after)) ≡ true
    → (first (before ++ (fault found n ∷ after)) ≡ n) ↔ ((none_found before ≡ true) × (found ≡ true))

-- and 0 exactly if none is found;
abbrev pub NoFault : Type 0
NoFault = (fs : List Fault) → rising 0 fs ≡ true → (first fs ≡ 0) ↔ (none_found fs ≡ true)

-- each call's table is such.
abbrev pub TablesRise : Type 0
TablesRise =
    (l : Link) (s : Settings) (pool descriptors : List ℕ) (command slot : ℕ)
    → (rising 0 (open_faults l s pool descriptors) ≡ true)
    × (rising 0 (command_faults l command) ≡ true)
    × (rising 0 (clear_faults l) ≡ true)
    × (rising 0 (read_faults l pool descriptors slot) ≡ true)

-- A refused call gives back the link and every lent list as they were; a refused read gives an empty part.
abbrev pub RefusedOpen : Type 0
RefusedOpen =
    (l : Link) (s : Settings) (pool descriptors : List ℕ) → (open_number l s pool descriptors ≡ 0 → ⊥)
    → open_answer l s pool descriptors ≡ outcome (open_number l s pool descriptors) l pool descriptors

abbrev pub RefusedCommand : Type 0
RefusedCommand =
    (l : Link) (command : ℕ) → (command_number l command ≡ 0 → ⊥)
    → command_answer l command ≡ record { number = command_number l command; link = l }

abbrev pub RefusedClear : Type 0
RefusedClear = (l : Link) (chosen : ℕ) → (clear_number l ≡ 0 → ⊥) → clear_answer l chosen ≡ record { number = clear_number l; link = l }

abbrev pub RefusedRead : Type 0
RefusedRead =
    (l : Link) (pool descriptors : List ℕ) (slot : ℕ) → (read_number l pool descriptors slot ≡ 0 → ⊥)
    → read_part l pool descriptors slot ≡ []

abbrev pub RefusedHandBack : Type 0
RefusedHandBack =
    (l : Link) (pool descriptors : List ℕ) (slot : ℕ) → (read_number l pool descriptors slot ≡ 0 → ⊥)
    → hand_answer l pool descriptors slot ≡ outcome (read_number l pool descriptors slot) l pool descriptors

-- After the wipe each lent octet and word is zero and the link is the new one.
abbrev pub WipeLeavesNothing : Type 0
WipeLeavesNothing =
    (octets words : List ℕ)
    → ((wipe_answer octets words).link ≡ new_link) × (zeros (wipe_answer octets words).octets ≡ true) × (zeros (wipe_answer octets words).words ≡ true)

-- A booking opens exactly if the link is the new one, the settings are in range, the memory is that of its slots and all of it is zero.
abbrev pub OpensExactly : Type 0
OpensExactly =
    (l : Link) (s : Settings) (pool descriptors : List ℕ)
    → ((open_answer l s pool descriptors).number ≡ 0)
    ↔ ((malformed l ≡ false)
    × (l.opened ≡ false)
    × (in_range basic s ≡ true)
    × (fits_memory basic s.k pool descriptors ≡ true)
    × (zeros pool ≡ true)
    × (zeros descriptors ≡ true))

-- After a slot is handed back, reading it is refused with 13.
abbrev pub HandedBackIsEmpty : Type 0
HandedBackIsEmpty =
    (l : Link) (pool descriptors : List ℕ) (slot : ℕ) → (hand_answer l pool descriptors slot).number ≡ 0
    → read_number l (hand_answer l pool descriptors slot).pool (hand_answer l pool descriptors slot).descriptors slot ≡ 13
