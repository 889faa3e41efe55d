-- A transmitter's line that a fresh booking reads: the units whose closing flag is out are handed over, and nothing else happens.
use Prim.Native.Nat.{ℕ, zero, suc, ◌≤◌}
use mathlib.Core.Path.{◌≡◌, refl, sym, ap, subst, ◌∙◌}
use mathlib.Core.Bool.{Bool, false}
use mathlib.Core.List.{List, [], ◌∷◌, ◌++◌}
use native.Mathlib.Omega.{arith}
use lib.ListN.{length}
use Rattle.board.specs.Limits.{monitor_limits}
use Rattle.bits.specs.Octets.{line_bits}
use Rattle.sending.specs.Stream.{stream_line}
use Rattle.memory.specs.Lent.{empty_descriptors}
use Rattle.memory.proofs.Slots.{empty-each}
use Rattle.framing.specs.Delimitation.{new_receiver}
use Rattle.records.specs.declared.Happening.{Happening}
use Rattle.records.specs.Record.{records_of}
use Rattle.board.specs.declared.Settings.{Settings}
use Rattle.units.specs.Indications.{line_indications}
use Rattle.reception.specs.Line.{Board, board_after, line_happenings, line_records}
use Rattle.link.specs.Calls.{Outcome, opened_link}
use Rattle.link.proofs.Kept.{opened}
use Rattle.link.specs.Held.{Held}
use Rattle.readback.specs.Feeding.{board, held_after, records_fed, octets_fed, Answered}
use Rattle.readback.specs.SlotRing.{SlotRing, ring_after, ring_records}
use Rattle.readback.specs.Streams.{AllAllowed, none, more, all_but_last, closed_out, empty_ring, StreamRead}
use Rattle.readback.proofs.Feeding.{fed-as-one}
use Rattle.readback.proofs.Pieces.{stream-found}
use Rattle.readback.proofs.Handing.{found-line, Free, Handed, all-handed, unsupervised, handed-records}

-- ---- a booking just opened
abbrev pub fresh : Settings → List ℕ → Held
fresh s pool = record { link = opened_link s; pool = pool; descriptors = empty_descriptors s.k }

-- all its slots are empty
all-free : (k n : ℕ) (pool : List ℕ) → n ≤ k → Free k n (empty_ring k pool)
all-free k n pool h =
    record {
      few = h;
      below = λ l. omega arith;
      ahead = λ j l m below. (empty-each k j below).0;
      round = λ j l. absurd (omega arith);
    }

-- the units whose closing flag is out are allowed too
some-allowed : (M : ℕ) (cs : List (List ℕ)) → AllAllowed M cs → AllAllowed M (all_but_last cs)
unfolding all_but_last
some-allowed M [] none = none
some-allowed M (c ∷ []) (more a none) = none
some-allowed M (c ∷ d ∷ cs) (more a rest) = more a (some-allowed M (d ∷ cs) rest)

pub closed-allowed : (M n : ℕ) (cs : List (List ℕ)) → AllAllowed M cs → AllAllowed M (closed_out n cs)
closed-allowed M zero cs a = a
closed-allowed M (suc n) cs a = some-allowed M cs a

-- ---- what the line does to its board
module _ (s : Settings) (pool xs : List ℕ) (n : ℕ) (cs : List (List ℕ)) (w : List Bool) where
  abbrev us : List (List ℕ)
  us = closed_out (length w) cs

  effect : s.filter ≡ false → line_bits xs ++ w ≡ stream_line n cs → length w ≤ 7 → AllAllowed s.m cs → length us ≤ s.k
      → Handed s (board (fresh s pool)).unit_memory (line_indications s.m new_receiver xs) us
  effect off e h a k =
      all-handed s off (line_indications s.m new_receiver xs) us (board (fresh s pool)).unit_memory (closed-allowed s.m (length w) cs a)
      (all-free s.k (length us) pool k) refl (found-line s.m xs new_receiver ∙ stream-found s.m n cs (line_bits xs) w a e h)

  module _ (is : Handed s (board (fresh s pool)).unit_memory (line_indications s.m new_receiver xs) us) where
    line-records : line_records s (board (fresh s pool)) xs ≡ ring_records s.k (empty_ring s.k pool) us
    unfolding line_records line_happenings
    line-records =
        ap (λ (hs : List Happening). records_of (monitor_limits s) (unsupervised 0) hs) is.all
        ∙ handed-records s.k (monitor_limits s) us (empty_ring s.k pool) 0

    line-pool : (board_after s (board (fresh s pool)) xs).unit_memory.pool ≡ (ring_after s.k (empty_ring s.k pool) us).pool
    unfolding board_after
    line-pool = ap (λ (x : SlotRing). x.pool) is.ring

    line-descriptors : (board_after s (board (fresh s pool)) xs).unit_memory.descriptors ≡ (ring_after s.k (empty_ring s.k pool) us).descriptors
    unfolding board_after
    line-descriptors = ap (λ (x : SlotRing). x.descriptors) is.ring

-- ---- the calls
pub stream-read : StreamRead
stream-read l s pool descriptors fs n cs w z off answered e h a k =
    let us = closed_out (length w) cs in
    let ring = ring_after s.k (empty_ring s.k pool) us in
    let is = effect s pool (octets_fed fs) n cs w off e h a k in
    subst (λ (o : Outcome).
    let held : Held = record { link = o.link; pool = o.pool; descriptors = o.descriptors } in
    Answered held fs
    → (records_fed held fs ≡ ring_records s.k (empty_ring s.k pool) us)
    × ((held_after held fs).pool ≡ ring.pool)
    × ((held_after held fs).descriptors ≡ ring.descriptors))
    (sym (opened l s pool descriptors z))
    (λ (x : Answered (fresh s pool) fs).
    let fed = fed-as-one (fresh s pool) fs x in (
      fed.1 ∙ line-records s pool (octets_fed fs) n cs w is,
      ap (λ (b : Board). b.unit_memory.pool) fed.0 ∙ line-pool s pool (octets_fed fs) n cs w is,
      ap (λ (b : Board). b.unit_memory.descriptors) fed.0 ∙ line-descriptors s pool (octets_fed fs) n cs w is,
    ))
    answered
