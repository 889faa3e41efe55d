-- What stands in the record area decides nothing: two areas with room for the records of a call get the same records, and all else is the same.
use Prim.Native.Nat.{ℕ, ◌*◌, ◌≤◌}
use mathlib.Core.Path.{◌≡◌, refl, sym, ap, ◌∙◌}
use mathlib.Core.Bool.{Bool, true, false}
use mathlib.Core.List.{List, [], ◌∷◌}
use native.Mathlib.Omega.{arith}
use lib.Dec.{eqb}
use lib.ListN.{length, take, replicate, length-replicate}
use borrow.Author.Tests.{eqb-true, eqb-false, le-ltb}
use Rattle.board.specs.declared.Link.{Link}
use Rattle.board.specs.Limits.{record_octets, record_room}
use Rattle.reception.proofs.Cutting.{three-each}
use Rattle.link.specs.Held.{Held}
use Rattle.link.proofs.Answers.{done}
use Rattle.input.specs.Refusals.{receive_number}
use Rattle.input.specs.Receive.{ReceiveOutcome, board_of, received, receive_answer}
use Rattle.input.specs.Promises.{written}
use Rattle.input.proofs.Receiving.{receivable}
use Rattle.input.proofs.Cutting.{refused-receive, wrote}
use Rattle.lineview_board.specs.View.{filled_back, octet_fed, passed, view_records}

-- two answers of receive, the numbers and the rest of the areas apart
record Alike (o p : ReceiveOutcome) : Type 0 where
  link : o.link ≡ p.link
  count : o.count ≡ p.count
  pool : o.pool ≡ p.pool
  descriptors : o.descriptors ≡ p.descriptors
  written : written o ≡ written p

module _ (l : Link) (octets pool descriptors : List ℕ) where
  done-received : (a : List ℕ) → receive_number l octets pool descriptors a ≡ 0 → receive_answer l octets pool descriptors a ≡ received l octets pool descriptors a
  unfolding receive_answer
  done-received a z = done _ _ _ z

  few : (a : List ℕ) → (receive_answer l octets pool descriptors a).count ≤ 3 * length octets
  few a = go (eqb (receive_number l octets pool descriptors a) 0) refl
    where
      go : (b : Bool) → eqb (receive_number l octets pool descriptors a) 0 ≡ b → (receive_answer l octets pool descriptors a).count ≤ 3 * length octets
      go true e =
          let z = eqb-true _ 0 e in
          rw (done-received a z) (three-each l.settings (board_of l pool descriptors) octets (receivable l octets pool descriptors a z).formed.settings.m.0)
      go false e = rw (refused-receive l octets pool descriptors a (eqb-false _ 0 e)) (omega arith)

  module _ (a b : List ℕ) (room-a : record_room * length octets ≤ length a) (room-b : record_room * length octets ≤ length b) where
    same_number : receive_number l octets pool descriptors a ≡ receive_number l octets pool descriptors b
    unfolding receive_number
    same_number = rw (le-ltb (length a) (record_room * length octets) room-a, le-ltb (length b) (record_room * length octets) room-b)

    alike : Alike (receive_answer l octets pool descriptors a) (receive_answer l octets pool descriptors b)
    alike = go (eqb (receive_number l octets pool descriptors a) 0) refl
      where
        go : (t : Bool) → eqb (receive_number l octets pool descriptors a) 0 ≡ t → Alike (receive_answer l octets pool descriptors a) (receive_answer l octets pool descriptors b)
        go true e =
            let z = eqb-true _ 0 e in
            let y : receive_number l octets pool descriptors b ≡ 0 = sym same_number ∙ z in
            rw (done-received a z, done-received b y)
            (record {
              link = refl;
              count = refl;
              pool = refl;
              descriptors = refl;
              written =
                  wrote l octets pool descriptors a (receivable l octets pool descriptors a z)
                  ∙ sym (wrote l octets pool descriptors b (receivable l octets pool descriptors b y));
            })
        go false e =
            let z = eqb-false _ 0 e in
            rw (refused-receive l octets pool descriptors a z, refused-receive l octets pool descriptors b (λ y. z (same_number ∙ y)))
            (record { link = refl; count = refl; pool = refl; descriptors = refl; written = refl })

-- ---- one line octet: three records at most,
pub fed-few : (l : Link) (octet : ℕ) (pool descriptors area : List ℕ) {f : ReceiveOutcome} → f ≡ octet_fed l octet pool descriptors area → f.count ≤ 3
unfolding octet_fed
fed-few l octet pool descriptors area e = rw (ap (λ (x : ReceiveOutcome). x.count) e) (few l (octet ∷ []) pool descriptors area)

-- and with any area that has room for them the same as with a clear one
module _ (h : Held) (octet : ℕ) (a : List ℕ) (room : record_room ≤ length a) where
  clear_room : record_room ≤ length {A = ℕ} (replicate record_room 0)
  clear_room = rw length-replicate (omega arith)

  both : Alike (receive_answer h.link (octet ∷ []) h.pool h.descriptors a) (receive_answer h.link (octet ∷ []) h.pool h.descriptors (replicate record_room 0))
  both = alike h.link (octet ∷ []) h.pool h.descriptors a (replicate record_room 0) room clear_room

  pub fed-passed : let f = octet_fed h.link octet h.pool h.descriptors a in record { link = f.link; pool = f.pool; descriptors = f.descriptors } ≡ passed h octet
  unfolding octet_fed
  fed-passed = λ i. filled_back (record { link = both.link i; pool = both.pool i; descriptors = both.descriptors i })

  pub fed-written : let f = octet_fed h.link octet h.pool h.descriptors a in take (record_octets * f.count) f.records ≡ view_records h octet
  unfolding octet_fed
  fed-written = both.written
