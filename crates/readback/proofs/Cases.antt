-- The example: every hypothesis of reading all of a line back is met, and the record is computed.
use Prim.Native.Nat.{ℕ, ◌≤◌, ◌<◌}
use mathlib.Core.Path.{◌≡◌, refl, sym, ap, subst, ◌∙◌}
use mathlib.Core.List.{List, [], ◌∷◌}
use native.Mathlib.Omega.{arith}
use lib.ListN.{length, replicate}
use Rattle.board.specs.Rows.{row_of, table}
use Rattle.bits.specs.Octets.{bits_of, line_bits, octet_of, packed, whole_octets, bits_after, none as no-octets, more as octet}
use Rattle.fcs.specs.Check.{check_of, check_octets}
use Rattle.sending.specs.Stuffing.{unit_bits, unit_line}
use Rattle.sending.specs.Packing.{octets_out, still_waiting}
use Rattle.memory.specs.Lent.{zeros}
use Rattle.board.specs.Link.{new_link, clear_area}
use Rattle.board.specs.Malformed.{no_ones, zero_past, in_range, line_out, counter_out, monitor_out, transmitter_out, open_malformed, is_new, malformed}
use Rattle.records.specs.Record.{record_of}
use Rattle.link.specs.Refusals.{first, fits_memory, open_number}
use Rattle.link.specs.Calls.{open_answer}
use Rattle.output.specs.Refusals.{send_number, fill_number}
use Rattle.output.specs.Output.{unit_out, fill_out, send_answer, fill_answer}
use Rattle.transmission.specs.Transmission.{octets_sent, link_after, contents_from, contents, Accepted, none as no-calls, more as one-call}
use Rattle.transmission.specs.Promises.{row1, three}
use Rattle.readback.specs.Feeding.{octets_fed}
use Rattle.readback.specs.SlotRing.{ring_records}
use Rattle.readback.specs.Streams.{Allowed, AllAllowed, none, more, all_but_last, closed_out, empty_ring}
use Rattle.readback.specs.Using.{none as none-sized, more as sized}
use Rattle.readback.specs.Promises.{Booking, opening, line, waits, sample_feed, SampleRead}
use Rattle.readback.proofs.ReadBack.{all-read-back}

abbrev sender : Booking
sender = record { link = new_link; settings = row1; pool = replicate 280 0; descriptors = 0 ∷ 0 ∷ []; sendings = three }

opens : (open_answer new_link row1 (replicate 280 0) (0 ∷ 0 ∷ [])).number ≡ 0
unfolding row_of table open_answer open_number first fits_memory malformed is_new in_range zeros clear_area
opens = refl

accepts : Accepted (opening sender).link three
unfolding row_of table open_answer open_number first fits_memory malformed is_new in_range zeros clear_area send_answer fill_answer send_number fill_number open_malformed transmitter_out monitor_out counter_out line_out zero_past no_ones unit_out fill_out unit_line unit_bits line_bits bits_of octet_of packed whole_octets bits_after octets_out still_waiting check_of check_octets
accepts = one-call refl (one-call refl (one-call refl no-calls))

-- its octets, and the unit whose closing flag is out
line-is : octets_fed (sample_feed ∷ []) ≡ line sender
unfolding row_of table octets_fed octets_sent open_answer open_number first fits_memory malformed is_new in_range zeros clear_area send_answer fill_answer send_number fill_number open_malformed transmitter_out monitor_out counter_out line_out zero_past no_ones unit_out fill_out unit_line unit_bits line_bits bits_of octet_of packed whole_octets bits_after octets_out still_waiting check_of check_octets
line-is = refl

one_out : closed_out (waits sender) (contents three) ≡ (0x1f ∷ 2 ∷ 3 ∷ []) ∷ []
unfolding row_of table all_but_last contents_from link_after open_answer open_number first fits_memory malformed is_new in_range zeros clear_area send_answer fill_answer send_number fill_number open_malformed transmitter_out monitor_out counter_out line_out zero_past no_ones unit_out fill_out unit_line unit_bits line_bits bits_of octet_of packed whole_octets bits_after octets_out still_waiting check_of check_octets
one_out = refl

three-octets : (x y z : ℕ) → x < 256 → y < 256 → z < 256 → Allowed 278 (x ∷ y ∷ z ∷ [])
three-octets x y z a b c = record { least = omega arith; most = omega arith; octets = octet a (octet b (octet c no-octets)) }

allowed : AllAllowed row1.m (contents three)
unfolding row_of table contents_from
allowed = more (three-octets 0x1f 2 3 (omega arith) (omega arith) (omega arith)) (more (three-octets 0x1f 2 0 (omega arith) (omega arith) (omega arith)) none)

record_is : ring_records 1 (empty_ring 1 (replicate 280 0)) ((0x1f ∷ 2 ∷ 3 ∷ []) ∷ [])
    ≡ 0 ∷ 0 ∷ 5 ∷ 0 ∷ 0 ∷ 0 ∷ 1 ∷ 0 ∷ 0x1f ∷ 2 ∷ 3 ∷ 0xb5 ∷ 0x08 ∷ 0 ∷ 0 ∷ 0 ∷ []
unfolding ring_records record_of check_octets check_of line_bits bits_of
record_is = refl

pub sample-read : SampleRead
sample-read =
    (all-read-back sender new_link row1 (replicate 280 0) (0 ∷ 0 ∷ []) (sample_feed ∷ []) (record { opens = opens; accepts = accepts }) opens refl allowed
    (sized (omega arith) (omega arith) none-sized) line-is (subst (λ (us : List (List ℕ)). length us ≤ 1) (sym one_out) (omega arith))).0
    ∙ ap (ring_records 1 (empty_ring 1 (replicate 280 0))) one_out ∙ record_is
