-- Line octets in which nothing is found: each brings its end and no more.
use Prim.Native.Nat.{ℕ, zero, suc, ◌+◌, ◌-◌, ◌*◌, ◌≤◌, ◌<◌}
use mathlib.Core.Path.{◌≡◌, refl, sym, ap, ap₂, subst, ◌∙◌}
use mathlib.Core.List.{List, [], ◌∷◌, ◌++◌, map}
use native.Mathlib.Omega.{arith}
use lib.ListN.{length, take, drop, get_or, replicate, length-append, length-drop}
use lib.Seq.{length-take-le, take-take, take-length, take-suc}
use Rattle.bits.specs.Octets.{bits_of, line_bits}
use Rattle.bits.proofs.Machines.{outs-append}
use Rattle.board.specs.InnerRanges.{SettingsInRange}
use Rattle.board.specs.declared.Settings.{Settings}
use Rattle.framing.specs.declared.Line.{Line}
use Rattle.framing.specs.Delimitation.{Receiver, Finding, next, finds, findings}
use Rattle.framing.specs.Representation.{decode}
use Rattle.octets.specs.declared.Scan.{Scan}
use Rattle.octets.specs.InnerScan.{Passes}
use Rattle.units.specs.Indications.{Indication, found, octet_end, octet_receiver, line_indications}
use Rattle.indications.specs.declared.Progress.{Progress}
use Rattle.indications.specs.InnerWriting.{CallState, holding, indications_done}
use Rattle.reception.specs.Line.{line_happenings}
use Rattle.reception.specs.InnerWriting.{StateInRange, LineTaken}
use Rattle.reception.proofs.Octets.{AllAtMostLongest, none_left, one_more, ready-kept}
use Rattle.reception.proofs.Lines.{by_bits, taken_none, taken-append, same_out}
use Rattle.reception.specs.declared.Passed.{Passed}
use Rattle.framing.specs.InnerReading.{IsWellFormed}
use Rattle.board.specs.Limits.{record_octets, record_room}
use Rattle.std.proofs.Common.{append_assoc, append-nil, length-take}
use Rattle.std.proofs.lemmas.List.{take-append-drop, nil_from_length}
use Rattle.reception.proofs.Cutting.{three-each}

-- ---- if nothing is found in their bits, the indications are the octets' ends
nothing-both : (xs ys : List Finding) → xs ++ ys ≡ [] → (xs ≡ []) × (ys ≡ [])
nothing-both [] ys e = (refl, e)
nothing-both (x ∷ xs) ys e = absurd (cc)

ends-only : (M : ℕ) (octets : List ℕ) (st : Receiver) → findings M st (line_bits octets) ≡ [] → line_indications M st octets ≡ replicate (length octets) octet_end
unfolding line_indications line_bits
ends-only M [] st e = refl
ends-only M (x ∷ octets) st e =
    let n = nothing-both (findings M st (bits_of 8 x)) (findings M (octet_receiver M st x) (line_bits octets)) (sym (outs-append (next M) (finds M) (bits_of 8 x) (line_bits octets) st) ∙ e) in
    ap₂ (λ (fs : List Finding) (ms : List Indication). map found fs ++ (octet_end ∷ []) ++ ms) n.0 (ends-only M octets (octet_receiver M st x) n.1)

ends-allowed : (k : ℕ) → AllAtMostLongest (replicate k octet_end)
ends-allowed zero = none_left
ends-allowed (suc k) = one_more {m = octet_end} (omega arith) (ends-allowed k)

-- ---- "At most three records come from one line octet."
few-records : (s : Settings) (st : Receiver) (octets : List ℕ) (w : CallState) → 7 ≤ s.m
    → (indications_done s w (line_indications s.m st octets)).count ≤ w.count + 3 * length octets
unfolding indications_done line_happenings
few-records s st octets w h =
    let t = three-each s (record { receiver = st; unit_memory = w.unit_memory; supervision = w.supervision }) octets h in
    omega (arith, t)

-- ---- octets that were passed together, and their ends: taken
module _ (s : Settings) (l : SettingsInRange s) (line : Line) (area : List ℕ) (octets : List ℕ) (p : Progress) (pool descriptors out : List ℕ) where
  abbrev w : CallState
  w = holding p pool descriptors out

  passed-taken : (r : Scan) (area' : List ℕ) → Passes s.m line octets area r area' → StateInRange s w → (q : Progress) (out' : List ℕ)
      → holding q pool descriptors out' ≡ indications_done s w (replicate r.taken octet_end)
      → LineTaken s line area (take r.taken octets) w (record { line = r.line; progress = q }) area' (holding q pool descriptors out')
  passed-taken r area' a i q out' e =
      let taken = take r.taken octets in
      let n : length taken ≡ r.taken = length-take-le r.taken octets a.few in
      let d : holding q pool descriptors out' ≡ indications_done s w (line_indications s.m (decode line area) taken) =
      e ∙ ap (λ (k : ℕ). indications_done s w (replicate k octet_end)) (sym n) ∙ ap (indications_done s w) (sym (ends-only s.m taken (decode line area) a.nothing)) in
      record {
        receiver = a.receiver ∙ sym (by_bits s.m taken (decode line area));
        held = a.held;
        done = d;
        ready = subst (StateInRange s) (sym e) (ready-kept s w (replicate r.taken octet_end) l (ends-allowed r.taken) i);
        few = subst (λ (x : CallState). x.count ≤ w.count + 3 * length taken) (sym d) (few-records s (decode line area) taken w l.m.0);
      }

-- ---- a line of which the front is taken
pub record Front (s : Settings) (line : Line) (area₀ octets : List ℕ) (w : CallState) (rest : List ℕ) (r : Passed) (area : List ℕ) (w' : CallState) : Type 0 where
  pub front : List ℕ
  pub whole : octets ≡ front ++ rest
  pub taken : LineTaken s line area₀ front w r area w'

pub front-none : {s : Settings} {line : Line} {area octets : List ℕ} {p : Progress} {pool descriptors out : List ℕ} → IsWellFormed s.m line area → StateInRange s (holding p pool descriptors out)
    → Front s line area octets (holding p pool descriptors out) octets (record { line = line; progress = p }) area (holding p pool descriptors out)
front-none {s} {line} {area} {octets} {p} {pool} {descriptors} {out} h i =
    record { front = []; whole = refl; taken = taken_none s line area (holding p pool descriptors out) p pool descriptors out refl h i }

module _ {s : Settings} {line : Line} {area₀ octets : List ℕ} {w : CallState} {rest : List ℕ} {r : Passed} {area : List ℕ} {w' : CallState}
    (a : Front s line area₀ octets w rest r area w') where
  -- the next octets of the rest, or one
  pub front-more : (n : ℕ) {r' : Passed} {area' : List ℕ} {w'' : CallState} → LineTaken s r.line area (take n rest) w' r' area' w''
      → Front s line area₀ octets w (take (length rest - n) (drop n rest)) r' area' w''
  front-more n {r'} {area'} {w''} b =
      record {
        front = a.front ++ take n rest;
        whole = a.whole ∙ sym (rw (← length-drop n rest, take-length (drop n rest), append_assoc, take-append-drop n rest) refl);
        taken = taken-append s line area₀ w a.front (take n rest) r area w' r' area' w'' a.taken b;
      }

  pub front-octet : 0 < length rest → {r' : Passed} {area' : List ℕ} {w'' : CallState} → LineTaken s r.line area (get_or rest 0 0 ∷ []) w' r' area' w''
      → Front s line area₀ octets w (take (length rest - 1) (drop 1 rest)) r' area' w''
  front-octet h {r'} {area'} {w''} b = front-more 1 (subst (λ (xs : List ℕ). LineTaken s r.line area xs w' r' area' w'') (sym (take-suc rest 0 0 h)) b)

  pub front-all : length rest ≡ 0 → LineTaken s line area₀ octets w r area w'
  front-all e = subst (λ (xs : List ℕ). LineTaken s line area₀ xs w r area w') (sym (a.whole ∙ ap (λ (xs : List ℕ). a.front ++ xs) (nil_from_length rest e) ∙ append-nil a.front)) a.taken

  -- room for the three records of the next octet
  pub front-room : 0 < length rest → record_octets * w.count + record_room * length octets ≤ length w.out → record_octets * w'.count + record_room ≤ length w'.out
  front-room h k =
      let n : length octets ≡ length a.front + length rest = ap length a.whole ∙ length-append a.front rest in
      omega (arith, a.taken.few, same_out s line area₀ w a.front r area w' a.taken)

-- some octets of the rest in which nothing is found
pub front-together : {s : Settings} {line : Line} {area₀ octets : List ℕ} {w : CallState} {rest : List ℕ} {cur : Line} {q : Progress} {area pool descriptors out : List ℕ}
    → Front s line area₀ octets w rest (record { line = cur; progress = q }) area (holding q pool descriptors out) → SettingsInRange s
    → (n : ℕ) {scan : Scan} {area' : List ℕ} → Passes s.m cur (take n rest) area scan area' → {q' : Progress} {out' : List ℕ}
    → holding q' pool descriptors out' ≡ indications_done s (holding q pool descriptors out) (replicate scan.taken octet_end)
    → Front s line area₀ octets w (take (length rest - scan.taken) (drop scan.taken rest)) (record { line = scan.line; progress = q' }) area' (holding q' pool descriptors out')
front-together {s} {line} {area₀} {octets} {w} {rest} {cur} {q} {area} {pool} {descriptors} {out} a l n {scan} {area'} b {q'} {out'} d =
    let t = passed-taken s l cur area (take n rest) q pool descriptors out scan area' b a.taken.ready q' out' d in
    front-more a scan.taken (subst (λ (xs : List ℕ). LineTaken s cur area xs (holding q pool descriptors out) (record { line = scan.line; progress = q' }) area' (holding q' pool descriptors out'))
    (take-take scan.taken n rest (omega (arith, b.few, length-take n rest))) t)
