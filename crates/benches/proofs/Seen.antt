-- Records as both benches must have them, and events, follow from what happened, all but whether a slot was empty and the fate of a good unit.
use Prim.Native.Nat.{ℕ, suc}
use mathlib.Core.Path.{◌≡◌, refl, sym, ap, ap₂, ◌∙◌}
use mathlib.Core.Bool.{Bool, true, false, cond}
use mathlib.Core.List.{List, [], ◌∷◌, ◌++◌, map}
use native.Mathlib.Omega.{arith}
use lib.ListN.{length, length-append}
use lib.Seq.{take_at, drop_at}
use Rattle.bits.specs.Octets.{worth}
use Rattle.monitor.specs.declared.Monitor.{Monitor}
use Rattle.monitor.specs.declared.Limits.{Limits}
use Rattle.monitor.specs.Monitor.{step}
use Rattle.board.specs.declared.Supervision.{Supervision}
use Rattle.records.specs.declared.RecordKind.{RecordKind}
use Rattle.records.specs.declared.RecordKind.TheVariants as kinds
use Rattle.records.specs.declared.Happening.{Happening}
use Rattle.records.specs.Kinds.{kind_number}
use Rattle.records.specs.declared.Noted.{Noted}
use Rattle.records.specs.Happening.{noted, raises}
use Rattle.records.specs.Record.{low-high, record_of, supervised, records_of}
use Rattle.records.specs.Promises.{FirstFive, none, more}
use Rattle.records.proofs.Noting.{noted-event, noted-none}
use Rattle.promises.specs.History.{events}
use Rattle.benches.specs.Benches.{kind_seen, records_seen}
use Rattle.benches.proofs.Shown.{plain, plain_kind}

-- ---- events
pub plain-events : (hs : List Happening) → events (map plain hs) ≡ events hs
plain-events [] = refl
plain-events (h ∷ hs) = ap (λ (es : List Bool). cond h.event (h.errored ∷ es) es) (plain-events hs)

pub events-append : (xs ys : List Happening) → events (xs ++ ys) ≡ events xs ++ events ys
events-append [] ys = refl
events-append (x ∷ xs) ys = ap (λ (es : List Bool). cond x.event (x.errored ∷ es) es) (events-append xs ys) ∙ go x.event
  where
    go : (b : Bool) → cond b (x.errored ∷ (events xs ++ events ys)) (events xs ++ events ys) ≡ cond b (x.errored ∷ events xs) (events xs) ++ events ys
    go true = refl
    go false = refl

-- ---- one record
-- octets 2 to 15
abbrev rest : Happening → ℕ → Bool → List ℕ
rest h count raised = low-high h.length ++ (low-high count ++ (low-high h.good ++ (h.first ++ (worth raised ∷ 0 ∷ 0 ∷ []))))

abbrev seen_of : Happening → ℕ → Bool → List ℕ
seen_of h count raised = kind_seen (kind_number h.kind) ∷ rest h count raised

seen_one : (h : Happening) (count : ℕ) (raised : Bool) (n : ℕ) (others : List ℕ) → length h.first ≡ 5
    → records_seen (suc n) (record_of h count raised ++ others) ≡ seen_of h count raised ∷ records_seen n others
unfolding records_seen record_of
seen_one h count raised n others e =
    let size : length (rest h count raised) ≡ 14 = omega (arith, length-append h.first (worth raised ∷ 0 ∷ 0 ∷ [])) in
    ap₂ (λ (xs ys : List ℕ). (kind_seen (kind_number h.kind) ∷ xs) ∷ records_seen n ys) (take_at (rest h count raised) others 14 size)
    (drop_at (rest h count raised) others 14 size)

plain-kind : (k : RecordKind) → kind_seen (kind_number (plain_kind k)) ≡ kind_seen (kind_number k)
plain-kind kinds.HandedOver = refl
plain-kind kinds.Dropped = refl
plain-kind kinds.Lost = refl
plain-kind kinds.CheckWrong = refl
plain-kind kinds.NotWhole = refl
plain-kind kinds.Short = refl
plain-kind kinds.Long = refl
plain-kind kinds.Abort = refl
plain-kind kinds.Tick = refl

-- the monitor and the alarm rest on the monitor before and on the happening's event alone
noted-plain : (l : Limits) (w v : Supervision) (h : Happening) → w.monitor ≡ v.monitor
    → ((supervised l w h).monitor ≡ (supervised l v (plain h)).monitor) × ((noted l w h).raised ≡ (noted l v (plain h)).raised)
noted-plain l w v h m = go h.event refl
  where
    go : (b : Bool) → h.event ≡ b → ((supervised l w h).monitor ≡ (supervised l v (plain h)).monitor) × ((noted l w h).raised ≡ (noted l v (plain h)).raised)
    go true e =
        let x = noted-event l w h e in
        let y = noted-event l v (plain h) e in (
          ap (λ (n : Noted). n.supervision.monitor) x ∙ ap (λ (k : Monitor). (step l k h.errored).monitor) m ∙ sym (ap (λ (n : Noted). n.supervision.monitor) y),
          ap (λ (n : Noted). n.raised) x ∙ ap (λ (k : Monitor). raises (step l k h.errored).alarm) m ∙ sym (ap (λ (n : Noted). n.raised) y),
        )
    go false e =
        let x = noted-none l w h e in
        let y = noted-none l v (plain h) e in (
          ap (λ (n : Noted). n.supervision.monitor) x ∙ m ∙ sym (ap (λ (n : Noted). n.supervision.monitor) y),
          ap (λ (n : Noted). n.raised) x ∙ sym (ap (λ (n : Noted). n.raised) y),
        )

recorded-plain : (l : Limits) (w v : Supervision) (h : Happening) → w.monitor ≡ v.monitor
    → seen_of h (noted l w h).supervision.monitor.count (noted l w h).raised
    ≡ seen_of (plain h) (noted l v (plain h)).supervision.monitor.count (noted l v (plain h)).raised
recorded-plain l w v h m =
    let n = noted-plain l w v h m in
    ap (λ (k : ℕ). k ∷ rest h (noted l w h).supervision.monitor.count (noted l w h).raised) (sym (plain-kind h.kind))
    ∙ ap₂ (λ (k : Monitor) (b : Bool). seen_of (plain h) k.count b) n.0 n.1

-- ---- records in a row
nothing : (xs ys : List ℕ) → records_seen 0 xs ≡ records_seen 0 ys
unfolding records_seen
nothing xs ys = refl

pub seen_plain : (l : Limits) (hs : List Happening) (w v : Supervision) → FirstFive hs → w.monitor ≡ v.monitor
    → records_seen (length hs) (records_of l w hs) ≡ records_seen (length (map plain hs)) (records_of l v (map plain hs))
unfolding records_of
seen_plain l [] w v none m = nothing [] []
seen_plain l (h ∷ hs) w v (more e es) m =
    seen_one h _ _ (length hs) (records_of l (supervised l w h) hs) e
    ∙ ap₂ {C = List (List ℕ)} (λ x xs. x ∷ xs) (recorded-plain l w v h m) (seen_plain l hs (supervised l w h) (supervised l v (plain h)) es (noted-plain l w v h m).0)
    ∙ sym (seen_one (plain h) _ _ (length (map plain hs)) (records_of l (supervised l v (plain h)) (map plain hs)) e)
