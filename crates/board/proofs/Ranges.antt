-- Settings in range and open links that are not malformed, as tests and as facts.
use Prim.Native.Nat.{ℕ, ◌+◌, ◌*◌, ◌≤◌}
use mathlib.Core.Path.{◌≡◌, refl, sym, ap, ◌∙◌}
use mathlib.Core.Bool.{Bool, true, false, not, ◌&&◌, false≢true, cond}
use native.Mathlib.Omega.{arith}
use lib.Dec.{ltb}
use borrow.Author.Tests.{leb-true, leb-false, le-leb, lt-leb, ltb-false, le-ltb, not-false}
use Rattle.std.proofs.lemmas.Bool.{and_parts, or_parts, and_from, or_from}
use Rattle.bits.specs.Format.{basic}
use Rattle.monitor.specs.declared.Mode.{Mode}
use Rattle.monitor.specs.declared.Mode.TheVariants.{Off, Failure, Alignment, Idle}
use Rattle.board.specs.declared.Settings.{Settings}
use Rattle.board.specs.declared.Link.{Link}
use Rattle.board.specs.Limits.{most_count}
use Rattle.board.specs.InnerRanges.{SettingsInRange, CountInRange, WellFormed}
use Rattle.board.specs.Promises.{RangesExactly, WellFormedExactly}
use Rattle.board.specs.Malformed.{within, in_range, line_out, counter_out, count_out, monitor_out, transmitter_out, open_malformed, is_new, malformed}

pub when-open : (l : Link) → l.opened ≡ true → malformed l ≡ open_malformed l
unfolding malformed
when-open l e = ap (λ (b : Bool). cond b (open_malformed l) (not (is_new l))) e

pub when-closed : (l : Link) → l.opened ≡ false → malformed l ≡ not (is_new l)
unfolding malformed
when-closed l e = ap (λ (b : Bool). cond b (open_malformed l) (not (is_new l))) e

-- ---- the settings
within-range : (least most n : ℕ) → within least most n ≡ true → (least ≤ n) × (n ≤ most)
within-range least most n e = let p = and_parts _ _ e in (leb-true least n p.0, leb-true n most p.1)

range-within : (least most n : ℕ) → (least ≤ n) × (n ≤ most) → within least most n ≡ true
range-within least most n h = and_from _ _ (le-leb least n h.0) (le-leb n most h.1)

pub ranges : (s : Settings) → in_range basic s ≡ true → SettingsInRange s
unfolding in_range
ranges s e =
    let a = and_parts _ _ e in
    let d = and_parts _ _ a.0 in
    let t = and_parts _ _ d.0 in
    let n = and_parts _ _ t.0 in
    let m = and_parts _ _ n.0 in
    record {
      k = within-range _ _ s.k m.0;
      m = within-range _ _ s.m m.1;
      n = within-range _ _ s.n n.1;
      t = within-range _ _ s.t t.1;
      d = within-range _ _ s.d d.1;
      a = within-range _ _ s.a a.1;
    }

pub in-range : (s : Settings) → SettingsInRange s → in_range basic s ≡ true
unfolding in_range
in-range s r =
    and_from _ _
    (and_from _ _
    (and_from _ _
    (and_from _ _ (and_from _ _ (range-within _ _ s.k r.k) (range-within _ _ s.m r.m)) (range-within _ _ s.n r.n))
    (range-within _ _ s.t r.t)) (range-within _ _ s.d r.d)) (range-within _ _ s.a r.a)

pub ranges-exactly : RangesExactly
ranges-exactly s = (ranges s, in-range s)

-- ---- the monitor
count-in : (mode : Mode) (s : Settings) (count : ℕ) → count_out mode s count ≡ false → CountInRange s mode count
count-in Failure s count e = leb-false s.t count e
count-in Alignment s count e = leb-false s.a count e
count-in Idle s count e = ltb-false most_count count e
count-in Off s count e = ltb-false most_count count e

count-out : (mode : Mode) (s : Settings) (count : ℕ) → CountInRange s mode count → count_out mode s count ≡ false
count-out Failure s count h = lt-leb s.t count h
count-out Alignment s count h = lt-leb s.a count h
count-out Idle s count h = le-ltb most_count count h
count-out Off s count h = le-ltb most_count count h

-- ---- an open link
none-while : (b : Bool) (n : ℕ) → b && ltb 0 n ≡ false → b ≡ true → n ≡ 0
none-while true n e q = let z = ltb-false 0 n e in omega arith
none-while false n e q = absurd (false≢true q)

none_then : (b : Bool) (n : ℕ) → (b ≡ true → n ≡ 0) → b && ltb 0 n ≡ false
none_then true n h = le-ltb 0 n (omega (arith, h refl))
none_then false n h = refl

not_on : (b : Bool) (n : ℕ) → (b ≡ false → n ≡ 0) → not b && ltb 0 n ≡ false
not_on true n h = refl
not_on false n h = le-ltb 0 n (omega (arith, h refl))

pub well-formed : (l : Link) → l.opened ≡ true → malformed l ≡ false → WellFormed l
unfolding open_malformed line_out counter_out monitor_out transmitter_out
well-formed l o e =
    let f = sym (when-open l o) ∙ e in
    let f6 = or_parts _ _ f in
    let f5 = or_parts _ _ f6.0 in
    let f4 = or_parts _ _ f5.0 in
    let f3 = or_parts _ _ f4.0 in
    let f2 = or_parts _ _ f3.0 in
    let f1 = or_parts _ _ f2.0 in
    let line = or_parts _ _ f2.1 in
    let low = or_parts _ _ line.0 in
    let counter = or_parts _ _ f3.1 in
    let mon = or_parts _ _ f4.1 in
    let send = or_parts _ _ f6.1 in
    let few = or_parts _ _ send.0 in
    record {
      area = not-false _ f1.0;
      settings = ranges l.settings (not-false _ f1.1);
      run = ltb-false 7 l.line.state.run low.0;
      bits = ltb-false (8 * l.settings.m + 7) l.line.state.bits low.1;
      idle = none-while l.line.state.hunting l.line.state.bits line.1;
      counter = (ltb-false l.units.counting.left 1 counter.0, ltb-false l.settings.n l.units.counting.left counter.1);
      monitor =
          record {
            number = leb-false l.settings.d l.supervision.monitor.number mon.0;
            count = count-in l.supervision.monitor.mode l.settings l.supervision.monitor.count mon.1;
          };
      next = leb-false l.settings.k l.units.slots.next f5.1;
      waiting = ltb-false 7 l.transmitter.count few.0;
      unflagged = λ q. none-while (not l.transmitter.flagged) l.transmitter.count few.1 (ap not q);
      wait = not-false _ send.1;
    }

pub not-malformed : (l : Link) → l.opened ≡ true → WellFormed l → malformed l ≡ false
unfolding open_malformed line_out counter_out monitor_out transmitter_out
not-malformed l o w =
    when-open l o
    ∙ or_from _ _
    (or_from _ _
    (or_from _ _
    (or_from _ _
    (or_from _ _ (or_from _ _ (ap not w.area) (ap not (in-range l.settings w.settings)))
    (or_from _ _
    (or_from _ _ (le-ltb 7 l.line.state.run w.run) (le-ltb (8 * l.settings.m + 7) l.line.state.bits w.bits))
    (none_then l.line.state.hunting l.line.state.bits w.idle)))
    (or_from _ _ (le-ltb l.units.counting.left 1 w.counter.0) (le-ltb l.settings.n l.units.counting.left w.counter.1)))
    (or_from _ _ (lt-leb l.settings.d l.supervision.monitor.number w.monitor.number)
    (count-out l.supervision.monitor.mode l.settings l.supervision.monitor.count w.monitor.count)))
    (lt-leb l.settings.k l.units.slots.next w.next))
    (or_from _ _
    (or_from _ _ (le-ltb 7 l.transmitter.count w.waiting) (not_on l.transmitter.flagged l.transmitter.count w.unflagged))
    (ap not w.wait))

pub well-formed-exactly : WellFormedExactly
well-formed-exactly l o = (well-formed l o, not-malformed l o)
