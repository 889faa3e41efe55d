-- A closed link is malformed exactly if it isn't the new link.
use Prim.Native.Nat.{ℕ, zero, suc}
use mathlib.Core.Path.{◌≡◌, refl, sym, ap, ◌∙◌}
use mathlib.Core.Bool.{beq, true, false, not, false≢true}
use mathlib.Core.List.{List, [], ◌∷◌}
use lib.Dec.{eqb}
use lib.ListN.{length, get_or, replicate}
use borrow.Author.Tests.{eqb-true, not-true, not-false}
use Rattle.memory.specs.Lent.{zeros}
use Rattle.monitor.specs.declared.Mode.{Mode}
use Rattle.monitor.specs.declared.Mode.TheVariants.{Off, Failure, Alignment, Idle}
use Rattle.board.specs.declared.Settings.{Settings}
use Rattle.board.specs.declared.Gathering.{Gathering}
use Rattle.board.specs.declared.UnitState.{UnitState}
use Rattle.board.specs.declared.Supervision.{Supervision}
use Rattle.board.specs.declared.Transmitter.{Transmitter}
use Rattle.board.specs.declared.Link.{Link}
use Rattle.filter.specs.contracts.MemoryPartialEq.TheImpl as memory
use Rattle.board.specs.contracts.SettingsPartialEq.TheImpl as settings
use Rattle.board.specs.contracts.GatheringPartialEq.TheImpl as line
use Rattle.board.specs.contracts.CountingPartialEq.TheImpl as counting
use Rattle.board.specs.contracts.UnitStatePartialEq.TheImpl as units
use Rattle.board.specs.contracts.SupervisionPartialEq.TheImpl as supervision
use Rattle.board.specs.contracts.TransmitterPartialEq.TheImpl as transmitter
use Rattle.board.specs.contracts.LinkPartialEq.TheImpl as link
use Rattle.std.proofs.Common.{rules}
use Rattle.board.specs.Link.{new_link, clear_area}
use Rattle.board.specs.Malformed.{is_off, numbers, is_new}
use Rattle.board.specs.Promises.{Sized, NewExactly}
use Rattle.board.proofs.Ranges.{when-closed}
use Rattle.std.proofs.lemmas.Bool.{and_parts}
use Rattle.std.specs.Cmp.{both_ways}
use Rattle.memory.proofs.Slots.{zeros-exact}

zero-at : (xs : List ℕ) → zeros xs ≡ true → (i : ℕ) → get_or xs i 0 ≡ 0
unfolding zeros
zero-at [] e i = refl
zero-at (x ∷ xs) e zero = eqb-true x 0 (and_parts (eqb x 0) (zeros xs) e).0
zero-at (x ∷ xs) e (suc i) = zero-at xs (and_parts (eqb x 0) (zeros xs) e).1 i

all-zero : (n : ℕ) (xs : List ℕ) → length xs ≡ n → zeros xs ≡ true → xs ≡ replicate n 0
all-zero n xs l e = (zeros-exact xs).0 e ∙ ap (λ (k : ℕ). replicate k 0) l

is-off : (m : Mode) → is_off m ≡ true → m ≡ Off
is-off Off e = refl
is-off Failure e = absurd (false≢true e)
is-off Alignment e = absurd (false≢true e)
is-off Idle e = absurd (false≢true e)

new-is-new : is_new new_link ≡ true
unfolding is_new zeros clear_area
new-is-new = refl

only-new : (l : Link) → Sized l → l.opened ≡ false → is_new l ≡ true → l ≡ new_link
unfolding is_new clear_area
only-new l z o e =
    let p11 = and_parts _ _ e in
    let p10 = and_parts _ _ p11.0 in
    let p9 = and_parts _ _ p10.0 in
    let p8 = and_parts _ _ p9.0 in
    let p7 = and_parts _ _ p8.0 in
    let p6 = and_parts _ _ p7.0 in
    let p5 = and_parts _ _ p6.0 in
    let p4 = and_parts _ _ p5.0 in
    let p3 = and_parts _ _ p4.0 in
    let p2 = and_parts _ _ p3.0 in
    let p1 = and_parts _ _ p2.0 in
    let a3 = and_parts _ _ p1.1 in
    let a2 = and_parts _ _ a3.0 in
    let a1 = and_parts _ _ a2.0 in
    let n : (i : ℕ) → get_or (numbers l) i 0 ≡ 0 = zero-at (numbers l) p1.0 in
    let mask : l.settings.mask ≡ replicate 5 0 = all-zero 5 _ z.mask a1.0 in
    let area : l.line.area ≡ replicate 279 0 = all-zero 279 _ z.area a1.1 in
    let held : l.units.memory.octets ≡ replicate 5 0 = all-zero 5 _ z.held a2.1 in
    let last : l.transmitter.last ≡ replicate 2 0 = all-zero 2 _ z.last a3.1 in
    let run : l.line.state.run ≡ 7 = eqb-true _ _ p2.1 in
    let mode : l.supervision.monitor.mode ≡ Off = is-off _ p4.1 in
    let filter : l.settings.filter ≡ false = not-true _ p5.1 in
    let itu : l.settings.itu ≡ false = not-true _ p6.1 in
    let orn : l.settings.orn ≡ false = not-true _ p7.1 in
    let on : l.units.counting.on ≡ false = not-true _ p8.1 in
    let alike : l.units.memory.alike ≡ false = not-true _ p9.1 in
    let flagged : l.transmitter.flagged ≡ false = not-true _ p10.1 in
    let sent : l.transmitter.sent ≡ false = not-true _ p11.1 in
    λ i.
    record {
      opened = o i;
      settings = record { k = n 0 i; m = n 1 i; n = n 2 i; t = n 3 i; d = n 4 i; a = n 5 i; mask = mask i; filter = filter i; itu = itu i; orn = orn i };
      line = record { state = record { run = run i; hunting = p3.1 i; bits = n 6 i }; area = area i };
      units =
          record {
            counting = record { on = on i; left = n 7 i };
            memory = record { length = n 10 i; octets = held i; alike = alike i };
            slots = record { next = n 11 i };
            counts = record { good = n 12 i; over = n 13 i; dropped = n 14 i; lost = n 15 i };
          };
      supervision = record { monitor = record { mode = mode i; count = n 8 i; number = n 9 i }; events = n 16 i };
      transmitter = record { flagged = flagged i; count = n 17 i; wait = n 18 i; sent = sent i; last = last i };
    }

pub new-exactly : NewExactly
new-exactly l z o = (
  λ e. only-new l z o (not-false _ (sym (when-closed l o) ∙ e)),
  λ e. when-closed l o ∙ ap (λ (x : Link). not (is_new x)) e ∙ ap not new-is-new,
)

-- ---- `==` of links
settings-equal : (a b : Settings) → settings.ghosts.eq a b ≡ true → a ≡ b
settings-equal a b e =
    let p1 = and_parts (eqb a.k b.k) _ e in
    let p2 = and_parts (eqb a.m b.m) _ p1.1 in
    let p3 = and_parts (eqb a.n b.n) _ p2.1 in
    let k : a.k ≡ b.k = search (rules, p1.0) in
    let m : a.m ≡ b.m = search (rules, p2.0) in
    let n : a.n ≡ b.n = search (rules, p3.0) in
    let t : a.t ≡ b.t = search (rules, p3.1) in
    let d : a.d ≡ b.d = search (rules, p3.1) in
    let q : a.a ≡ b.a = search (rules, p3.1) in
    let mask : a.mask ≡ b.mask = search (rules, p3.1) in
    let filter : a.filter ≡ b.filter = search (rules, p3.1) in
    let itu : a.itu ≡ b.itu = search (rules, p3.1) in
    let orn : a.orn ≡ b.orn = search (rules, p3.1) in
    λ i. record { k = k i; m = m i; n = n i; t = t i; d = d i; a = q i; mask = mask i; filter = filter i; itu = itu i; orn = orn i }

line-equal : (a b : Gathering) → line.ghosts.eq a b ≡ true → a ≡ b
line-equal a b e = search rules

units-equal : (a b : UnitState) → units.ghosts.eq a b ≡ true → a ≡ b
units-equal a b e =
    let p1 = and_parts (counting.ghosts.eq a.counting b.counting) _ e in
    let p2 = and_parts (memory.ghosts.eq a.memory b.memory) _ p1.1 in
    let p3 = and_parts (eqb a.slots.next b.slots.next) _ p2.1 in
    let q1 : a.counting ≡ b.counting = search (rules, p1.0) in
    let q2 : a.memory ≡ b.memory = search (rules, p2.0) in
    let q3 : a.slots ≡ b.slots = search (rules, p3.0) in
    let q4 : a.counts ≡ b.counts = search (rules, p3.1) in
    λ i. record { counting = q1 i; memory = q2 i; slots = q3 i; counts = q4 i }

supervision-equal : (a b : Supervision) → supervision.ghosts.eq a b ≡ true → a ≡ b
supervision-equal a b e = search rules

transmitter-equal : (a b : Transmitter) → transmitter.ghosts.eq a b ≡ true → a ≡ b
transmitter-equal a b e = search rules

equal : (l m : Link) → link.ghosts.eq l m ≡ true → l ≡ m
equal l m e =
    let p1 = and_parts (beq l.opened m.opened) _ e in
    let p2 = and_parts (settings.ghosts.eq l.settings m.settings) _ p1.1 in
    let p3 = and_parts (line.ghosts.eq l.line m.line) _ p2.1 in
    let p4 = and_parts (units.ghosts.eq l.units m.units) _ p3.1 in
    let p5 = and_parts (supervision.ghosts.eq l.supervision m.supervision) _ p4.1 in
    let q1 : l.opened ≡ m.opened = search (rules, p1.0) in
    let q2 = settings-equal _ _ p2.0 in
    let q3 = line-equal _ _ p3.0 in
    let q4 = units-equal _ _ p4.0 in
    let q5 = supervision-equal _ _ p5.0 in
    let q6 = transmitter-equal _ _ p5.1 in
    λ i. record { opened = q1 i; settings = q2 i; line = q3 i; units = q4 i; supervision = q5 i; transmitter = q6 i }

new-equal : link.ghosts.eq new_link new_link ≡ true
unfolding clear_area
new-equal = refl

pub new-equally : (l n : Link) → Sized l → l.opened ≡ false → n ≡ new_link → link.ghosts.eq l n ≡ is_new l
new-equally l n z o e =
    let to : link.ghosts.eq l n ≡ true → is_new l ≡ true = λ (q : link.ghosts.eq l n ≡ true). ap is_new (equal l n q ∙ e) ∙ new-is-new in
    let from : is_new l ≡ true → link.ghosts.eq l n ≡ true = λ (q : is_new l ≡ true). rw (only-new l z o q, e) new-equal in
    both_ways (link.ghosts.eq l n) (is_new l) to from
