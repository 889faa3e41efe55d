-- `console_numbers::hex_octets` meets its contract: the front of the area is that of the octets.
use Rattle.std.proofs.Common.{◌≡◌, ◌∙◌, sym, ap, arith, ◌<◌, ◌++◌, drop, length, length-take, List, ℕ, Option, Some}
use Rattle.std.specs.Option.{option_map}
use Rattle.console_numbers.specs.Numbers.{at_front, octets_of}
use Rattle.console_numbers.proofs.Front.{start, next, goes_on, done, no_room, room_for, no_octets}
use Rattle.console_numbers.proofs.hex_octets.Goals as goal
use Rattle.console_numbers.proofs.hex_octets.Goals.{in-Some, in_default}

pub returns-in_err-count-clause-value : goal.returns-in_err-count-clause-value
returns-in_err-count-clause-value c = c.from_residual.ensures ∙ ap (option_map (length {A = ℕ})) (sym (no_octets c.args.word.now (length c.args.area.now) c.in_err-count.ensures))

pub returns-in_err-count-clause-after : goal.returns-in_err-count-clause-after
returns-in_err-count-clause-after c = ap (λ (o : Option (List ℕ)). at_front o c.args.area.now) (sym (no_octets c.args.word.now (length c.args.area.now) c.in_err-count.ensures))

pub returns-then-area-count-clause-value : goal.returns-then-area-count-clause-value
returns-then-area-count-clause-value c = ap (option_map (length {A = ℕ})) (sym (no_room c.args.word.now c.in_ok-count.count c.in_ok-count.ensures (length c.args.area.now) c.if-area-count.true))

pub returns-then-area-count-clause-after : goal.returns-then-area-count-clause-after
returns-then-area-count-clause-after c = ap (λ (o : Option (List ℕ)). at_front o c.args.area.now) (sym (no_room c.args.word.now c.in_ok-count.count c.in_ok-count.ensures (length c.args.area.now) c.if-area-count.true))

pub loop-place-init : goal.loop-place-init
loop-place-init c = start c.args.word.now c.in_ok-count.count c.in_ok-count.ensures _

pub loop-place-preserved : goal.loop-place-preserved
loop-place-preserved c =
    let word = c.args.word.now in
    let count = c.in_ok-count.count in
    let l = c.loop-place in
    let below : l.place-index < length l.place-items = omega arith in
    elim c.match-next_octet.branch [
      | in-Some w ↦ rw (w.left-is, w.place-items-is) (next word count c.in_ok-count.ensures l.left.now l.place-items _ l.place-index _ below w.in-Some.ensures l.invariant)
      | in_default w ↦ absurd (goes_on word count c.in_ok-count.ensures l.left.now l.place-items l.place-index below (omega (arith, length-take count c.args.area.now)) w.in_default.ensures l.invariant)
    ]

pub returns-clause-value : goal.returns-clause-value
returns-clause-value c =
    let l = c.loop-place in
    let all : octets_of c.args.word.now ≡ Some l.place-items = done c.args.word.now c.in_ok-count.count c.in_ok-count.ensures l.left.now l.place-items l.place-index (omega arith) (omega (arith, length-take c.in_ok-count.count c.args.area.now)) l.invariant in
    c.in_ok-count.ensures ∙ ap (option_map (length {A = ℕ})) (all ∙ sym (room_for c.args.word.now l.place-items (length c.args.area.now) all (omega (arith, length-take c.in_ok-count.count c.args.area.now))))

pub returns-clause-after : goal.returns-clause-after
returns-clause-after c =
    let l = c.loop-place in
    let area = c.args.area.now in
    let long : length l.place-items ≡ c.in_ok-count.count = omega (arith, length-take c.in_ok-count.count area) in
    let all : octets_of c.args.word.now ≡ Some l.place-items = done c.args.word.now c.in_ok-count.count c.in_ok-count.ensures l.left.now l.place-items l.place-index (omega arith) long l.invariant in
    ap (λ (n : ℕ). l.place-items ++ drop n area) (sym long) ∙ ap (λ (o : Option (List ℕ)). at_front o area) (sym (room_for c.args.word.now l.place-items (length area) all (omega arith)))
