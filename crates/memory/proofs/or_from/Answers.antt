-- `memory::or_from` meets its contract: all octets from there on or-ed decide.
use Rattle.std.proofs.Common.{rules, ◌≡◌, ◌-◌, bit_or, take, drop, length}
use Rattle.std.specs.List.{fold}
use Rattle.memory.proofs.Loops.{or_fold}
use Rattle.memory.proofs.Places.{from-on}
use Rattle.memory.proofs.or_from.Goals as goal

pub returns : goal.returns
returns c =
    let l = c.args.octets.now in
    let m = c.min.result in
    let e : c.fold.result ≡ fold bit_or 0 (take (length l - m) (drop m l)) = search rules in
    rw (e, from-on l c.args.from m c.min.ensures) (or_fold 0 (drop c.args.from l))
