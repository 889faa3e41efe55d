-- `wellformed::is_new` meets its contract: the test holds of the new link alone, and does not ask whether the link is open.
use mathlib.Core.Path.{◌≡◌, refl, ◌∙◌}
use mathlib.Core.Bool.{false}
use native.Mathlib.Omega.{arith}
use Rattle.board.specs.declared.Link.{Link}
use Rattle.board.specs.Malformed.{is_new}
use Rattle.board.specs.Promises.{Sized}
use Rattle.board.proofs.NewLink.{new-equally}
use Rattle.wellformed.proofs.is_new.Goals as goal

abbrev closed : Link → Link
closed l =
    record { opened = false; settings = l.settings; line = l.line; units = l.units; supervision = l.supervision; transmitter = l.transmitter }

closed-new : (l : Link) → is_new (closed l) ≡ is_new l
unfolding is_new
closed-new l = refl

pub returns : goal.returns
returns c =
    let l = c.args.link in
    let z : Sized (closed l) = record { mask = omega (arith, c.well_formed); area = omega (arith, c.well_formed); held = omega (arith, c.well_formed); last = omega (arith, c.well_formed) } in
    c.eq.ensures ∙ new-equally (closed l) c.new.result z refl c.new.ensures ∙ closed-new l
