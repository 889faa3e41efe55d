-- `text::Hex` prints its octets: so far the digits of those before this one.
use Rattle.std.proofs.Common.{sym, subst, rules, get_or, false, Some, ◌≡◌}
use Rattle.std.specs.Fmt.{styled_digits_output, DisplaysOnOk}
use Rattle.std.proofs.Output.{has_written_append, has_written_of_eq}
use Rattle.std.proofs.lemmas.Fmt.{hex_byte}
use Rattle.text.specs.Hex.{two_digits}
use Rattle.text.proofs.Digits.{none, all, more}
use Rattle.text.proofs.HexDisplay.fmt.Goals as goal

pub returns-then-is_empty-clause-writes : goal.returns-then-is_empty-clause-writes
returns-then-is_empty-clause-writes g c plain ok =
    has_written_of_eq _ _ _ _ _ (sym (none c.args.self.now.0.now (search rules))) (c.write_str.ensures.writes plain ok)

pub loop-octet-preserved : goal.loop-octet-preserved
loop-octet-preserved g c plain =
    let before = c.loop-octet.invariant plain in
    let i = c.loop-octet.octet-index in
    let octet = get_or c.args.self.now.0.now i 0 in
    let digits : styled_digits_output c.in_radix.result c.laid_out.result ≡ Some (two_digits octet) =
    rw (c.laid_out.ensures, c.in_radix.ensures, hex_byte false octet (search rules)) in
    let digits-after = subst (λ o. DisplaysOnOk g.W.Write.write_str_gives c.loop-octet.f c.write.result o c.write.new.self) digits c.write.ensures.writes before.plain (search rules) in
    has_written_of_eq _ _ _ _ _ (more c.args.self.now.0.now i (search rules)) (has_written_append _ _ _ _ _ _ before digits-after)

pub returns-clause-writes : goal.returns-clause-writes
returns-clause-writes g c plain _ =
    has_written_of_eq _ _ _ _ _ (all c.args.self.now.0.now c.loop-octet.octet-index (search rules) (search rules)) (c.loop-octet.invariant plain)
