-- The refusals of send and fill.
use mathlib.Core.Path.{refl}
use Rattle.link.specs.Tables.{rising}
use Rattle.link.proofs.Answers.{refused}
use Rattle.output.specs.Output.{send_answer, fill_answer}
use Rattle.transmission.specs.Promises.{OutputRises, RefusedSend, RefusedFill}

pub output-rises : OutputRises
unfolding rising
output-rises l content output = (refl, refl)

pub refused-send : RefusedSend
unfolding send_answer
refused-send l content output z = refused _ _ _ z

pub refused-fill : RefusedFill
unfolding fill_answer
refused-fill l output z = refused _ _ _ z
