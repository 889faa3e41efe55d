-- The two ways of a happening: one that is an event, and one that is none.
use mathlib.Core.Path.{◌≡◌}
use mathlib.Core.Bool.{true, false}
use lib.Bits.{bit_or}
use Rattle.monitor.specs.declared.Limits.{Limits}
use Rattle.monitor.specs.Monitor.{step}
use Rattle.records.specs.declared.Happening.{Happening}
use Rattle.board.specs.declared.Supervision.{Supervision}
use Rattle.records.specs.Happening.{noted_step, noted}

module _ (l : Limits) (w : Supervision) (h : Happening) where
  pub noted-event : h.event ≡ true → noted l w h ≡ noted_step (bit_or w.events h.bits) (step l w.monitor h.errored)
  unfolding noted
  noted-event e = rw e

  pub noted-none :
      h.event ≡ false
      → noted l w h ≡ record { supervision = record { monitor = w.monitor; events = bit_or w.events h.bits }; raised = false }
  unfolding noted
  noted-none e = rw e
