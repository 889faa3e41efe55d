-- A booking with settings in range opens on wiped memory of its slots.
use Prim.Native.Nat.{ℕ, ◌*◌}
use mathlib.Core.Path.{◌≡◌, ◌∙◌}
use mathlib.Core.Bool.{true}
use mathlib.Core.List.{[], ◌∷◌}
use lib.ListN.{length-replicate}
use Rattle.bits.specs.Format.{basic}
use Rattle.memory.proofs.Slots.{zeros-replicate}
use Rattle.board.specs.declared.Settings.{Settings}
use Rattle.board.specs.Link.{new_link}
use Rattle.board.specs.Malformed.{in_range}
use Rattle.link.specs.Refusals.{first}
use Rattle.link.specs.Calls.{opened_link}
use Rattle.readback.proofs.Using.{lent}
use Rattle.calls.specs.Call.{answer, link_after, faults}
use Rattle.calls.specs.Lending.{opening}
use Rattle.promises.proofs.Answering.{number_is, link-done}
use Rattle.promises.proofs.Holding.{holds-new}

module _ (s : Settings) (range : in_range basic s ≡ true) where
  pub no-fault : first (faults new_link (opening s)) ≡ 0
  unfolding first
  no-fault =
      rw (
        holds-new.formed,
        range,
        lent s.k _ _ (length-replicate {A = ℕ} (basic.slot * s.k) 0) (length-replicate {A = ℕ} (2 * s.k) 0),
        zeros-replicate (basic.slot * s.k),
        zeros-replicate (2 * s.k),
      )

  pub opening-answered : (answer new_link (opening s)).number ≡ 0
  opening-answered = number_is new_link (opening s) ∙ no-fault

  pub opening-link : (answer new_link (opening s)).link ≡ opened_link s
  opening-link = link-done new_link (opening s) no-fault

  pub opened-first : link_after (opening s ∷ []) ≡ opened_link s
  unfolding link_after
  opened-first = opening-link
