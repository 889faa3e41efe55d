-- Nothing is lost on the way from a link to a host's fields and back.
use Prim.Native.Nat.{ℕ}
use mathlib.Core.Path.{◌≡◌, refl}
use mathlib.Core.Bool.{Bool, true, false, not}
use native.Mathlib.Omega.{arith}
use Rattle.std.proofs.Math.Bool.{or-true}
use Rattle.std.proofs.lemmas.Bool.Decides.{nat_tests}
use Rattle.monitor.specs.declared.Mode.{Mode}
use Rattle.monitor.specs.declared.Mode.TheVariants.{Off, Failure, Alignment, Idle}
use Rattle.board.specs.Link.{new_link}
use Rattle.board.specs.Malformed.{zero_past, in_range, open_malformed, malformed}
use Rattle.host_link.specs.Crossing.{is_switch, switch_of, of_switch, is_mode, mode_of, of_mode, given_settings, readable, unread_link, from_host}
use Rattle.host_promises.specs.Crossing.{LinkAndBack, FieldsAndBack, UnreadIsMalformed, NoSwitchNoRange}

switch-and-back : (b : Bool) → switch_of (of_switch b) ≡ b
switch-and-back true = refl
switch-and-back false = refl

is-switch : (b : Bool) → is_switch (of_switch b) ≡ true
is-switch true = refl
is-switch false = refl

number-and-back : (n : ℕ) → is_switch n ≡ true → of_switch (switch_of n) ≡ n
number-and-back n e = grind (arith, nat_tests)

mode-and-back : (m : Mode) → mode_of (of_mode m) ≡ m
mode-and-back Off = refl
mode-and-back Failure = refl
mode-and-back Alignment = refl
mode-and-back Idle = refl

is-mode : (m : Mode) → is_mode (of_mode m) ≡ true
is-mode Off = refl
is-mode Failure = refl
is-mode Alignment = refl
is-mode Idle = refl

mode-number-and-back : (n : ℕ) → is_mode n ≡ true → of_mode (mode_of n) ≡ n
mode-number-and-back n e = grind (arith, nat_tests)

pub link-and-back : LinkAndBack
unfolding from_host readable
link-and-back l = simp (is-switch, is-mode, switch-and-back, mode-and-back)

pub fields-and-back : FieldsAndBack
unfolding from_host readable
fields-and-back h e = grind (arith, number-and-back, mode-number-and-back)

-- its K is 0
unread : malformed unread_link ≡ true
unfolding malformed open_malformed in_range
unread = rw (or-true (not (zero_past new_link.line.state.bits new_link.line.area)))

pub unread-is-malformed : UnreadIsMalformed
unfolding from_host
unread-is-malformed h e = rw e unread

pub no-switch-no-range : NoSwitchNoRange
unfolding given_settings in_range
no-switch-no-range s e = rw e
