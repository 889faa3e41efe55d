-- The console's board with its memory, and what a line does to it and prints.
use Rattle.std.specs.Prelude.{ℕ, List, ◌++◌, Result, Ok, Err}
use Rattle.board.specs.declared.Link.{Link}
use Rattle.board.specs.Link.{new_link}
use Rattle.link.specs.declared.Refusal.{Refusal}
use Rattle.link.specs.declared.Counted.{Counted}
use Rattle.console_board.specs.declared.Sizes.{Sizes}
use Rattle.console_board.specs.Lent.{auto}
use Rattle.console_calls.specs.declared.Board.{Board}

abbrev pub new_board : Board
new_board = record { link = new_link; sizes = auto }

pub record Console : Type 0 where
  pub link : Link
  pub sizes : Sizes
  pub pool : List ℕ
  pub descriptors : List ℕ
  pub records : List ℕ
  pub output : List ℕ

abbrev pub console_of : Board → List ℕ → List ℕ → List ℕ → List ℕ → Console
console_of b pool descriptors records output =
    record { link = b.link; sizes = b.sizes; pool = pool; descriptors = descriptors; records = records; output = output }

-- the console after a line, and what the line prints
pub record Printed : Type 0 where
  pub console : Console
  pub text : List ℕ

abbrev pub printed : Console → List ℕ → Printed
printed c text = record { console = c; text = text }

-- what is printed stands behind a text
abbrev pub after_text : List ℕ → Printed → Printed
after_text before p = record { console = p.console; text = before ++ p.text }

-- the link and the count of a call, and none where it is refused
abbrev pub counted_or : Link → Result Counted Refusal → Counted
counted_or l (Ok counted) = counted
counted_or l (Err refusal) = record { link = l; count = 0 }
