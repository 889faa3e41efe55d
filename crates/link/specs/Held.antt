-- A link with the memory lent to it, from call to call.
use Rattle.std.specs.Prelude.{ℕ, List}
use Rattle.board.specs.declared.Link.{Link}
use Rattle.link.specs.Calls.{hand_answer}

pub record Held : Type 0 where
  pub link : Link
  pub pool : List ℕ
  pub descriptors : List ℕ

-- one slot handed back; handing back one that is not filled is refused and changes nothing
abbrev pub handed_back : Held → ℕ → Held
handed_back h slot =
    let o = hand_answer h.link h.pool h.descriptors slot in record { link = o.link; pool = o.pool; descriptors = o.descriptors }
