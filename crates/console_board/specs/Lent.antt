-- "`size` fixes how much of an area is lent from then on [..]; with `size auto`, as at the start, each call is lent just what it asks for (280K octets
-- and 2K words for the K given or held, a full record and output area)": the front of each area.
use Rattle.std.specs.Prelude.{ℕ, ◌*◌, min, Option, Some, None, List, length}
use Rattle.bits.specs.Format.{basic}
use Rattle.console_board.specs.declared.Sizes.{Sizes}

abbrev pub auto : Sizes
auto = record { pool = None; descriptors = None; records = None; output = None }

-- the size that is fixed, or what is asked for
abbrev pub wanted : Option ℕ → ℕ → ℕ
wanted (Some n) asked = n
wanted None asked = asked

-- and not more than there is
unfoldable pub lent_of : Option ℕ → ℕ → ℕ → ℕ
lent_of size asked most = min (wanted size asked) most

-- for k slots
abbrev pub pool_lent : Sizes → ℕ → List ℕ → ℕ
pool_lent s k pool = lent_of s.pool (basic.slot * k) (length pool)

abbrev pub words_lent : Sizes → ℕ → List ℕ → ℕ
words_lent s k descriptors = lent_of s.descriptors (2 * k) (length descriptors)

-- an area that is asked for whole
abbrev pub all_lent : Option ℕ → List ℕ → ℕ
all_lent size area = lent_of size (length area) (length area)
