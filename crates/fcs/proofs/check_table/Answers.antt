-- `fcs::check_table` meets its contract: the words are computed, one after the other.
use mathlib.Core.Path.{refl}
use Rattle.fcs.specs.Table.{table_from, check_table}
use Rattle.fcs.proofs.check_table.Goals as goal

pub returns : goal.returns
unfolding table_from check_table
returns c = refl
