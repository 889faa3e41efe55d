-- `octets::row_table` meets its contract: the literal is the table of the definition, all 2,048 rows computed.
use mathlib.Core.Path.{refl}
use Rattle.bits.specs.Octets.{bits_of, octet_of}
use Rattle.fcs.specs.Table.{table_from}
use Rattle.octets.specs.Rows.{plain, row_of, row_table}
use Rattle.octets.proofs.row_table.Goals as goal

pub returns : goal.returns
unfolding row_table table_from row_of plain bits_of octet_of
returns c = refl
