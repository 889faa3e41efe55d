-- `sending::stuffing_table` meets its contract: the literal is the table of the definition, all 1,280 rows computed.
use mathlib.Core.Path.{refl}
use Rattle.bits.specs.Octets.{bits_of, octet_of}
use Rattle.fcs.specs.Table.{table_from}
use Rattle.sending.specs.Rows.{row_of, stuffing_table}
use Rattle.sending.proofs.stuffing_table.Goals as goal

pub returns : goal.returns
unfolding stuffing_table table_from row_of bits_of octet_of
returns c = refl
