-- `text::latin9::import_latin9` meets its contract.
-- Assumes nothing.
use mathlib.Core.Path.{refl}
use Rattle.text.specs.Latin9.{code_point, point_in, exceptions}
use Rattle.text.proofs.Latin9Laws.{table_is}
use Rattle.text.proofs.latin9.Import.{import_room, import_own, import_written}
use Rattle.text.proofs.latin9.import_latin9.Goals as goal

pub returns-then-n-bytes : goal.returns-then-n-bytes
returns-then-n-bytes c = import_own _ _ c.in_ok-n.ensures c.if-n-bytes.true c.copy_into.ensures

pub put_import-requires : goal.put_import-requires
unfolding code_point point_in exceptions
put_import-requires c = (table_is _ refl, import_room _ _ c.in_ok-n.ensures)

pub returns : goal.returns
returns c = import_written _ _ c.in_ok-n.ensures c.put_import.ensures
