-- `reader::names::shown_size` meets its contract.
-- Assumes nothing.
use Rattle.reader.proofs.NameLaws.{shown_size}
use Rattle.reader.proofs.names.shown_size.Goals as goal

pub returns : goal.returns
returns c = shown_size _ c.requires c.lossy_length.ensures _ c.unwrap_or_default.ensures
