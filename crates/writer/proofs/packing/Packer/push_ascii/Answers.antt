-- `writer::packing::Packer::push_ascii` meets its contract.
-- Assumes nothing.
use native.Mathlib.Omega.{arith}
use Rattle.writer.proofs.packing.Laws.{ascii_one_room, ascii_four_room}
use Rattle.writer.proofs.packing.Packer.push_ascii.Goals as goal

pub push-requires : goal.push-requires
push-requires c = (omega arith, ((omega arith, omega arith), ascii_one_room _ _ _ c.requires.i_in_bounds.0 c.requires.i_in_bounds.1 c.requires.packable_from))

pub push-requires-2 : goal.push-requires-2
push-requires-2 c = (
  omega arith,
  (
    (omega arith, omega arith),
    ascii_four_room _ _ _ c.requires.i_in_bounds.0 c.requires.i_in_bounds.1 c.requires.packable_from
        c.if-text-i-lt4.false c.if-b-gt127.false c.if-c-gt127.false c.if-d-gt127.false,
  ),
)
