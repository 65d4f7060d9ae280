-- `printing::output::Output::put_part`: the text goes to the part of the buffer that is free, where it has room.
-- Assumes nothing.
use native.Mathlib.Omega.{arith}
use Rattle.printing.proofs.OutputLaws.{added}
use Rattle.printing.proofs.lines.Laws.{part_most}
use Rattle.printing.proofs.output.Output.put_part.Goals as goal

pub returns : goal.returns
returns g c =
    let r = c.make_room.ensures in
    added _ _ _ _ _ (omega (arith, part_most c.args.part)) r.place r.kept r.room c.write_part.ensures c.unwrap_or-n.ensures
