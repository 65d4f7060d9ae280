-- `text::latin9::code_point` meets its contract: the table is the rule's values, by computing both.
-- Assumes nothing.
use mathlib.Core.Path.{refl}
use Rattle.text.specs.Latin9.{exceptions, point_in, code_point}
use Rattle.text.proofs.Latin9Laws.{table_is}
use Rattle.text.proofs.latin9.code_point.Goals as goal

pub point_in-requires : goal.point_in-requires
unfolding code_point point_in exceptions
point_in-requires c = table_is _ refl
