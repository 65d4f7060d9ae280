-- `reader::classes::class_name` meets its contract.
-- Assumes nothing.
use Rattle.reader.specs.Queries.{class_text}
use Rattle.reader.proofs.NameLaws.{refused, text_by}
use Rattle.reader.proofs.classes.class_name.Goals as goal

pub returns-in_err-open : goal.returns-in_err-open
unfolding class_text
returns-in_err-open c = refused _ _ _ _ c.from_residual.ensures (rw (← c.in_err-open.ensures.0))

pub returns : goal.returns
unfolding class_text
returns c = text_by (rw (← c.in_ok-open.ensures.0, c.in_ok-open.ensures.1)) c.write_class.ensures
