-- `history::run_edits` meets its contract.
-- Assumes nothing.
use borrow.Author.Rules.{rules}
use Rattle.history.proofs.HistoryLaws.{run_begins, run_done, run_refused}
use Rattle.history.proofs.run_edits.Goals as goal

pub run_all-n-requires : goal.run_all-n-requires
run_all-n-requires c =
    let b = c.in_ok-build_string_filewrapper_metadata.ensures in run_begins _ b.reply b.buffer _ _ _

pub returns-in_err-build_string_filewrapper_metadata : goal.returns-in_err-build_string_filewrapper_metadata
returns-in_err-build_string_filewrapper_metadata c =
    let b = c.in_err-build_string_filewrapper_metadata.ensures in run_refused _ _ b.reply b.buffer _ _ _ _ _ _ c.from_residual.ensures

pub returns : goal.returns
returns c =
    let b = c.in_ok-build_string_filewrapper_metadata.ensures in
    run_done _ b.reply b.buffer _ _ _ c.run_all-n.ensures.ends (search rules) (search rules) (search rules) (search rules)
