-- `writer::string_object::put_payload` meets its contract.
-- Assumes nothing.
use Rattle.writer.proofs.string_object.Payload.{size, dims_put, strings_fit, payload_put}
use borrow.Author.Rules.{rules}
use Rattle.writer.proofs.string_object.put_payload.Goals as goal

pub bounds-words-0 : goal.bounds-words-0
bounds-words-0 c = let h = size _ c.requires in search rules

pub bounds-words-1 : goal.bounds-words-1
bounds-words-1 c = let h = size _ c.requires in search rules

pub slice_bounds-put_strings-count : goal.slice_bounds-put_strings-count
slice_bounds-put_strings-count c = let h = size _ c.requires in search rules

pub slice_bounds-put_strings-start : goal.slice_bounds-put_strings-start
slice_bounds-put_strings-start c = let h = size _ c.requires in search rules

pub put_strings-requires : goal.put_strings-requires
put_strings-requires c = strings_fit _ c.requires (dims_put _ c.requires c.copy_into.ensures)

pub returns : goal.returns
returns c = payload_put _ c.requires (dims_put _ c.requires c.copy_into.ensures) c.put_strings.ensures
