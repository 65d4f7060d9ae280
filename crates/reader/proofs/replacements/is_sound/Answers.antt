-- `reader::replacements::is_sound` meets its contract.
-- Assumes nothing.
use Rattle.reader.proofs.replacements.Laws.{sound_none, sound_begins, sound_whole}
use borrow.Author.Rules.{rules}
use Rattle.reader.proofs.replacements.is_sound.Goals as goal

pub returns-then-metadata-eq0 : goal.returns-then-metadata-eq0
returns-then-metadata-eq0 c = search (sound_none, rules)

pub heap_at-requires : goal.heap_at-requires
heap_at-requires c = search (sound_begins, rules)

pub returns : goal.returns
returns c = search (sound_whole, rules)
