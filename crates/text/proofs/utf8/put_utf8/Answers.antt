-- `text::utf8::put_utf8` meets its contract.
-- Assumes nothing.
use borrow.Author.Rules.{rules}
use Rattle.text.proofs.ByteLaws.{size_1, size_2, size_3, size_4, writes_1, writes_2, writes_3, writes_4}
use Rattle.text.proofs.utf8.put_utf8.Goals as goal

pub bounds-out-at : goal.bounds-out-at
bounds-out-at c = search (size_1, rules)

pub returns-then-value-lt128-clause-value : goal.returns-then-value-lt128-clause-value
returns-then-value-lt128-clause-value c = search (size_1, rules)

pub returns-then-value-lt128-clause-out_after : goal.returns-then-value-lt128-clause-out_after
returns-then-value-lt128-clause-out_after c = search (writes_1, rules)

pub bounds-out-at-then-value-lt2048 : goal.bounds-out-at-then-value-lt2048
bounds-out-at-then-value-lt2048 c = search (size_2, rules)

pub bounds-out-at-then-value-lt2048-2 : goal.bounds-out-at-then-value-lt2048-2
bounds-out-at-then-value-lt2048-2 c = search (size_2, rules)

pub returns-then-value-lt2048-clause-value : goal.returns-then-value-lt2048-clause-value
returns-then-value-lt2048-clause-value c = search (size_2, rules)

pub returns-then-value-lt2048-clause-out_after : goal.returns-then-value-lt2048-clause-out_after
returns-then-value-lt2048-clause-out_after c = search (writes_2, rules)

pub bounds-out-at-then-value-lt65536 : goal.bounds-out-at-then-value-lt65536
bounds-out-at-then-value-lt65536 c = search (size_3, rules)

pub bounds-out-at-then-value-lt65536-2 : goal.bounds-out-at-then-value-lt65536-2
bounds-out-at-then-value-lt65536-2 c = search (size_3, rules)

pub bounds-out-at-then-value-lt65536-3 : goal.bounds-out-at-then-value-lt65536-3
bounds-out-at-then-value-lt65536-3 c = search (size_3, rules)

pub returns-then-value-lt65536-clause-value : goal.returns-then-value-lt65536-clause-value
returns-then-value-lt65536-clause-value c = search (size_3, rules)

pub returns-then-value-lt65536-clause-out_after : goal.returns-then-value-lt65536-clause-out_after
returns-then-value-lt65536-clause-out_after c = search (writes_3, rules)

pub bounds-out-at-2 : goal.bounds-out-at-2
bounds-out-at-2 c = search (size_4, rules)

pub bounds-out-at-3 : goal.bounds-out-at-3
bounds-out-at-3 c = search (size_4, rules)

pub bounds-out-at-4 : goal.bounds-out-at-4
bounds-out-at-4 c = search (size_4, rules)

pub bounds-out-at-5 : goal.bounds-out-at-5
bounds-out-at-5 c = search (size_4, rules)

pub returns-clause-value : goal.returns-clause-value
returns-clause-value c = search (size_4, rules)

pub returns-clause-out_after : goal.returns-clause-out_after
returns-clause-out_after c = search (writes_4, rules)
