-- `reader::string_objects::choose_property` meets its contract.
-- Assumes nothing.
use Rattle.reader.proofs.string_objects.Laws.{choose_none, choose_inside, choose_named}
use Rattle.reader.proofs.string_objects.choose_property.Goals as goal

pub returns-then-triples-eq0 : goal.returns-then-triples-eq0
returns-then-triples-eq0 c = choose_none c.in_ok-triples.ensures c.if-triples-eq0.true

pub get-requires : goal.get-requires
get-requires c = choose_inside c.in_ok-triples.ensures c.if-triples-eq0.false c.first_named.ensures c.unwrap_or-any.ensures

pub returns : goal.returns
returns c = choose_named c.in_ok-triples.ensures c.if-triples-eq0.false c.first_named.ensures c.unwrap_or-any.ensures c.get.ensures
