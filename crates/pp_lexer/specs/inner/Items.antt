-- Parts of the items of a text, under names of their own.
use Rattle.std.specs.Prelude.{List}
use Rattle.pp_lexer.specs.Items.{Item, item_at}
use Rattle.pp_lexer.specs.Segments.{Segment}
use Rattle.pp_lexer.specs.Surroundings.{Surrounded}

-- the item of a segment, by the segments before it
abbrev pub item_of : Surrounded Segment → List Item
item_of s = item_at s.before s.here s.here.kind
