-- Parts of the replacement of comments, under names of their own.
use Rattle.std.specs.Prelude.{ℕ, if◌then◌else◌}
use Rattle.pp_lexer.specs.Cursor.{Placed}
use Rattle.pp_lexer.specs.Cut.{Part, is_empty}
use Rattle.pp_lexer.specs.Comments.{mark}

-- the mark of a comment; a part of one character is no comment, since a comment has at least two
abbrev pub stand_in : ℕ → Part Placed → Placed
stand_in total part = if is_empty part.others then part.first else mark total part
