-- The characters of a source after the phases.
use Rattle.std.specs.Prelude.{ℕ, List, length}
use Rattle.std.specs.Str.{chars}
use Rattle.pp_lexer.specs.Lines.{lines}
use Rattle.pp_lexer.specs.Continuations.{continued}
use Rattle.pp_lexer.specs.Comments.{replaced}
use Rattle.pp_lexer.specs.declared.lexer.char_iterator.Spot.{Spot}
use Rattle.pp_lexer.specs.Reading.{spots}

abbrev pub spots_of : List ℕ → List Spot
spots_of text = spots 0 (replaced (length text) (continued (lines (chars text))))
