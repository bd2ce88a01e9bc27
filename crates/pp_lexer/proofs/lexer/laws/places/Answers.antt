use Rattle.std.proofs.Common.{arith}
use Rattle.pp_lexer.specs.PhaseLaws.{replaced_of}
use Rattle.pp_lexer.proofs.characters.RisingLemmas.{rising-lines, rising-continued, stretches_follow}
use Rattle.pp_lexer.proofs.characters.ReplacedLemmas.{rising-replaced}
use Rattle.pp_lexer.proofs.characters.PhaseLemmas.{length-replaced_of}
use Rattle.pp_lexer.proofs.items.PlacesLemmas.{items_within}
use Rattle.pp_lexer.proofs.items.TokenLinesLemmas.{tokens_have_lines}
use Rattle.pp_lexer.specs.Spots.{spots_of}
use Rattle.pp_lexer.proofs.items.ItemPlacesLemmas.{places_of_items}
use Rattle.pp_lexer.proofs.items.CountLemmas.{length-items_of}
use Rattle.pp_lexer.proofs.lexer.laws.places.Goals as goal

pub returns-clause-within : goal.returns-clause-within
returns-clause-within c = λ rules source u. items_within rules 0 _ _
    (stretches_follow 1 0 _ _ (rising-replaced 1 0 _ _ (rising-continued 1 0 _ _ (rising-lines source u))))

pub returns-clause-lines : goal.returns-clause-lines
returns-clause-lines c = tokens_have_lines

pub returns-clause-finite : goal.returns-clause-finite
returns-clause-finite c = λ rules source u. omega (arith, length-items_of rules 0 (replaced_of source), length-replaced_of source u)

pub returns-clause-of_items : goal.returns-clause-of_items
returns-clause-of_items c = λ rules source. places_of_items rules (spots_of source)
