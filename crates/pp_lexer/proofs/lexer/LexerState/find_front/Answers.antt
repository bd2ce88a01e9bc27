use Rattle.std.proofs.Common.{arith}
use Rattle.pp_lexer.proofs.characters.PlainFrontsLemmas.{all_plain, cut_after_plain}
use Rattle.pp_lexer.proofs.characters.SpacesLemmas.{space_plain}
use Rattle.pp_lexer.proofs.items.AfterSpacesLemmas.{after_some}
use Rattle.pp_lexer.proofs.lexer.LexerState.find_front.Goals as goal

pub range_from-requires : goal.range_from-requires
range_from-requires c = grind (arith, cut_after_plain, all_plain, space_plain)

pub returns-then-not-begins_comment-clause-front : goal.returns-then-not-begins_comment-clause-front
returns-then-not-begins_comment-clause-front c = grind (arith, after_some)
