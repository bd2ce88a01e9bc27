use Rattle.std.proofs.Common.{◌-◌, length}
use Rattle.pp_lexer.proofs.characters.PlainCommentsLemmas.{IsBlockSoFar}
use Rattle.pp_lexer.proofs.lexer.plain.comment.block_comment.Given as goal

abbrev pub invariant-characters : goal.invariant-characters
invariant-characters l = IsBlockSoFar l.body l.at l.newlines l.was_star

abbrev pub decreases-characters : goal.decreases-characters
decreases-characters l = length l.body - l.at
