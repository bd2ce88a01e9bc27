use Rattle.std.proofs.Common.{◌≡◌, length}
use Rattle.pp_lexer.specs.CommentPlaces.{marks_from}
use Rattle.pp_lexer.proofs.lexer.comments.next_comment.Given as goal

-- the characters passed hold no mark
abbrev pub invariant-characters : goal.invariant-characters
invariant-characters l = marks_from l.inner.offset l.inner.rest ≡ marks_from l.fn.inner.offset l.fn.inner.rest

abbrev pub decreases-characters : goal.decreases-characters
decreases-characters l = length l.inner.rest
