use Rattle.std.proofs.Common.{refl}
use Rattle.uses.proofs.Pages.{none_written}
use Rattle.uses.proofs.highlighter.highlight.Goals as goal
use Rattle.uses.proofs.highlighter.highlight.Goals.{in-Some+in_ok-mark_tokens, in_default}

pub mark_tokens-requires : goal.mark_tokens-requires
mark_tokens-requires c = none_written _ c.utf8.source refl c.new.ensures.bytes

pub push_gap-requires : goal.push_gap-requires
push_gap-requires c = elim c.match-try_new.branch [
  | in-Some+in_ok-mark_tokens w ↦ rw w.page-is w.in_ok-mark_tokens.ensures.written
  | in_default w ↦ rw w.page-is (none_written _ c.utf8.source refl c.new.ensures.bytes)
]
