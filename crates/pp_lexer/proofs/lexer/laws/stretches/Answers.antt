use Rattle.std.proofs.Common.{◌∙◌}
use Rattle.pp_lexer.proofs.characters.RisingLemmas.{rising-lines, rising-continued, stretches_follow}
use Rattle.pp_lexer.proofs.characters.ReplacedLemmas.{rising-replaced, last_end-replaced}
use Rattle.pp_lexer.proofs.characters.PhaseLemmas.{last_end-lines, last_end-continued}
use Rattle.pp_lexer.proofs.lexer.laws.stretches.Goals as goal

pub returns : goal.returns
returns c = λ source u. record {
  lines_follow = stretches_follow 1 0 _ _ (rising-lines source u);
  lines_end = last_end-lines source u;
  continuations_follow = stretches_follow 1 0 _ _ (rising-continued 1 0 _ _ (rising-lines source u));
  continuations_end = λ e. last_end-continued 0 _ e ∙ last_end-lines source u;
  comments_follow = stretches_follow 1 0 _ _ (rising-replaced 1 0 _ _ (rising-continued 1 0 _ _ (rising-lines source u)));
  comments_end = λ e. last_end-replaced 0 _ _ (last_end-continued 0 _ e ∙ last_end-lines source u);
}
