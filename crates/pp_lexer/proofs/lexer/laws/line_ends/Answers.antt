use Rattle.pp_lexer.proofs.characters.RisingLemmas.{rising-lines, rising-continued, never_falls}
use Rattle.pp_lexer.proofs.characters.ReplacedLemmas.{rising-replaced}
use Rattle.pp_lexer.proofs.characters.PhaseLemmas.{pair-counts-once, lines-count}
use Rattle.pp_lexer.proofs.lexer.laws.line_ends.Goals as goal

pub returns-clause-pairs : goal.returns-clause-pairs
returns-clause-pairs c = pair-counts-once

pub returns-clause-counted : goal.returns-clause-counted
returns-clause-counted c = lines-count

pub returns-clause-in_order : goal.returns-clause-in_order
returns-clause-in_order c = λ source u. record {
  lines = never_falls 1 0 _ _ (rising-lines source u);
  continuations = never_falls 1 0 _ _ (rising-continued 1 0 _ _ (rising-lines source u));
  comments = never_falls 1 0 _ _ (rising-replaced 1 0 _ _ (rising-continued 1 0 _ _ (rising-lines source u)));
}
