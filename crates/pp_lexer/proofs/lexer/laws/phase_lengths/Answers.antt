use Rattle.pp_lexer.proofs.characters.ReplacedLemmas.{length-replaced}
use Rattle.pp_lexer.proofs.characters.PhaseLemmas.{length-lines, length-continued}
use Rattle.pp_lexer.proofs.lexer.laws.phase_lengths.Goals as goal

pub returns : goal.returns
returns c = λ source u. record {
  lines = length-lines source u;
  continuations = length-continued _;
  comments = length-replaced _ _;
}
