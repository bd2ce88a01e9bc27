use Rattle.std.proofs.Common.{◌≡◌, [], true, false}
use Rattle.pp_model.specs.Emitting.{expansion_limit}
use Rattle.pp_macros.specs.inner.Idle.{is_idle}
use Rattle.pp_macros.specs.inner.Left.{work_of}
use Rattle.pp_macros.specs.inner.Reader.{of_source}
use Rattle.pp_directives.specs.inner.PlainText.{IsInText}
use Rattle.pp_rs.proofs.runs.NextLemmas.{Reached}
use Rattle.pp_rs.proofs.pp.preprocessor.Preprocessor.next_word.Given as goal

-- a newline keeps what comes next, and lowers what is left to do
abbrev pub invariant-words : goal.invariant-words
invariant-words l = record {
  unspent : l.self-inside.spent ≡ false;
  placed : l.self-inside.place ≡ l.fn.self.place;
  ruled : l.self-inside.rules ≡ l.fn.self.rules;
  alone : l.self-inside.expander.below ≡ [];
  idle : is_idle l.self-inside.expander.here ≡ true;
  text : IsInText l.self-inside.source;
  reached : Reached l.self-inside.rules l.fn.self.expander l.fn.self.source l.self-inside.expander.here l.self-inside.source;
}

abbrev pub decreases-words : goal.decreases-words
decreases-words l = work_of expansion_limit l.self-inside.expander.here (of_source l.self-inside.source)
