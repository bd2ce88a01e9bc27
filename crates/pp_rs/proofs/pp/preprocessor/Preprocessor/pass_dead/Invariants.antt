use Rattle.std.proofs.Common.{◌≡◌, ◌<◌, [], true, false}
use Rattle.std.specs.Prelude.{MatchBool}
use Rattle.pp_model.specs.Emitting.{expansion_limit}
use Rattle.pp_macros.specs.inner.Idle.{is_idle}
use Rattle.pp_macros.specs.inner.Left.{work_of}
use Rattle.pp_macros.specs.inner.Reader.{of_source}
use Rattle.pp_rs.proofs.runs.NextLemmas.{Reached}
use Rattle.pp_rs.proofs.pp.preprocessor.Preprocessor.pass_dead.Given as goal

-- a word of dead text keeps what comes next, and lowers what is left to do
abbrev pub invariant-words : goal.invariant-words
invariant-words l = record {
  unnoted : l.self-inside.in_text ≡ false;
  unspent : l.self-inside.spent ≡ false;
  placed : l.self-inside.place ≡ l.fn.self.place;
  given : l.self-inside.last ≡ l.fn.self.last;
  called : l.self-inside.name_call ≡ l.fn.self.name_call;
  ruled : l.self-inside.rules ≡ l.fn.self.rules;
  alone : l.self-inside.expander.below ≡ [];
  same : l.self-inside.expander.here ≡ l.fn.self.expander;
  idle : is_idle l.self-inside.expander.here ≡ true;
  reached : Reached l.self-inside.rules l.fn.self.expander l.fn.self.source l.self-inside.expander.here l.self-inside.source;
  passed : MatchBool l.is_passed
      (work_of expansion_limit l.self-inside.expander.here (of_source l.self-inside.source) < work_of expansion_limit l.fn.self.expander (of_source l.fn.self.source))
      (l.self-inside.source ≡ l.fn.self.source);
}

abbrev pub decreases-words : goal.decreases-words
decreases-words l = work_of expansion_limit l.self-inside.expander.here (of_source l.self-inside.source)
