use Rattle.std.proofs.Common.{◌-◌, nat_lt}
use Rattle.pp_lexer.specs.PassedWords.{PassesOthers}
use Rattle.pp_lexer.proofs.lexer.Lexer.pass_words.Given as goal

-- the runs so far are words that were passed
abbrev pub invariant-runs : goal.invariant-runs
invariant-runs l = PassesOthers l.fn.self (nat_lt 0 l.runs) l.self

abbrev pub decreases-runs : goal.decreases-runs
decreases-runs l = 16 - l.runs
