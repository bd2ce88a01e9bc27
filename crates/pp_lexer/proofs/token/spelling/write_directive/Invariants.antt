use Rattle.std.proofs.Common.{◌++◌, take}
use Rattle.std.specs.Fmt.{HasWritten, IsPlainFormatter}
use Rattle.std.specs.List.{flat_map}
use Rattle.pp_lexer.proofs.spelling.ItemTextLemmas.{token_bytes}
use Rattle.pp_lexer.proofs.token.spelling.write_directive.Given as goal

-- the word is written, and the tokens so far, each after a space
abbrev pub invariant-loop-token : goal.invariant-loop-token
invariant-loop-token g l =
    IsPlainFormatter l.fn.f → HasWritten g.W.Write.write_str_gives l.fn.f (l.word ++ flat_map token_bytes (take l.token-index l.token-items)) l.f
