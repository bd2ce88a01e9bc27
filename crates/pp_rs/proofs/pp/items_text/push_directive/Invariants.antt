use Rattle.std.proofs.Common.{◌≡◌, ◌++◌, take, string_bytes}
use Rattle.std.specs.List.{flat_map}
use Rattle.pp_lexer.proofs.spelling.ItemTextLemmas.{token_bytes}
use Rattle.pp_rs.proofs.pp.items_text.push_directive.Given as goal

-- the word was appended, and the tokens so far, each after a space
abbrev pub invariant-loop-token : goal.invariant-loop-token
invariant-loop-token l = string_bytes l.text ≡ string_bytes l.fn.text ++ (l.word ++ flat_map token_bytes (take l.token-index l.token-items))
