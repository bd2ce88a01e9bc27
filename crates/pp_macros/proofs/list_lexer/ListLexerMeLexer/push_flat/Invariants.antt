use Rattle.std.proofs.Common.{length}
use Rattle.pp_macros.specs.inner.Reader.{ReadsFlat, of_list}
use Rattle.pp_macros.proofs.list_lexer.ListLexerMeLexer.push_flat.Given as goal

-- the tokens so far, of which none is a parenthesis
abbrev pub invariant-tokens : goal.invariant-tokens
invariant-tokens l = ReadsFlat (of_list l.fn.self) l.fn.tokens.items (of_list l.self) l.tokens.items

abbrev pub decreases-tokens : goal.decreases-tokens
decreases-tokens l = length l.self.tokens
