use Rattle.std.proofs.Common.{◌≡◌, [], ◌∷◌, List, refl, arith}
use Rattle.pp_lexer.specs.Preorder.{preorder}
use Rattle.pp_lexer.specs.declared.token.Token.{Token}
use Rattle.pp_lexer.proofs.token.+copy.Goals as goal

-- a list without entries has no token
no_tokens : (tokens : List Token) → preorder tokens ≡ [] → tokens ≡ []
no_tokens [] e = refl
no_tokens (t ∷ ts) e = cc

pub Tokens::try_clone-returns-in_err-copy_items-clause-without_memory :
    goal.Tokens::try_clone-returns-in_err-copy_items-clause-without_memory
Tokens::try_clone-returns-in_err-copy_items-clause-without_memory t c e = grind (arith, no_tokens)
