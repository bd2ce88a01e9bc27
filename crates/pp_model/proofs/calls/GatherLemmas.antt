-- Calls that are gathered one token after another.
use Rattle.std.proofs.Common.{◌≡◌, ◌++◌, ◌∷◌, [], List, refl, ap, append_assoc}
use Rattle.std.specs.Prelude.{Result, Ok, Err}
use Rattle.std.proofs.lemmas.List.{append-nil}
use Rattle.pp_lexer.specs.declared.token.Location.{Location}
use Rattle.pp_model.specs.Places.{PlacedFault}
use Rattle.pp_model.specs.declared.read.Read.{Read}
use Rattle.pp_model.specs.Calls.{Gathered, before}

-- the tokens, and then what was gathered
abbrev pub after_tokens : List Read → Result Gathered PlacedFault → Result Gathered PlacedFault
after_tokens tokens (Ok rest) = Ok (record rest { tokens = tokens ++ rest.tokens })
after_tokens tokens (Err fault) = Err fault

pub after_tokens-before : (tokens : List Read) (token : Read) (rest : Result Gathered PlacedFault)
    → after_tokens tokens (before token rest) ≡ after_tokens (tokens ++ token ∷ []) rest
after_tokens-before tokens token (Ok rest) = rw append_assoc refl
after_tokens-before tokens token (Err fault) = refl

pub after_tokens-closed : (tokens : List Read) (place : Location)
    → after_tokens tokens (Ok (record { tokens = []; closing = place })) ≡ Ok (record { tokens = tokens; closing = place })
after_tokens-closed tokens place = ap (λ (ts : List Read). let r : Result Gathered PlacedFault = Ok (record { tokens = ts; closing = place }) in
    r) (append-nil tokens)
