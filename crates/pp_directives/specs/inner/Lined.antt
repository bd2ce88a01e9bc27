-- The number signs of directives are only at the beginnings of lines, each line ends, and each error is shown.
use Rattle.std.specs.Prelude.{◌≡◌, ◌≢◌, true, false, List, [], ◌∷◌, Ok, Err, ⊤}
use Rattle.pp_lexer.specs.Items.{Lexeme}
use Rattle.pp_lexer.specs.Lexed.{Seen}
use Rattle.pp_model.specs.Faults.{is_shown}
use Rattle.pp_model.specs.Lines.{ends_line}
use Rattle.pp_model.specs.Moves.{fails}
use Rattle.pp_model.specs.Sights.{is_directive_hash}

-- the number sign of a directive isn't first
abbrev pub BeginsNoDirective : List Seen → Type 0
BeginsNoDirective [] = ⊤
BeginsNoDirective (s ∷ rest) = is_directive_hash s.item ≡ false

-- the number sign of a directive doesn't directly follow an item that doesn't end its line
abbrev pub AreLined : List Seen → Type 0
AreLined [] = ⊤
AreLined (s ∷ rest) = (ends_line s.item ≡ false → BeginsNoDirective rest) × AreLined rest

-- an item that doesn't end its line is followed by another
abbrev pub AreEnded : List Seen → Type 0
AreEnded [] = ⊤
AreEnded (s ∷ rest) = (ends_line s.item ≡ false → rest ≢ []) × AreEnded rest

-- an error isn't that of the end
abbrev pub ShowsError : Lexeme → Type 0
ShowsError (Ok token) = ⊤
ShowsError (Err fault) = is_shown (fails fault) ≡ true

-- no error is that of the end
abbrev pub ShowErrors : List Seen → Type 0
ShowErrors [] = ⊤
ShowErrors (s ∷ rest) = ShowsError s.item × ShowErrors rest
