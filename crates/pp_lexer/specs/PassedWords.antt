-- Words and newlines that a lexer passes without giving them.
use Rattle.std.specs.Prelude.{◌≡◌, ℕ, zero, suc, Bool, true, false, not, List, [], ◌∷◌, Ok, Err, MatchBool}
use Rattle.pp_lexer.specs.declared.lexer.item.TokenValue.{TokenValue}
use Rattle.pp_lexer.specs.declared.lexer.item.TokenValue.TheVariants.{Hash}
use Rattle.pp_lexer.specs.Items.{Lexeme}
use Rattle.pp_lexer.specs.Lexed.{Seen, Lexed, after_first}

-- the value is a `#`
abbrev pub is_number_sign : TokenValue → Bool
is_number_sign Hash = true
is_number_sign _ = false

-- the first item to come is a token other than `#`: a word or a newline
abbrev pub is_other_lexeme : Lexeme → Bool
is_other_lexeme (Ok token) = not (is_number_sign token.value)
is_other_lexeme (Err fault) = false

abbrev pub begins_other : List Seen → Bool
begins_other [] = false
begins_other (s ∷ rest) = is_other_lexeme s.item

-- so many items were taken, each a token other than `#`
abbrev pub TakesOthers : ℕ → Lexed → Lexed → Type 0
TakesOthers zero old new = new ≡ old
TakesOthers (suc n) old new = (begins_other old.rest ≡ true) × TakesOthers n (after_first old) new

-- at least one was
pub record AreOthersTaken (old new : Lexed) : Type 0 where
  pub unspent : old.spent ≡ false
  pub more : ℕ
  pub taken : TakesOthers (suc more) old new

-- one call of `pass_words`: such tokens were taken, or all is as it was
abbrev pub PassesOthers : Lexed → Bool → Lexed → Type 0
PassesOthers old answer new = MatchBool answer (AreOthersTaken old new) (new ≡ old)
