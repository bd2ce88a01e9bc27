-- A word of plain text, before memory is taken for it.
use Rattle.std.specs.Prelude.{◌≡◌, ◌≢◌, ℕ, zero, suc, Bool, true, false, not, List, Option, Some, None, Ok, Err, []}
use Rattle.std.specs.Prelude.{MatchBool, MatchOption, position}
use Rattle.std.specs.Str.{IsAscii}
use Rattle.pp_lexer.specs.Kept.{CanPass}
use Rattle.pp_lexer.specs.Location.{nowhere}
use Rattle.pp_lexer.specs.PlainItems.{token_of, begins_newline, IsNextWord}
use Rattle.pp_lexer.specs.declared.lexer.plain.Form.TheVariants.{Hash, Identifier}
use Rattle.pp_lexer.specs.declared.lexer.plain_item.PlainItem.{PlainItem}
use Rattle.pp_macros.specs.inner.LineReading.{HasTaken, next_token}
use Rattle.pp_macros.specs.inner.SourceLexed.{SourceLexed, unreported_at}
use Rattle.pp_directives.specs.WordTokens.{word_value, word_token}
use Rattle.pp_model.specs.Conversions.{conversion}
use Rattle.pp_model.specs.Names.{Name, is_same_name, line_name}
use Rattle.pp_model.specs.Definitions.{Definition}
use Rattle.pp_macros.specs.inner.Defined.{Defined, meaning_of, names_in}
use Rattle.pp_macros.specs.inner.Plain.{gives_itself}
use Rattle.pp_macros.specs.declared.step.PlacedExit.TheVariants.{Continue}
use Rattle.pp_macros.specs.inner.OpenBlocks.{is_live_among}
use Rattle.pp_macros.specs.inner.Source.{Source, StepsSource, unreported_of}
use Rattle.pp_macros.specs.inner.Unreported.{StepReports}
use Rattle.pp_macros.specs.Held.{HoldsOrdinary}
use Rattle.pp_macros.specs.Item.{PlacedStep}
use Rattle.pp_lexer.specs.Lexed.{Lexed, comments_before}
use Rattle.pp_lexer.specs.PassedWords.{is_number_sign}
use Rattle.pp_lexer.specs.declared.lexer.item.Token.{Token as LexerToken}
use Rattle.pp_lexer.specs.declared.token.Token.{Token}

-- the lexer, whatever place it noted last
abbrev pub lexed_of : SourceLexed → Lexed
lexed_of l = record {
  rest = l.rest;
  had_comments = l.had_comments;
  at_end = l.at_end;
  spent = l.spent;
  over = l.over;
  place = nowhere;
  places = l.places;
  rules = l.rules;
}

-- this word comes next, and can be passed
pub record IsPeeked (l : SourceLexed) (word : PlainItem) : Type 0 where
  pub next : IsNextWord (lexed_of l) word
  pub passes : CanPass (lexed_of l) word

-- nothing was taken, but comments in front of the next token may have been passed
abbrev pub PassesBlanks : SourceLexed → SourceLexed → Type 0
PassesBlanks old new = new ≡ record old { had_comments = new.had_comments }

-- the next token is this word, and it was taken
pub record PassesWord (old : SourceLexed) (word : PlainItem) (new : SourceLexed) : Type 0 where
  pub is : next_token old.rest ≡ Ok (Some (token_of word))
  pub takes : HasTaken 1 old new
  pub errors : unreported_at new ≡ unreported_at old
  pub comments : new.had_comments ≡ comments_before old.rest old.at_end
  pub left : new.rest ≢ []

-- it was, and this is its token
pub record TakesWordToken (old : SourceLexed) (word : PlainItem) (token : Token) (new : SourceLexed) : Type 0 where
  pub passes : PassesWord old word new
  pub is : token ≡ word_token word
  pub converted : conversion (token_of word) ≡ Ok token
  pub holds : HoldsOrdinary token.value

-- the next token is a newline, and it was taken
pub record TakesNewline (old new : SourceLexed) : Type 0 where
  pub unspent : old.spent ≡ false
  pub is : begins_newline old.rest ≡ true
  pub takes : HasTaken 1 old new
  pub errors : unreported_at new ≡ unreported_at old

-- a newline was passed, or nothing changed
abbrev pub PassesNewline : SourceLexed → Bool → SourceLexed → Type 0
PassesNewline old answer new = MatchBool answer (TakesNewline old new) (new ≡ old)

-- the next token is no `#`, and it was taken
pub record TakesOther (old new : SourceLexed) : Type 0 where
  pub token : LexerToken
  pub is : next_token old.rest ≡ Ok (Some token)
  pub no_hash : is_number_sign token.value ≡ false
  pub takes : HasTaken 1 old new
  pub errors : unreported_at new ≡ unreported_at old

-- so many such tokens, one after another
abbrev pub TakesOthersEach : ℕ → SourceLexed → SourceLexed → Type 0
TakesOthersEach zero old new = new ≡ old
TakesOthersEach (suc n) old new = (between : SourceLexed) × TakesOther old between × TakesOthersEach n between new

-- at least one was taken, or nothing changed
abbrev pub PassesWords : SourceLexed → Bool → SourceLexed → Type 0
PassesWords old answer new = MatchBool answer ((more : ℕ) × TakesOthersEach (suc more) old new) (new ≡ old)

-- one step of a source that reports the errors of its lexer
pub record IsStep (old : Source) (step : PlacedStep Token) (new : Source) : Type 0 where
  pub reads : StepsSource old step new
  pub errors : StepReports old.rules.passes_dead_errors step (unreported_of old) (unreported_of new)

-- the text is live, and memory didn't run out
pub record IsInText (source : Source) : Type 0 where
  pub live : is_live_among source.dead_for_good source.blocks ≡ true
  pub unspent : source.spent ≡ false

-- a definition of a macro without parentheses
abbrev pub is_bare : Option Definition → Bool
is_bare (Some definition) = not definition.function_like
is_bare None = false

-- the name of a macro without parentheses, with this number
pub record IsBare (definitions : List Defined) (id : ℕ) (name : Name) : Type 0 where
  pub apart : is_same_name name line_name ≡ false
  pub number : position (is_same_name name) (names_in definitions) ≡ Some id
  pub bare : is_bare (meaning_of definitions name) ≡ true

-- what a word of live text does while no macro is open: it is given, or opens the macro whose name has this number
abbrev pub Does : List Defined → Option ℕ → PlainItem → Type 0
Does definitions None word = gives_itself definitions (word_value word.form word.spelling.now) ≡ true
Does definitions (Some id) word = (word.form ≡ Identifier) × IsBare definitions id word.spelling.now

-- a step at a word of plain text that does this, before memory is taken for it
pub record TakesWord (old : Source) (word : PlainItem) (act : Option ℕ) (new : Source) : Type 0 where
  pub no_hash : word.form ≢ Hash
  pub ascii : IsAscii word.spelling.now
  pub does : Does new.definitions act word
  pub holds : HoldsOrdinary (word_value word.form word.spelling.now)
  pub step : IsStep old (Ok (word_token word)) new

-- such a word, or nothing changed
abbrev pub GivesWord : Source → Option (PlainItem × Option ℕ) → Source → Type 0
GivesWord old answer new = MatchOption answer (new ≡ old) (λ given. TakesWord old given.0 given.1 new)

-- so many pauses, one after another
abbrev pub PausesTimes : ℕ → Source → Source → Type 0
PausesTimes zero old new = new ≡ old
PausesTimes (suc n) old new = (between : Source) × IsStep old (Err Continue) between × PausesTimes n between new

-- at least one was passed, or nothing changed
abbrev pub PassesPauses : Source → Bool → Source → Type 0
PassesPauses old answer new = MatchBool answer ((more : ℕ) × PausesTimes (suc more) old new) (new ≡ old)

-- a newline was a pause, or nothing changed
abbrev pub PausesAtNewline : Source → Bool → Source → Type 0
PausesAtNewline old answer new = MatchBool answer (IsStep old (Err Continue) new) (new ≡ old)
