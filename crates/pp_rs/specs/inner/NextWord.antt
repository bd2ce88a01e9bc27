-- The next token as a word of plain text, before memory is taken for it.
use Rattle.std.specs.Prelude.{◌≡◌, ◌≢◌, ◌<◌, ◌≤◌, ◌∷◌, [], List, ℕ, Bool, true, false, not, Option, Some, None, Ok}
use Rattle.std.specs.Prelude.{MatchOption, position}
use Rattle.std.specs.Str.{IsAscii}
use Rattle.pp_lexer.specs.declared.lexer.plain.Form.TheVariants.{Hash}
use Rattle.pp_lexer.specs.declared.lexer.plain_item.PlainItem.{PlainItem}
use Rattle.pp_model.specs.Names.{Name, is_same_name}
use Rattle.pp_model.specs.declared.outcome.Outcome.{Outcome}
use Rattle.pp_directives.specs.WordTokens.{word_token}
use Rattle.pp_macros.specs.inner.Defined.{Defined, Macro, AreNumbered, meaning_of, names_in, numbered_by, opened_by}
use Rattle.pp_macros.specs.inner.Expander.{Expander}
use Rattle.pp_macros.specs.inner.Frames.{new_frame, bare_call}
use Rattle.pp_macros.specs.inner.Giving.{GivesAhead}
use Rattle.pp_macros.specs.inner.Idle.{is_idle}
use Rattle.pp_macros.specs.inner.Reader.{of_source}
use Rattle.pp_macros.specs.Item.{Item}
use Rattle.pp_macros.specs.LexerErrors.{PassesErrors}
use Rattle.pp_model.specs.ItemCall.{item_call}
use Rattle.pp_lexer.specs.declared.token.Location.{Location}
use Rattle.pp_lexer.specs.declared.token.Token.{Token}
use Rattle.pp_rs.specs.Comes.{State, Comes}
use Rattle.pp_rs.specs.Kept.{Preprocessing, Stands, IsAhead, is_spent, most_items, errors_left, error_place, call_place}
use Rattle.pp_model.specs.declared.read.Read.{Read}
use Rattle.pp_rs.specs.Kept.{item_text, rules_of}
use Rattle.pp_rs.specs.Preprocessing.{IsNextItem}
use Rattle.pp_rs.specs.inner.Fit.{IsInLiveText}

-- the preprocessor stands for a state, and what comes next in that state also comes next in this one, from the same
-- call
pub record StandsBetween (new : Preprocessing) (state : State) : Type 0 where
  pub between : State
  pub stands : Stands new between
  pub comes : (outcome : Outcome) (after : State) → Comes between outcome after → Comes state outcome after
  pub same : (outcome : Outcome) (after : State) (later : Comes between outcome after)
      → (comes outcome after later).taken ≡ later.taken
  pub calls : (outcome : Outcome) (after : State) (later : Comes between outcome after)
      → item_call (comes outcome after later).emits ≡ item_call later.emits

-- nothing was given, and everything that was to come still comes
pub record IsPassed (old new : Preprocessing) : Type 0 where
  pub item : (state : State) → Stands old state → StandsBetween new state
  pub spent : is_spent new ≡ is_spent old
  pub errors : PassesErrors (rules_of old).passes_dead_errors (errors_left old) (errors_left new)
  pub place : error_place new ≡ error_place old
  pub no_more_left : most_items new ≤ most_items old
  pub rules : rules_of new ≡ rules_of old

-- the word is no `#`, and is spelled in ASCII
pub record IsPlain (word : PlainItem) : Type 0 where
  pub no_hash : word.form ≢ Hash
  pub ascii : IsAscii word.spelling.now

-- the next token is read from live text
abbrev pub ReadsText : Preprocessing → Type 0
ReadsText p = IsInLiveText p.expander p.source p.spent

-- the next token is this word, which no macro gives, and the text goes on
pub record IsWord (old : Preprocessing) (word : PlainItem) (new : Preprocessing) : Type 0 where
  pub next : IsNextItem old (Some (Ok (word_token word))) new
  pub text : item_text new ≡ new.source.text
  pub call : call_place new ≡ None
  pub plain : IsPlain word
  pub reads : ReadsText new

-- the macro opens whose name has this number and is at this place of this text
pub record OpensNumbered (definitions : List Defined) (text id : ℕ) (name : Location) (old new : Expander)
    : Type 0 where
  pub opened : Macro
  pub is : (known : Name) → position (is_same_name known) (names_in definitions) ≡ Some id
      → Some (opened.name, opened.definition) ≡ opened_by known (meaning_of definitions known)
  pub numbered : AreNumbered (names_in definitions) (numbered_by opened)
  pub opens : new ≡ record old { frames = new_frame opened (bare_call text name) [] ∷ old.frames }

-- nothing was given; if a macro is open now, less is left
pub record IsPassedText (old new : Preprocessing) : Type 0 where
  pub passed : IsPassed old new
  pub less_left : not (is_idle new.expander) ≡ true → most_items new < most_items old

-- one call of `next_word`
abbrev pub IsNextWord : Preprocessing → Option PlainItem → Preprocessing → Type 0
IsNextWord old answer new = MatchOption answer (IsPassedText old new) (λ word. IsWord old word new)

-- an open macro gives a token next, as its body or an argument has it
pub record HasFront (p : Preprocessing) : Type 0 where
  pub fresh : p.spent ≡ false
  pub read : Read
  pub painted : Bool
  pub gives : GivesAhead (of_source p.source) p.expander painted read

-- it does, and the token is ordinary and of this text
abbrev pub SomeAheadOf : ℕ → Preprocessing → Type 0
SomeAheadOf text p = (read : Read) × IsAhead p read × (text ≡ read.text)

-- it gives this token, of this text
pub record IsAheadAs (p : Preprocessing) (token : Token) (text : ℕ) : Type 0 where
  pub read : Read
  pub ahead : IsAhead p read
  pub same : token ≡ read.token
  pub within : text ≡ read.text

-- one call of `next_text` or `next_given`
abbrev pub IsNextGiven : Preprocessing → Option Item → Preprocessing → Type 0
IsNextGiven old given new = MatchOption given (IsPassed old new) (λ item. IsNextItem old (Some item) new)

-- a pause was passed
pub record IsPause (old new : Preprocessing) : Type 0 where
  pub passed : IsPassed old new
  pub less_left : most_items new < most_items old

-- one call of `step`
abbrev pub IsNextStep : Preprocessing → Option (Option Item) → Preprocessing → Type 0
IsNextStep old answer new = MatchOption answer (IsPause old new) (λ item. IsNextItem old item new)
