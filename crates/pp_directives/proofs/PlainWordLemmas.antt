-- A word of plain text that comes next is passed.
use Rattle.std.proofs.Common.{◌≡◌, ◌≢◌, Some, Ok, IsTrue, drop, refl, sym, ◌∙◌, ap, subst}
use Rattle.std.specs.Str.{IsAscii, chars}
use Rattle.std.proofs.lemmas.Str.{chars-IsAscii}
use Rattle.pp_lexer.specs.TokenValue.{is_ordinary}
use Rattle.pp_lexer.specs.declared.token.Token.{Token}
use Rattle.pp_lexer.specs.declared.token.TokenValue.TheVariants.{Ident}
use Rattle.pp_lexer.specs.PlainItems.{token_of}
use Rattle.pp_lexer.specs.declared.lexer.plain.Form.{Form}
use Rattle.pp_lexer.specs.declared.lexer.plain.Form.TheVariants.{Hash, Identifier, Integer as IntegerForm, Unsigned as UnsignedForm, Float as FloatForm}
use Rattle.pp_lexer.specs.declared.lexer.plain.Form.TheVariants.{SuffixedFloat as SuffixedForm, Punct as PunctForm}
use Rattle.pp_macros.specs.inner.LineReading.{line_token}
use Rattle.pp_directives.specs.WordTokens.{word_token, word_value}
use Rattle.pp_directives.specs.inner.TokenLists.{IsReadable, token_of as line_token_of}
use Rattle.pp_directives.specs.declared.token_list.LineToken.{LineToken}
use Rattle.pp_directives.specs.declared.token_list.LineToken.TheVariants as line
use Rattle.pp_lexer.specs.Kept.{CanPass}
use Rattle.pp_lexer.specs.Lexed.{Lexed, comments_before}
use Rattle.pp_lexer.specs.PlainItems.{IsNextWord}
use Rattle.pp_lexer.specs.declared.lexer.plain_item.PlainItem.{PlainItem}
use Rattle.pp_lexer.specs.declared.token.Location.{Location}
use Rattle.pp_macros.specs.inner.LineReading.{next_token}
use Rattle.pp_macros.specs.inner.SourceLexed.{SourceLexed, unreported_at}
use Rattle.pp_directives.specs.inner.PlainText.{PassesBlanks, PassesWord}
use Rattle.pp_directives.proofs.FurtherLemmas.{GoesFurther}

-- the place that was noted last makes no difference
pub next_anywhere : (l : Lexed) (place : Location) (word : PlainItem) → IsNextWord l word → IsNextWord (record l { place = place }) word
next_anywhere l place word h = record { unspent = h.unspent; is = h.is; ascii = h.ascii }

pub pass_anywhere : (l : Lexed) (place : Location) (word : PlainItem) → CanPass l word → CanPass (record l { place = place }) word
pass_anywhere l place word h = record {
  items = h.items;
  places = h.places;
  at_end = h.at_end;
  some = h.some;
  sized = h.sized;
  room = h.room;
  lines = h.lines;
}

-- it is the next token of its line, unless it is a `#`
pub word_of_line : (word : PlainItem) → word.form ≢ Hash → line_token (Some (token_of word)) ≡ Ok (Some (word_token word))
word_of_line word = go word.form
  where
    go : (form : Form) → form ≢ Hash
        → line_token (Some (token_of (record word { form = form }))) ≡ Ok (Some (word_token (record word { form = form })))
    go Identifier apart = refl
    go (IntegerForm n) apart = refl
    go (UnsignedForm n) apart = refl
    go FloatForm apart = refl
    go SuffixedForm apart = refl
    go (PunctForm p) apart = refl
    go Hash apart = absurd (apart refl)

-- an identifier's token has its spelling
pub identifier_token : (word : PlainItem) → word.form ≡ Identifier → IsAscii word.spelling.now
    → ◌≡◌ {A = Token} (record { value = Ident (chars word.spelling.now); location = word.location }) (word_token word)
identifier_token word e ascii = rw (e, chars-IsAscii word.spelling.now ascii) refl

-- its token is ordinary
pub readable_ordinary : (token : LineToken) → IsReadable token → IsTrue (is_ordinary (line_token_of token).value)
readable_ordinary (line.Word word) is = go word.form
  where
    go : (form : Form) → IsTrue (is_ordinary (word_value form word.spelling.now))
    go Identifier = refl
    go (IntegerForm n) = refl
    go (UnsignedForm n) = refl
    go FloatForm = refl
    go SuffixedForm = refl
    go (PunctForm p) = refl
    go Hash = refl
readable_ordinary (line.Token token) is = is

-- comments before it were passed first
pub passed_before : (old mid new : SourceLexed) (word : PlainItem) → PassesBlanks old mid → PassesWord mid word new → PassesWord old word new
passed_before old mid new word same h = record {
  is = ap (λ l. next_token l.rest) (sym same) ∙ h.is;
  takes = record {
    rest = h.takes.rest ∙ ap (λ l. drop 1 l.rest) same;
    further = subst (λ l. GoesFurther l new) same h.takes.further;
    spent = h.takes.spent;
  };
  errors = h.errors ∙ ap unreported_at same;
  comments = h.comments ∙ ap (λ l. comments_before l.rest l.at_end) same;
  left = h.left;
}
