-- What a lexer can pass. Nothing here has to be believed: `peek_word` gives it and `pass_word` requires it; no caller
-- needs more.
use Rattle.std.specs.Prelude.{◌≡◌, ◌+◌, ◌-◌, ◌^◌, ◌<◌, ◌≤◌, Bool, false, ◌∷◌, length, get_or, Ok}
use Rattle.pp_lexer.specs.declared.lexer.Flags.{Flags}
use Rattle.pp_lexer.specs.declared.lexer.plain_item.PlainItem.{PlainItem}
use Rattle.pp_lexer.specs.Lexed.{Lexed}
use Rattle.pp_lexer.specs.PlainItems.{token_of}
use Rattle.pp_lexer.specs.Reading.{Reading}
use Rattle.pp_lexer.specs.inner.Fronts.{spots_from}
use Rattle.pp_lexer.specs.inner.Passing.{seen_of, comments_at_end, places_left}

-- the flags after a word, and what is left to read
abbrev pub flags_after : Bool → Flags
flags_after had_comments =
    record { leading_whitespace = false; start_of_line = false; had_comments = had_comments }

abbrev pub reading_after : PlainItem → Reading
reading_after word = record {
  rest = spots_from word.location.line word.location.end word.rest.now;
  last = record {
    c = get_or word.spelling.now (length word.spelling.now - 1) 0;
    line = word.location.line;
    begin = word.location.end - 1;
    end = word.location.end;
  };
}

-- The items to come are this word and those of the text after it. The comments before it were passed.
pub record CanPass (l : Lexed) (word : PlainItem) : Type 0 where
  pub items : l.rest ≡ record { item = Ok (token_of word); had_comments = l.had_comments }
      ∷ seen_of l.rules (flags_after l.had_comments) (reading_after word)
  pub places : l.places ≡ word.location ∷ places_left l.rules (flags_after l.had_comments) (reading_after word)
  pub at_end : l.at_end ≡ comments_at_end l.rules (flags_after l.had_comments) (reading_after word)
  pub some : 0 < length word.spelling.now
  pub sized : word.location.end ≡ word.location.start + length word.spelling.now
  pub room : word.location.end + length word.rest.now < 2 ^ 32 - 1
  pub lines : word.location.line ≤ word.location.end + 1
