-- What is left after spaces that weren't passed.
use Rattle.std.specs.Prelude.{◌≡◌, ℕ, Bool, ◌||◌, List}
use Rattle.pp_lexer.specs.declared.lexer.Flags.{Flags}
use Rattle.pp_lexer.specs.declared.rules.Rules.{Rules}
use Rattle.pp_lexer.specs.Reading.{Reading}
use Rattle.pp_lexer.specs.inner.Fronts.{IsLeft}
use Rattle.pp_lexer.specs.inner.Passing.{seen_of, comments_at_end, places_left}

-- the flags after spaces, if there are any
abbrev pub after_spaces : Bool → Flags → Flags
after_spaces spaced f = record {
  leading_whitespace = f.leading_whitespace || spaced;
  start_of_line = f.start_of_line;
  had_comments = f.had_comments;
}

-- this text is what is left after spaces, if there are any: the same items are to come there
pub record IsAfterSpaces (line at : ℕ) (text : List ℕ) (spaced : Bool) (r : Reading) : Type 0 where
  pub there : Reading
  pub left : IsLeft line at text there.rest
  pub seen : (rules : Rules) (f : Flags) → seen_of rules (after_spaces spaced f) there ≡ seen_of rules f r
  pub at_end : (rules : Rules) (f : Flags)
      → comments_at_end rules (after_spaces spaced f) there ≡ comments_at_end rules f r
  pub places : (rules : Rules) (f : Flags)
      → places_left rules (after_spaces spaced f) there ≡ places_left rules f r
