-- A text is included, and the text around it is suspended until it ends.
use Rattle.std.specs.Prelude.{◌≡◌, ◌⊎◌, ℕ, ◌+◌, true, false, List, [], ◌∷◌, Option, pos}
use Rattle.pp_lexer.specs.Items.{places_by}
use Rattle.pp_lexer.specs.Lexed.{Lexed, start_by}
use Rattle.pp_lexer.specs.Spots.{spots_of}
use Rattle.pp_lexer.specs.declared.token.Location.{Location}
use Rattle.pp_macros.specs.declared.step.PlacedExit.{PlacedExit}
use Rattle.pp_macros.specs.declared.step.PlacedExit.TheVariants.{Continue, Finished}
use Rattle.pp_macros.specs.inner.Source.{Source, SuspendedText, had_text, had_directive, resumed}
use Rattle.pp_macros.specs.inner.SourceLexed.{SourceLexed, HavePlaces}
use Rattle.pp_directives.specs.inner.Lined.{AreEnded, ShowErrors}

-- memory didn't run out, each line that is left ends, no error is that of the end, and each item that is left has a
-- place
pub record IsReadable (l : Lexed) : Type 0 where
  pub unspent : l.spent ≡ false
  pub ended : AreEnded l.rest
  pub shown : ShowErrors l.rest
  pub placed : HavePlaces l.rest l.places

-- a source's lexer that reads what this one gives
abbrev pub reading : Lexed → Option Location → SourceLexed
reading l error_place = record {
  rest = l.rest;
  places = l.places;
  over = l.over;
  error_place = error_place;
  had_comments = l.had_comments;
  at_end = l.at_end;
  spent = l.spent;
  rules = l.rules;
}

-- this lexer was taken out of the source's lexer
pub record IsTakenFrom (old : SourceLexed) (l : Lexed) : Type 0 where
  pub rest : l.rest ≡ old.rest
  pub places : l.places ≡ old.places
  pub over : l.over ≡ old.over
  pub readable : IsReadable l

-- the text that is read, as it is suspended
abbrev pub suspended : Source → SuspendedText
suspended s = record {
  text = s.text;
  rest = s.rest;
  places = s.places;
  over = s.over;
  blocks = s.blocks;
  line_offset = s.line_offset;
  has_text = s.has_text;
  has_directive = s.has_directive;
  dead_for_good = s.dead_for_good;
}

-- the source at the start of a text that it includes, which is one more content
abbrev pub including : List ℕ → Source → Source
including input s = record s {
  text = s.contents + 1;
  earlier = record { text = had_text s; directive = had_directive s };
  around = suspended s ∷ s.around;
  rest = (start_by s.rules (spots_of input)).rest;
  places = places_by s.rules (spots_of input);
  over = true;
  blocks = [];
  line_offset = pos 0;
  has_text = false;
  has_directive = false;
  dead_for_good = false;
  contents = s.contents + 1;
}

-- After the end of a text reading goes on in the text around it. It is the end in the outermost text, and if memory ran
-- out.
pub data LeavesText (old : Source) (exit : PlacedExit) (new : Source) : Type 0 where
  stays : (old.spent ≡ true) ⊎ (old.around ≡ []) → exit ≡ Finished → new ≡ old → LeavesText old exit new
  goes_on : (outer : SuspendedText) (around : List SuspendedText)
      → old.spent ≡ false
      → old.around ≡ outer ∷ around
      → exit ≡ Continue
      → new ≡ resumed outer around old
      → LeavesText old exit new
