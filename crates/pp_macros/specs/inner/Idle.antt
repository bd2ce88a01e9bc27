-- An expander in which no macro is open, over a source: it gives a word as it is (docs/RULES.md, Expansion 1 to 3).
use Rattle.std.specs.Prelude.{◌≡◌, ℕ, ◌&&◌, not, is_some, Bool, [], Some, Ok, Err}
use Rattle.pp_lexer.specs.declared.token.PreprocessorError.TheVariants.{LineOverflow}
use Rattle.pp_lexer.specs.declared.token.Token.{Token}
use Rattle.pp_model.specs.Places.{in_text}
use Rattle.pp_model.specs.Painting.{read_in}
use Rattle.pp_model.specs.declared.read.Read.{Read}
use Rattle.pp_model.specs.declared.read.Taken.TheVariants as given
use Rattle.pp_macros.specs.inner.Frames.{outermost_frame_call}
use Rattle.pp_macros.specs.Item.{PlacedStep}
use Rattle.pp_macros.specs.inner.Expander.{Expander}
use Rattle.pp_macros.specs.inner.Reader.{of_source}
use Rattle.pp_macros.specs.inner.Source.{Source}
use Rattle.pp_macros.specs.inner.Turns.{taken_in}
use Rattle.pp_macros.specs.declared.step.PlacedExit.TheVariants.{Error}

-- nothing is held, and no macro is open
abbrev pub is_idle : Expander → Bool
is_idle m = not (is_some m.held) && not (is_some (outermost_frame_call m.frames))

-- the word, which is of this text, is held as it is taken: `__LINE__` as a number
pub record IsHeld (text : ℕ) (word : Token) (source : Source) (old new : Expander) : Type 0 where
  pub token : Read
  pub taken : taken_in [] (of_source source) (read_in text word) ≡ given.Token token
  pub holds : new ≡ record old { held = Some (Ok token) }

-- the word is held, or it is `__LINE__` and its number is out of range
abbrev pub HoldsWord : ℕ → Token → Source → Expander → PlacedStep (Unit {0}) → Expander → Type 0
HoldsWord text word source old (Ok done) new = IsHeld text word source old new
HoldsWord text word source old (Err exit) new =
    (exit ≡ Error (LineOverflow, in_text text word.location))
    × (taken_in [] (of_source source) (read_in text word) ≡ given.Fault (LineOverflow, in_text text word.location))
    × (new ≡ old)
