-- The move of the table that a source makes, and what the source remembers of it (docs/RULES.md, Directives).
use Rattle.std.specs.Prelude.{Bool, true, false, if◌then◌else◌, List}
use Rattle.pp_lexer.specs.Lexed.{Seen}
use Rattle.pp_lexer.specs.declared.rules.Rules.{Rules}
use Rattle.pp_model.specs.Moves.{Move, move_at}
use Rattle.pp_model.specs.Sights.{sight_of}
use Rattle.pp_model.specs.declared.sight.Sight.{Sight}
use Rattle.pp_model.specs.declared.sight.Sight.TheVariants as sight
use Rattle.pp_macros.specs.inner.OpenBlocks.{facts_among, is_live_among}
use Rattle.pp_macros.specs.declared.blocks.OpenBlock.{OpenBlock}

-- the move of the table for the first of these items, if these blocks are open, and if an `#elif` outside of all blocks
-- made the rest dead
abbrev pub move_of : Rules → Bool → List OpenBlock → List Seen → Move
move_of rules dead_for_good blocks rest =
    move_at rules (is_live_among dead_for_good blocks) (facts_among blocks) (sight_of rest) rest

-- what is remembered of what was read: nothing, that it was a live token of the text, or that it was a directive
pub data Note : Type 0 where
  unnoted : Note
  live_text : Note
  directive_line : Note

abbrev pub notes_text : Note → Bool
notes_text live_text = true
notes_text _ = false

abbrev pub notes_directive : Note → Bool
notes_directive directive_line = true
notes_directive _ = false

-- what is remembered of the item in front, in live or in dead text
abbrev pub note_at : Bool → Sight → Note
note_at live (sight.Token token) = if live then live_text else unnoted
note_at live sight.Lone = directive_line
note_at live (sight.Directive directive word) = directive_line
note_at live _ = unnoted

abbrev pub note_of : Bool → List OpenBlock → List Seen → Note
note_of dead_for_good blocks rest = note_at (is_live_among dead_for_good blocks) (sight_of rest)
