-- A reader of a source, and what was read before a position (docs/RULES.md, Directives 1, 11, 13 and 14).
use Rattle.std.specs.Prelude.{ℕ, zero, suc, ℤ, pos, Bool, false, not, ◌&&◌, ◌||◌, List, [], ◌∷◌, take, drop, length}
use Rattle.std.specs.Prelude.{reverse, None, ◌+◌, nat_le}
use Rattle.std.specs.List.{list_any, take_while}
use Rattle.pp_lexer.specs.declared.rules.Rules.{Rules}
use Rattle.pp_lexer.specs.Lexed.{Seen}
use Rattle.pp_model.specs.Places.{source_text}
use Rattle.pp_model.specs.Definitions.{Definitions}
use Rattle.pp_model.specs.Lines.{ends_line}
use Rattle.pp_model.specs.Sights.{sight_of, is_directive, is_text, is_directive_hash}
use Rattle.pp_model.specs.Blocks.{Truths, blocks_at, is_live}

-- A text in which reading goes on once the text that it includes ends: its number, its items and the position among
-- them, what `#line` adds to a line, the conditions that were read, and how many blocks that stay open at its end are
-- still to be reported.
pub record Suspended : Type 0 where
  pub text : ℕ
  pub items : List Seen
  pub position : ℕ
  pub line_offset : ℤ
  pub truths : Truths
  pub unfinished : ℕ

-- whether live text, and whether a directive, was read in other texts before
pub record Earlier : Type 0 where
  pub text : Bool
  pub directive : Bool

-- The rules by which it reads, and of the text that is read what is kept of a suspended one; what is defined; how many
-- contents were added and texts included; the texts around, the innermost first; and what was read in other texts.
pub record SourceReader : Type 0 where
  pub rules : Rules
  pub text : ℕ
  pub items : List Seen
  pub position : ℕ
  pub definitions : Definitions
  pub contents : ℕ
  pub line_offset : ℤ
  pub truths : Truths
  pub unfinished : ℕ
  pub around : List Suspended
  pub earlier : Earlier

abbrev pub reader_at_start : Rules → List Seen → SourceReader
reader_at_start rules source = record {
  rules = rules;
  text = source_text;
  items = source;
  position = 0;
  definitions = λ name. None;
  contents = 0;
  line_offset = pos 0;
  truths = [];
  unfinished = length (blocks_at source (length source));
  around = [];
  earlier = record { text = false; directive = false };
}

-- there is a directive among these items
abbrev pub has_directive : List Seen → Bool
has_directive [] = false
has_directive (s ∷ rest) = is_directive (sight_of (s ∷ rest)) || has_directive rest

-- the items before the position that are on its line, the nearest first
abbrev pub earlier_on_line : List Seen → ℕ → List Seen
earlier_on_line source position = take_while (λ s. not (ends_line s.item)) (reverse (take position source))

-- the position is on the line of a directive, after its `#`
abbrev pub is_on_directive_line : List Seen → ℕ → Bool
is_on_directive_line source position = list_any (λ s. is_directive_hash s.item) (earlier_on_line source position)

-- a live token of the text is at the position
abbrev pub is_live_text : List Seen → Truths → ℕ → Bool
is_live_text source truths position =
    is_text (sight_of (drop position source))
    && not (is_on_directive_line source position)
    && is_live source truths position

-- a live token of the text comes before the position
abbrev pub has_live_text_before : List Seen → Truths → ℕ → Bool
has_live_text_before source truths zero = false
has_live_text_before source truths (suc position) =
    is_live_text source truths position || has_live_text_before source truths position

-- live text comes before the reader's position, or came in another text
abbrev pub had_text : SourceReader → Bool
had_text r = r.earlier.text || has_live_text_before r.items r.truths r.position

-- a directive does so
abbrev pub had_directive : SourceReader → Bool
had_directive r = r.earlier.directive || has_directive (take r.position r.items)

-- neither comes, nor came
abbrev pub is_first_directive : SourceReader → Bool
is_first_directive r = not (had_directive r || had_text r)

-- what was read before, for another text
abbrev pub earlier_of : SourceReader → Earlier
earlier_of r = record { text = had_text r; directive = had_directive r }

abbrev pub suspended_of : SourceReader → Suspended
suspended_of r = record {
  text = r.text;
  items = r.items;
  position = r.position;
  line_offset = r.line_offset;
  truths = r.truths;
  unfinished = r.unfinished;
}

-- The reader at the start of an included text with these items, which is the next text.
abbrev pub with_text : List Seen → SourceReader → SourceReader
with_text items r =
    let text = r.contents + 1 in
    record r {
      text = text;
      items = items;
      position = 0;
      contents = text;
      line_offset = pos 0;
      truths = [];
      unfinished = length (blocks_at items (length items));
      around = suspended_of r ∷ r.around;
      earlier = earlier_of r;
    }

-- the reader back in a text, with these around it
abbrev pub resumed : Suspended → List Suspended → SourceReader → SourceReader
resumed outer around r = record r {
  text = outer.text;
  items = outer.items;
  position = outer.position;
  line_offset = outer.line_offset;
  truths = outer.truths;
  unfinished = outer.unfinished;
  around = around;
  earlier = earlier_of r;
}

-- how many texts may be included inside each other
abbrev pub include_limit : ℕ
include_limit = 200

abbrev pub is_full : SourceReader → Bool
is_full r = nat_le include_limit (length r.around)
