-- A law of included texts: a text that holds no directive of a block across its ends is read as if its lines stood in
-- the text around it, behind the `#include` line (docs/RULES.md, Directives 16).
use Rattle.std.specs.Prelude.{◌≡◌, ℕ, pos, ◌+◌, ◌-◌, ◌==◌, ◌≤◌, ◌<◌, Bool, true, false, not, ◌&&◌, ◌||◌, if◌then◌else◌}
use Rattle.std.specs.Prelude.{List, [], ◌∷◌, ◌++◌, take, drop, length}
use Rattle.std.specs.List.{AllByRecursion as Each}
use Rattle.pp_lexer.specs.Lexed.{Seen}
use Rattle.pp_lexer.specs.declared.rules.Rules.{Rules}
use Rattle.pp_model.specs.Blocks.{block_lines, opens, closes, is_live}
use Rattle.pp_model.specs.Calls.{Answers}
use Rattle.pp_model.specs.Lines.{ends_line}
use Rattle.pp_model.specs.Reading.{Expander}
use Rattle.pp_model.specs.Run.{Call, Gives, Runs, by_rules, items_by, with_included, without_end}
use Rattle.pp_model.specs.RunStates.{IsReached}
use Rattle.pp_model.specs.Sights.{sight_of}
use Rattle.pp_model.specs.SourceReader.{SourceReader}
use Rattle.pp_model.specs.declared.block.BlockLine.{BlockLine}
use Rattle.pp_model.specs.declared.call.Reply.{Reply}
use Rattle.pp_model.specs.declared.call.Reply.TheVariants as reply
use Rattle.pp_model.specs.declared.directive.Directive.{Directive}
use Rattle.pp_model.specs.declared.directive.Directive.TheVariants as d
use Rattle.pp_model.specs.declared.outcome.IncludeLine.{IncludeLine}
use Rattle.pp_model.specs.declared.outcome.Outcome.TheVariants as outcome
use Rattle.pp_model.specs.declared.sight.Sight.{Sight}
use Rattle.pp_model.specs.declared.sight.Sight.TheVariants as sight

-- Each of these lines of blocks that parts or closes a block is in a block that one of them opens, and each such block
-- is closed, if `inner` of them are open before the lines.
abbrev pub are_closed : ℕ → List BlockLine → Bool
are_closed inner [] = inner == 0
are_closed inner (line ∷ later) =
    if opens line.part then are_closed (inner + 1) later
    else not (inner == 0) && are_closed (if closes line.part then inner - 1 else inner) later

abbrev pub is_line_directive : Directive → Bool
is_line_directive d.Line = true
is_line_directive _ = false

abbrev pub numbers_lines : Sight → Bool
numbers_lines (sight.Directive directive word) = is_line_directive directive
numbers_lines _ = false

-- there is a `#line` directive among these items
abbrev pub has_line_directive : List Seen → Bool
has_line_directive [] = false
has_line_directive (s ∷ rest) = numbers_lines (sight_of (s ∷ rest)) || has_line_directive rest

-- the last of these items, if there is one, ends a line
abbrev pub are_whole_lines : List Seen → Bool
are_whole_lines [] = true
are_whole_lines (s ∷ []) = ends_line s.item
are_whole_lines (s ∷ t ∷ rest) = are_whole_lines (t ∷ rest)

-- no directive of a block reaches across the ends of this text, and no `#line` is in it
pub record IsClosedText (items : List Seen) : Type 0 where
  pub blocks : are_closed 0 (block_lines 0 items) ≡ true
  pub no_line : has_line_directive items ≡ false

-- the items with those of a text between the first `position` of them and the others
abbrev pub inserted_at : ℕ → List Seen → List Seen → List Seen
inserted_at position text items = take position items ++ (text ++ drop position items)

-- the text stands in the one that is read, at the reader's position
abbrev pub with_inserted : List Seen → Expander SourceReader → Expander SourceReader
with_inserted text e = record e {
  held = without_end e.held;
  reader = record e.reader { items = inserted_at e.reader.position text e.reader.items };
}

-- The reader is at the begin of a live line, and no condition behind its position was read.
pub record IsAtLine (r : SourceReader) : Type 0 where
  pub within : r.position ≤ length r.items
  pub begins_line : are_whole_lines (take r.position r.items) ≡ true
  pub live : is_live r.items r.truths r.position ≡ true
  pub read_before : Each (λ truth. truth.position < r.position) r.truths

-- once the text of an `#include` line was asked for, the reader is behind that line
abbrev pub AskedIsAtLine : Answers → Type 0
AskedIsAtLine A =
    (rules : Rules) (source : List ℕ) (line : IncludeLine) (e f : Expander SourceReader)
    → IsReached A rules (items_by rules source) e
    → Gives A e (outcome.Include line) f
    → IsAtLine f.reader

-- a text was refused, since too many are around it
abbrev pub is_too_deep : Reply → Bool
is_too_deep reply.TooDeep = true
is_too_deep _ = false

-- The replies after a text was included are those of the text around it with the lines of the included one, also if it
-- includes more texts, and more are included behind it. No line is numbered anew by a `#line` of the two.
abbrev pub IncludedIsInserted : Answers → Type 0
IncludedIsInserted A =
    (rules : Rules) (text : List ℕ) (e : Expander SourceReader) (calls : List Call) (replies : List Reply)
    → IsClosedText (items_by rules text)
    → IsAtLine e.reader
    → e.reader.line_offset ≡ pos 0
    → Each (λ reply. is_too_deep reply ≡ false) replies
    → Runs (by_rules A) rules (with_included (items_by rules text) e) calls replies
    → Runs (by_rules A) rules (with_inserted (items_by rules text) e) calls replies
