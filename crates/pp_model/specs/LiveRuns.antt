-- Runs that take nothing from dead text: what is there gives no token, defines nothing and numbers no line.
use Rattle.std.specs.Prelude.{◌≡◌, false, List, Option, Some, None}
use Rattle.pp_model.specs.declared.read.Read.{Read}
use Rattle.pp_lexer.specs.declared.rules.Rules.{Rules}
use Rattle.pp_model.specs.Blocks.{is_live}
use Rattle.pp_model.specs.Painting.{item_of}
use Rattle.pp_model.specs.Reading.{Reading, Expander}
use Rattle.pp_model.specs.Calls.{Answers}
use Rattle.pp_model.specs.Emitting.{Emits}
use Rattle.pp_model.specs.SourceReader.{SourceReader}
use Rattle.pp_model.specs.Reads.{Steps, source_reading}
use Rattle.pp_model.specs.Run.{by_rules, Call, Runs}
use Rattle.pp_model.specs.declared.call.Reply.{Reply}
use Rattle.pp_model.specs.declared.outcome.Outcome.{Outcome}
use Rattle.pp_model.specs.declared.read.Taken.TheVariants as taken
use Rattle.pp_model.specs.declared.read.Taken.{Taken}

-- a step that gives no token, and leaves the definitions and, in the same text, what is added to a line as they are
pub record IsWithoutEffect (r : SourceReader) (o : Option Taken) (t : SourceReader) : Type 0 where
  pub no_token : (read : Read) → o ≡ Some (taken.Token read) → ⊥
  pub same_definitions : t.definitions ≡ r.definitions
  pub same_lines : t.around ≡ r.around → t.line_offset ≡ r.line_offset

-- one token or line of the source, which is without effect if it is in dead text
pub record LiveSteps (A : Answers) (r : SourceReader) (o : Option Taken) (t : SourceReader) : Type 0 where
  pub steps : Steps A r o t
  pub in_dead_text : is_live r.items r.truths r.position ≡ false → IsWithoutEffect r o t

-- what reading gives next, if no step takes anything from dead text
pub data LiveReads (A : Answers) : SourceReader → Taken → SourceReader → Type 0 where
  here : (x : Taken) (r t : SourceReader) → LiveSteps A r (Some x) t → LiveReads A r x t
  later : (x : Taken) (r s t : SourceReader)
      → LiveSteps A r None s
      → LiveReads A s x t
      → LiveReads A r x t

-- the source as a reader that takes nothing from dead text
abbrev pub live_reading : Answers → Reading SourceReader
live_reading A = record (source_reading A) { Reads = LiveReads A }

-- the next item, without its paint, and the state after it, if nothing is taken from dead text
pub record GivesLive (A : Answers) (e : Expander SourceReader) (o : Outcome) (f : Expander SourceReader) : Type 0 where
  pub taken : Taken
  pub emits : Emits (live_reading A) A e taken f
  pub is : o ≡ item_of taken

-- No reply of a run comes from dead text, except for errors and the end, and no definition or line number that it uses:
-- each run is one in which no step takes anything from there.
abbrev pub RunsAreLive : Answers → Type 0
RunsAreLive A =
    (rules : Rules) (e : Expander SourceReader) (calls : List Call) (replies : List Reply)
    → Runs (by_rules A) rules e calls replies
    → Runs (GivesLive A) rules e calls replies
