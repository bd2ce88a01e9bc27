-- What the plain program's reader of a source keeps, and the reader of the definitions that this is.
use Rattle.std.specs.Prelude.{ℕ, ℤ, List}
use Rattle.pp_lexer.specs.Lexed.{Seen}
use Rattle.pp_lexer.specs.declared.rules.Rules.{Rules}
use Rattle.pp_reference.specs.inner.Changes.{meaning_of}
use Rattle.pp_model.specs.Blocks.{Truths}
use Rattle.pp_model.specs.SourceReader.{Suspended, Earlier, SourceReader}
use Rattle.pp_reference.specs.declared.definitions.Change.{Change}

-- a reader of a source, with the changes of the definitions in place of the map that they give
pub record ReaderState : Type 0 where
  pub rules : Rules
  pub text : ℕ
  pub items : List Seen
  pub position : ℕ
  pub changes : List Change
  pub contents : ℕ
  pub line_offset : ℤ
  pub truths : Truths
  pub unfinished : ℕ
  pub around : List Suspended
  pub earlier : Earlier

abbrev pub reader_of : ReaderState → SourceReader
reader_of state = record {
  rules = state.rules;
  text = state.text;
  items = state.items;
  position = state.position;
  definitions = meaning_of state.changes;
  contents = state.contents;
  line_offset = state.line_offset;
  truths = state.truths;
  unfinished = state.unfinished;
  around = state.around;
  earlier = state.earlier;
}
