-- The readers of the definitions that the plain program's readers of lists are.
use Rattle.pp_reference.specs.inner.Changes.{meaning_of}
use Rattle.pp_model.specs.Reading.{Listed}
use Rattle.pp_reference.specs.declared.reader.ArgumentReader.{ArgumentReader}
use Rattle.pp_reference.specs.declared.reader.LineReader.{LineReader}

abbrev pub list_state : ArgumentReader → Listed
list_state reader = record {
  tokens = reader.tokens.items;
  numbering = reader.numbering;
  visible = meaning_of reader.definitions.now;
}

abbrev pub line_state : LineReader → Listed
line_state reader = record {
  tokens = reader.tokens.items;
  numbering = reader.numbering;
  visible = meaning_of reader.definitions.now;
}
