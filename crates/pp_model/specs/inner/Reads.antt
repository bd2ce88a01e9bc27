-- Parts of reading a source, under names of their own.
use Rattle.std.specs.Prelude.{ℕ, pos, ◌-ℤ◌, Some}
use Rattle.pp_lexer.specs.declared.token.Location.{Location}
use Rattle.pp_model.specs.Definitions.{with_change}
use Rattle.pp_model.specs.Reads.{numbered_line}
use Rattle.pp_model.specs.SourceReader.{SourceReader}
use Rattle.pp_model.specs.inner.Acts.{after_line}
use Rattle.pp_model.specs.declared.definition.Named.{Named}

-- the reader after a `#line` of this number, whose word is here
abbrev pub after_line_number : SourceReader → Location → ℕ → SourceReader
after_line_number reader word n =
    record (after_line reader) { line_offset = pos n -ℤ pos (numbered_line reader.rules word.line) }

-- the reader after a `#define` of a name that was not defined
abbrev pub after_define : Named → SourceReader → SourceReader
after_define named reader =
    record reader { definitions = with_change reader.definitions named.name (Some named.definition) }
