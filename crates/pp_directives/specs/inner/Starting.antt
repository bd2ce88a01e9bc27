-- The source before anything of it is read.
use Rattle.std.specs.Prelude.{ℕ, List, [], None, true, false, pos}
use Rattle.pp_lexer.specs.Items.{places_by}
use Rattle.pp_lexer.specs.Lexed.{start_by}
use Rattle.pp_lexer.specs.Spots.{spots_of}
use Rattle.pp_lexer.specs.declared.rules.Rules.{Rules}
use Rattle.pp_model.specs.Places.{source_text}
use Rattle.pp_macros.specs.inner.Source.{Source}

abbrev pub source_start : Rules → List ℕ → Source
source_start rules input =
    record {
      rules = rules;
      text = source_text;
      earlier = record { text = false; directive = false };
      around = [];
      rest = (start_by rules (spots_of input)).rest;
      places = places_by rules (spots_of input);
      over = true;
      error_place = None;
      definitions = [];
      blocks = [];
      line_offset = pos 0;
      spent = false;
      has_text = false;
      has_directive = false;
      dead_for_good = false;
      contents = 0;
    }
