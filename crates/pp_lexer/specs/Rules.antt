-- The rules by which a source is read: pp-rs's, if none are asked for, and GLSL's.
use Rattle.std.specs.Prelude.{ℕ, true, false, nat_le}
use Rattle.pp_lexer.specs.declared.rules.Profile.{Profile}
use Rattle.pp_lexer.specs.declared.rules.Profile.TheVariants.{Core, Compatibility, Es}
use Rattle.pp_lexer.specs.declared.rules.Rules.{Rules}

abbrev pub pp_rs : Rules
pp_rs = record {
  takes_widths = false;
  takes_one_bad_character = false;
  passes_dead_errors = false;
  keeps_own_names = false;
  numbers_next_line = false;
  numbers_as_int = false;
  asks_includes = false;
}

-- The first version by which the line after a `#line n` has the number n (GLSL 3.30 and GLSL ES 3.00, section 3.3 and
-- 3.4).
abbrev pub numbered_from : Profile → ℕ
numbered_from Es = 300
numbered_from Core = 330
numbered_from Compatibility = 330

-- those of a version
abbrev pub glsl : ℕ → Profile → Rules
glsl version profile = record {
  takes_widths = true;
  takes_one_bad_character = true;
  passes_dead_errors = true;
  keeps_own_names = true;
  numbers_next_line = nat_le (numbered_from profile) version;
  numbers_as_int = true;
  asks_includes = false;
}

-- the same rules, by which an `#include` line is asked for its text. A name between `"` is no token, so a bad character
-- takes itself alone, and errors of the lexer in dead text and on lines that are skipped are passed.
abbrev pub with_includes : Rules → Rules
with_includes rules =
    record rules { takes_one_bad_character = true; passes_dead_errors = true; asks_includes = true }
