-- The texts that are added after a source, as the code keeps them.
use Rattle.std.specs.Prelude.{ℕ, zero, suc, false, List, Option, None, is_some, option_map, slice_get, unwrap_or}
use Rattle.glslpp_parts.specs.declared.texts.Added.{Added as Kept}
use Rattle.glslpp_parts.specs.Texts.{Added, has_marks}

-- what is kept of a text that is added
abbrev pub added_of : Kept → Added
added_of kept = record {
  text = kept.text.now;
  is_file = is_some kept.file;
  is_marked = unwrap_or (option_map (λ file. has_marks file.0) kept.file) false;
}

-- the added text with this number, which is none for the source's
abbrev pub added_at : List Added → ℕ → Option Added
added_at added zero = None
added_at added (suc before) = slice_get added before
