-- The words of a file of words, up to a character of it.
use Rattle.std.specs.Prelude.{ℕ, if◌then◌else◌, Option, None, Some, List, ◌∷◌, ◌++◌, map, option_map, unwrap_or}
use Rattle.std.specs.Prelude.{[], string_bytes}
use Rattle.std.specs.Str.{chars}
use Rattle.glslpp_parts.specs.WordFiles.{Cut, all_words, cut, letters}
use Rattle.glslpp_parts.specs.declared.word_file.Cutter.{Cutter}

-- the words so far that are ended
abbrev pub ended_words : Cutter → List (List ℕ)
ended_words cutter = map (λ word. chars (string_bytes word)) cutter.words.items

-- the word that isn't, if one has begun
abbrev pub open_word : Cutter → Option (List ℕ)
open_word cutter = option_map (λ word. chars (string_bytes word)) cutter.word

-- a word goes on so, if one has begun
abbrev pub after_word : Option (List ℕ) → Cut → Cut
after_word None cut = cut
after_word (Some word) cut = record cut { word = Some (word ++ unwrap_or cut.word []) }

-- the words of a file, if these characters are left of it
abbrev pub joined : Cutter → List ℕ → List (List ℕ)
joined cutter rest =
    ended_words cutter
    ++ all_words (after_word (open_word cutter)
    (cut cutter.quote (letters (if cutter.is_escaped then 92 ∷ rest else rest))))
