use Rattle.std.proofs.Common.{◌≡◌, ◌∙◌, ℕ, List, [], ◌∷◌, ◌++◌, Some, Ok, Err, sym, ap, string_bytes}
use Rattle.std.specs.Prelude.{Result, OnOk, option_map}
use Rattle.std.specs.Str.{chars}
use Rattle.std.proofs.lemmas.Str.{IsUtf8-string_bytes}
use Rattle.pp_lexer.proofs.values.TextLemmas.{chars-pushed}
use Rattle.glslpp_parts.proofs.word_file.Cutter.push.Goals as goal

-- a character at the end of a word, as these bytes spell it
pushed : {T E : Type 0} (r : Result T E) (before after word : List ℕ) (c : ℕ) → OnOk r (chars after ≡ chars before ++ c ∷ [])
    → Some (chars before) ≡ Some word → OnOk r (Some (chars after) ≡ Some (word ++ c ∷ []))
pushed (Ok x) before after word c e same =
    let word_is : chars before ≡ word = cc in
    ap Some (e ∙ ap (λ w. w ++ c ∷ []) word_is)
pushed (Err x) before after word c e same = tt

pub returns-in-Some-clause-word : goal.returns-in-Some-clause-word
returns-in-Some-clause-word c =
    pushed c.push.result _ _ _ c.args.character
    (chars-pushed c.push.result (string_bytes c.in-Some.word) (string_bytes c.push.new.self) c.args.character (IsUtf8-string_bytes c.in-Some.word) c.ranges.character.0
    c.push.ensures.bytes).0
    (ap (option_map (λ word. chars (string_bytes word))) (sym c.in-Some.is) ∙ c.begin_word.ensures.word)
