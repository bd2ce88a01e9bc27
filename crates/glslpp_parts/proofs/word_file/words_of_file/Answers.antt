use Rattle.std.proofs.Common.{◌≡◌, ◌∙◌, ◌∷◌, [], None, ap, append-nil, false, refl, rules, sym}
use Rattle.std.specs.Str.{chars}
use Rattle.std.proofs.lemmas.Iterator.{YieldsList-from_chars}
use Rattle.std.proofs.lemmas.Iterator.Consumers.{YieldsList-end}
use Rattle.std.proofs.lemmas.List.{append_assoc, map-id}
use Rattle.glslpp_parts.specs.WordFiles.{words_of_file}
use Rattle.glslpp_parts.proofs.WordFilesLemmas.{joined_start, joined_end}
use Rattle.glslpp_parts.proofs.word_file.words_of_file.Goals as goal

pub characters-init : goal.characters-init
characters-init c = λ rest. joined_start (record { alloc = c.args.alloc; words = c.new.result; word = None; quote = None; is_escaped = false }) rest c.new.ensures.items refl refl refl

pub characters-preserved : goal.characters-preserved
characters-preserved c =
    λ rest. (c.in_ok-take.ensures {u = tt}) rest ∙ c.characters.invariant (c.in-Some.character ∷ rest)
    ∙ ap words_of_file (sym (append_assoc c.characters.yielded (c.in-Some.character ∷ []) rest))

pub returns : goal.returns
returns c =
    let all = YieldsList-end (YieldsList-from_chars {s = c.into_iter-character-iterator.result} c.args.text.now c.utf8.text (search rules))
    c.characters.yielded c.characters.character-iterator c.characters.yielded_by c.next.result c.next.new.self c.in-None.is c.next.ensures.steps in
    let whole : c.characters.yielded ≡ chars c.args.text.now = sym (map-id c.characters.yielded) ∙ all.0 in
    (c.in_ok-end_word.ensures {u = tt}).words ∙ sym (joined_end c.characters.cutter) ∙ c.characters.invariant []
    ∙ ap words_of_file (append-nil c.characters.yielded ∙ whole)
