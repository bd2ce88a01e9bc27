-- The words of a command line up to `--`.
use Rattle.std.proofs.Common.{◌≡◌, ◌∙◌, refl, ap, sym, ℕ, ◌<◌, true, List, ◌∷◌, ◌++◌, map, length, take, drop, get_or}
use Rattle.std.specs.Prelude.{codes}
use Rattle.std.proofs.lemmas.List.{drop_more, take-append-drop, map-append}
use Rattle.glslpp_parts.specs.LongOptions.{each_option, is_same_word}

-- words after which there are no options
end_stays : (f : List ℕ → List ℕ) (words rest : List (List ℕ)) (word : List ℕ) → words ≡ word ∷ rest → is_same_word word (codes "--") ≡ true
    → words ≡ each_option f words
end_stays f words rest word same is_end = rw same (rw is_end refl)

-- from a word `--` on, all stay
pub stays_from : {X : Type 0} (f : List ℕ → List ℕ) (text : X → List ℕ) (words : List X) (i : ℕ) (word : X) → i < length words
    → is_same_word (text (get_or words i word)) (codes "--") ≡ true
    → map text words ≡ map text (take i words) ++ each_option f (map text (drop i words))
stays_from f text words i word below is_end =
    ap (map text) (sym (take-append-drop i words)) ∙ map-append text (take i words) (drop i words)
    ∙ ap (λ rest. map text (take i words) ++ rest) (end_stays f _ _ _ (ap (map text) (drop_more words i word below)) is_end)
