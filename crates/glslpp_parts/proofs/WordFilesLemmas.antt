-- Words of a file, as its characters are taken one after the other.
use Rattle.std.proofs.Common.{◌≡◌, ◌≢◌, ◌∙◌, ℕ, Bool, inl, inr, true, false, if◌then◌else◌, List, [], ◌∷◌, ◌++◌, Option, Some, None, refl, sym, ap, nat_eq, append-nil}
use Rattle.std.specs.Prelude.{◌⊎◌, Result, Ok, Err, OnOk, unwrap_or}
use Rattle.std.specs.Option.{option_to_list}
use Rattle.std.proofs.lemmas.List.{append_assoc}
use Rattle.glslpp_parts.specs.WordFiles.{plain, letters, Cut, all_words, begun, with_character, cut, is_quotation_mark, is_white_space, words_of_file}
use Rattle.glslpp_parts.specs.inner.Cutting.{after_word, ended_words, joined, open_word}
use Rattle.glslpp_parts.specs.declared.word_file.Cutter.{Cutter}
use Rattle.std.proofs.lemmas.Bool.{ne_eqb}
use Rattle.std.proofs.lemmas.Bool.Decides.{eqb_tells}

-- a character that is no `\`
pub letters_plain : (c : ℕ) (rest : List ℕ) → nat_eq c 92 ≡ false → letters (c ∷ rest) ≡ plain c ∷ letters rest
letters_plain c [] other = rw other refl
letters_plain c (d ∷ rest) other = rw other refl

-- a character is put at the end of the word
pub after_pushed : (word : Option (List ℕ)) (c : ℕ) (k : Cut)
    → all_words (after_word (Some (unwrap_or word [] ++ c ∷ [])) k) ≡ all_words (after_word word (with_character c k))
after_pushed None c k = refl
after_pushed (Some word) c k = ap (λ (w : List ℕ). w ∷ k.words) (append_assoc word (c ∷ []) (unwrap_or k.word []))

-- a word begins
pub after_begun : (word : Option (List ℕ)) (k : Cut)
    → all_words (after_word (Some (unwrap_or word [])) k) ≡ all_words (after_word word (begun k))
after_begun None k = refl
after_begun (Some word) k = refl

-- a word ends
pub after_ended : (word : Option (List ℕ)) (words : List (List ℕ))
    → option_to_list word ++ words ≡ all_words (after_word word (record { word = None; words = words }))
after_ended None words = refl
after_ended (Some word) words = ap (λ (w : List ℕ). w ∷ words) (sym (append-nil word))

-- what a cutter gives whose words so far are these, if letters give this
abbrev gives : Cutter → Cut → List (List ℕ)
gives cutter whole = ended_words cutter ++ all_words (after_word (open_word cutter) whole)

same_number : (n : ℕ) → nat_eq n n ≡ true
same_number n = by (eqb_tells n n)
  where
    by : ((nat_eq n n ≡ true) × (n ≡ n)) ⊎ ((nat_eq n n ≡ false) × (n ≢ n)) → nat_eq n n ≡ true
    by (inl same) = same.0
    by (inr apart) = absurd (apart.1 refl)

-- a quotation mark that is open is met again
cut_closed : (mark c : ℕ) (rest : List ℕ) → c ≡ mark → (c ≡ 92 → ⊥) → cut (Some mark) (letters (c ∷ rest)) ≡ cut None (letters rest)
cut_closed mark c rest same other = rw (letters_plain c rest (ne_eqb c 92 other), same, same_number mark) refl

module _ (cutter : Cutter) (c : ℕ) (rest : List ℕ) where
  -- the character is after a `\`
  pub after_backslash : cutter.is_escaped ≡ true → joined cutter (c ∷ rest) ≡ gives cutter (with_character c (cut cutter.quote (letters rest)))
  after_backslash on = rw on refl

  module _ (off : cutter.is_escaped ≡ false) (other : c ≡ 92 → ⊥) where
    -- it is the quotation mark that is open
    pub at_end_of_quotation : (mark : ℕ) → cutter.quote ≡ Some mark → c ≡ mark → joined (record cutter { quote = None }) rest ≡ joined cutter (c ∷ rest)
    at_end_of_quotation mark quote same = rw (off, quote, cut_closed mark c rest same other) refl

    -- it is another character between quotation marks
    pub in_quotation : (mark : ℕ) → cutter.quote ≡ Some mark → (c ≡ mark → ⊥) → joined cutter (c ∷ rest) ≡ gives cutter (with_character c (cut cutter.quote (letters rest)))
    in_quotation mark quote apart = rw (off, quote, letters_plain c rest (ne_eqb c 92 other), ne_eqb c mark apart) refl

    -- it is none of both
    module _ (quote : cutter.quote ≡ None) where
      pub at_quotation : is_quotation_mark c ≡ true → joined cutter (c ∷ rest) ≡ gives cutter (begun (cut (Some c) (letters rest)))
      at_quotation is = rw (off, quote, letters_plain c rest (ne_eqb c 92 other), is) refl

      pub at_white_space : is_quotation_mark c ≡ false → is_white_space c ≡ true
          → joined cutter (c ∷ rest) ≡ gives cutter (record { word = None; words = all_words (cut None (letters rest)) })
      at_white_space unmarked is = rw (off, quote, letters_plain c rest (ne_eqb c 92 other), unmarked, is) refl

      pub in_word : is_quotation_mark c ≡ false → is_white_space c ≡ false → joined cutter (c ∷ rest) ≡ gives cutter (with_character c (cut cutter.quote (letters rest)))
      in_word unmarked apart = rw (off, quote, letters_plain c rest (ne_eqb c 92 other), unmarked, apart) refl

-- the cutter after a character that is put at the end of its word
push_joins : (old new : Cutter) (c : ℕ) (rest : List ℕ) → new ≡ record old { word = new.word } → old.is_escaped ≡ false
    → open_word new ≡ Some (unwrap_or (open_word old) [] ++ c ∷ []) → joined new rest ≡ gives old (with_character c (cut old.quote (letters rest)))
push_joins old new c rest same off word =
    let moved : joined new rest ≡ joined (record old { word = new.word }) rest = ap (λ (k : Cutter). joined k rest) same in
    moved ∙ rw (off, word) (ap (λ (words : List (List ℕ)). ended_words old ++ words) (after_pushed (open_word old) c (cut old.quote (letters rest))))

-- the same unless memory ran out, if all of the words are those
pub pushes : {T E : Type 0} (r : Result T E) (old new : Cutter) (c : ℕ) (all : List ℕ → List (List ℕ))
    → OnOk r (new ≡ record old { word = new.word }) → old.is_escaped ≡ false
    → OnOk r (open_word new ≡ Some (unwrap_or (open_word old) [] ++ c ∷ []))
    → ((rest : List ℕ) → all rest ≡ gives old (with_character c (cut old.quote (letters rest)))) → OnOk r ((rest : List ℕ) → joined new rest ≡ all rest)
pushes (Ok x) old new c all same off word is = λ rest. push_joins old new c rest same off word ∙ sym (is rest)
pushes (Err x) old new c all same off word is = tt

-- a word begins at a quotation mark
pub begin_joins : (old new : Cutter) (c : ℕ) (rest : List ℕ) → new ≡ record old { quote = Some c; word = new.word } → old.is_escaped ≡ false
    → open_word new ≡ Some (unwrap_or (open_word old) []) → joined new rest ≡ gives old (begun (cut (Some c) (letters rest)))
begin_joins old new c rest same off word =
    let moved : joined new rest ≡ joined (record old { quote = Some c; word = new.word }) rest = ap (λ (k : Cutter). joined k rest) same in
    moved ∙ rw (off, word) (ap (λ (words : List (List ℕ)). ended_words old ++ words) (after_begun (open_word old) (cut (Some c) (letters rest))))

-- white space ends the word, if one has begun
end_joins : (old new : Cutter) (rest : List ℕ) → new ≡ record old { words = new.words; word = None }
    → ended_words new ≡ ended_words old ++ option_to_list (open_word old) → old.is_escaped ≡ false → old.quote ≡ None
    → joined new rest ≡ gives old (record { word = None; words = all_words (cut None (letters rest)) })
end_joins old new rest same words off quote =
    let moved : joined new rest ≡ joined (record old { words = new.words; word = None }) rest = ap (λ (k : Cutter). joined k rest) same in
    let left : List (List ℕ) = all_words (cut None (letters rest)) in
    moved ∙ rw (off, quote, words)
    (append_assoc (ended_words old) (option_to_list (open_word old)) left ∙ ap (λ (more : List (List ℕ)). ended_words old ++ more) (after_ended (open_word old) left))

-- the same unless memory ran out
pub ends : {T E : Type 0} (r : Result T E) (old new : Cutter) (all : List ℕ → List (List ℕ)) → OnOk r (new ≡ record old { words = new.words; word = None })
    → OnOk r (ended_words new ≡ ended_words old ++ option_to_list (open_word old)) → old.is_escaped ≡ false → old.quote ≡ None
    → ((rest : List ℕ) → all rest ≡ gives old (record { word = None; words = all_words (cut None (letters rest)) }))
    → OnOk r ((rest : List ℕ) → joined new rest ≡ all rest)
ends (Ok x) old new all same words off quote is = λ rest. end_joins old new rest same words off quote ∙ sym (is rest)
ends (Err x) old new all same words off quote is = tt

-- at the start of the text
pub joined_start : (cutter : Cutter) (rest : List ℕ) → cutter.words.items ≡ [] → cutter.word ≡ None → cutter.quote ≡ None → cutter.is_escaped ≡ false
    → joined cutter rest ≡ words_of_file rest
joined_start cutter rest words word quote off = rw (words, word, quote, off) refl

-- at the end of the text
pub joined_end : (cutter : Cutter) → joined cutter [] ≡ ended_words cutter ++ option_to_list (open_word cutter)
joined_end cutter =
    ap (λ (words : List (List ℕ)). ended_words cutter ++ words) (ap (λ (k : Cut). all_words (after_word (open_word cutter) k)) (nothing_left cutter.quote cutter.is_escaped) ∙ none_after (open_word cutter))
  where
    nothing_left : (quote : Option ℕ) (is_escaped : Bool) → cut quote (letters (if is_escaped then 92 ∷ [] else [])) ≡ record { word = None; words = [] }
    nothing_left quote true = refl
    nothing_left quote false = refl

    none_after : (word : Option (List ℕ)) → all_words (after_word word (record { word = None; words = [] })) ≡ option_to_list word
    none_after None = refl
    none_after (Some word) = ap (λ (w : List ℕ). w ∷ []) (append-nil word)
